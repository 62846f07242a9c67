-- What the proof of `reader::LineReader::end_whole` needs.
use Rattle.std.proofs.Common.{refl, arith}
use Rattle.pulse_log.proofs.WholeLaws.{takes_whole}
use Rattle.pulse_log.proofs.reader.LineReader.end_whole.Goals as goal

pub returns : goal.returns
returns c = λ before h.
    let found = c.args.found in
    let value = c.get.ensures.value in
    let below = c.get.ensures.below in
    takes_whole c.args.self.now _ before found h c.requires.none c.requires.empty c.requires.least (omega arith) c.requires.narrowest c.requires.widest refl refl (omega arith) c.requires.none
