-- What the proof of `reader::LineReader::take` needs.
use Rattle.std.proofs.lemmas.Bool.{ne_eqb}
use Rattle.std.proofs.Common.{refl, arith}
use Rattle.pulse_log.proofs.ReaderLaws.{stays, reaches, goes_on}
use Rattle.pulse_log.proofs.reader.LineReader.take.Goals as goal

pub returns-in-Some : goal.returns-in-Some
returns-in-Some c = λ bytes h. stays c.args.self.now bytes c.args.byte c.in-Some.bad h c.in-Some.is

pub returns-then-len-eq-LONGEST : goal.returns-then-len-eq-LONGEST
returns-then-len-eq-LONGEST c = λ bytes h.
    let length = c.len.ensures in
    reaches c.args.self.now c.stop.new.self bytes c.args.byte c.stop.result h c.in_default.is (ne_eqb c.args.byte 10 c.if-byte-eq10.false) (omega arith) c.stop.ensures.bad c.stop.ensures.line

pub returns : goal.returns
returns c = λ bytes h.
    let length = c.len.ensures in
    goes_on c.args.self.now _ bytes c.args.byte h c.in_default.is (ne_eqb c.args.byte 10 c.if-byte-eq10.false) (omega arith) c.add.ensures refl refl c.in_default.is
