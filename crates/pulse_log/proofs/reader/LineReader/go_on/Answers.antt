-- What the proof of `reader::LineReader::go_on` needs.
use Rattle.std.proofs.Common.{arith}
use Rattle.std.proofs.lemmas.Bool.{ne_eqb}
use Rattle.std.proofs.lemmas.List.{take_more}
use Rattle.pulse_log.proofs.PrefixesLaws.{goes_so}
use Rattle.pulse_log.proofs.reader.LineReader.go_on.Goals as goal

pub bytes-preserved : goal.bytes-preserved
bytes-preserved c =
    let length = c.len.ensures in
    goes_so c.args.self.now c.bytes.line c.add.new.self c.args.bytes.now c.bytes.count c.bytes.byte-index _ c.bytes.invariant (ne_eqb _ 10 c.if-byte-eq10.false) (omega (arith, c.if-len-eq-LONGEST.false, length)) c.add.ensures (take_more c.args.bytes.now c.bytes.byte-index 0 c.bytes-test.true)
