-- The invariants of the loop of `reader::LineReader::go_on`.
use Rattle.pulse_log.proofs.PrefixesLaws.{GoesSo}
use Rattle.pulse_log.proofs.reader.LineReader.go_on.Given as goal

abbrev pub invariant-bytes : goal.invariant-bytes
invariant-bytes l = GoesSo l.self l.line l.bytes l.count l.byte-index
