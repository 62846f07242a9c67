-- What the proof of `minutes::PairingOf::begin` needs.
use Rattle.std.proofs.Common.{[]}
use Rattle.minute_pair.proofs.minutes.PairingOf.begin.Goals as goal

pub returns-clause-frame : goal.returns-clause-frame
returns-clause-frame g c = c.add.ensures [] c.new-frame.ensures
