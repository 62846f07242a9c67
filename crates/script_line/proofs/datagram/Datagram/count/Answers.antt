-- What the search leaves open of `datagram::Datagram::count`.
use Rattle.std.proofs.Common.{length, ap, ◌∙◌}
use Rattle.script_line.proofs.DatagramLaws.{half_is}
use Rattle.script_line.proofs.datagram.Datagram.count.Goals as goal

pub returns-clause-value : goal.returns-clause-value
returns-clause-value c = half_is c.self.inside.digits.now c.self.invariant ∙ ap length c.self.view_is
