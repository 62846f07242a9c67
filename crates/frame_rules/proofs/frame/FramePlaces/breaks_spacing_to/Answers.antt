-- What the proof of `frame::FramePlaces::breaks_spacing_to` needs.
use Rattle.std.proofs.Common.{ap, not, ◌∙◌}
use Rattle.frame_rules.proofs.AddingLaws.{spacing_closed}
use Rattle.frame_rules.proofs.frame.FramePlaces.breaks_spacing_to.Goals as goal

pub returns-then-self : goal.returns-then-self
returns-then-self g c = λ marks h. c.if-self.true ∙ rw c.if-self.true at (spacing_closed c.args.self.now marks _ c.args.close h h.last)

pub returns-else-self : goal.returns-else-self
returns-else-self g c = λ marks h. ap not c.is_near.ensures ∙ rw c.if-self.false at (spacing_closed c.args.self.now marks c.last.result c.args.close h (c.last.ensures marks h))
