-- What the proof of `frame::FramePlaces::is_long` needs.
use Rattle.std.proofs.Common.{refl}
use Rattle.tick_units.specs.Marks.{is_long}
use Rattle.frame_rules.proofs.frame.FramePlaces.is_long.Goals as goal

pub returns : goal.returns
returns g c = λ marks h. c.has.ensures is_long marks h.longs refl
