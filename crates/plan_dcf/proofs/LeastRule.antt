-- The rules of DCF77 are listed by number, so the first that is broken is the least.
use Rattle.std.proofs.Common.{◌≡◌, ℕ, Some, List, refl}
use Rattle.frame_rules.proofs.LeastLaws.{first-is_least}
use Rattle.frame_rules.specs.First.{IsLeastBroken}
use Rattle.tick_units.specs.declared.marks.Mark.{Mark}
use Rattle.plan_dcf.specs.Rules.{first, rules}

pub first_is_least : (marks : List Mark) (n : ℕ) → first marks ≡ Some n → IsLeastBroken (rules marks) n
unfolding first
first_is_least marks n e = first-is_least (rules marks) n refl e
