-- The rules of MSF are listed by number, so the first that is broken is the least.
use Rattle.std.proofs.Common.{◌≡◌, ℕ, Some, List, refl}
use Rattle.frame_rules.proofs.LeastLaws.{first-is_least}
use Rattle.frame_rules.specs.First.{IsLeastBroken}
use Rattle.tick_units.specs.declared.marks.Mark.{Mark}
use Rattle.plan_msf.specs.Rules.{first, rules}

pub first_is_least : (marks : List Mark) (close n : ℕ) → first marks close ≡ Some n → IsLeastBroken (rules marks close) n
unfolding first
first_is_least marks close n e = first-is_least (rules marks close) n refl e
