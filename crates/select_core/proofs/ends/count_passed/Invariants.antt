-- What stays true in the loops of `ends::count_passed`.
use Rattle.std.proofs.Common.{◌≡◌, ◌<◌, ℕ, ℤ, true, get_or}
use Rattle.select_core.specs.Ends.{is_sooner, on_the_way}
use Rattle.select_core.proofs.ends.count_passed.Given as goal

-- all that were gone over are sooner
abbrev pub invariant-loop-passed : goal.invariant-loop-passed
invariant-loop-passed l = (k : ℕ) (d : ℤ) → k < l.passed → is_sooner l.from (get_or (on_the_way l.from l.points) k d) l.at ≡ true
