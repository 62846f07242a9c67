-- What stays true in the loops of `ends::edge`.
use Rattle.std.proofs.Common.{◌≡◌, ◌<◌, ◌≤◌, ℕ, ℤ, true, get_or, length}
use Rattle.select_core.specs.Ends.{is_sooner, on_the_way}
use Rattle.select_core.proofs.EdgeLaws.{Waits}
use Rattle.select_core.proofs.ends.edge.Given as goal

-- no open point was passed but those that are where the next one is; the ends that were counted are sooner than all to come
abbrev pub invariant-loop-begun : goal.invariant-loop-begun
invariant-loop-begun l = record {
  within : l.ended ≤ length l.ends;
  waits : Waits l.from l.begins l.ends l.wanted l.begun;
  prefix : (j : ℕ) (e : ℤ) → l.begun ≤ j → j < length l.begins → (k : ℕ) (d : ℤ) → k < l.ended → is_sooner l.from (get_or (on_the_way l.from l.ends) k d) (get_or (on_the_way l.from l.begins) j e) ≡ true;
}
