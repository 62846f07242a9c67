-- Scaffolding: what a sweep keeps of its candidates, and their ends.
use Rattle.std.specs.Prelude.{◌<◌, List, map, ℤ, IsTrue}
use Rattle.std.specs.List.{AllPairs}
use Rattle.select_core.specs.Points.{AreAlike}
use Rattle.select_core.specs.Selection.{are_measured, lower, upper}
use Rattle.select_core.specs.declared.chime.Candidate.{Candidate}

-- each can be selected, and each is of a greater feed than those before it
pub record IsStanding (candidates : List Candidate) : Type 0 where
  pub measured : IsTrue (are_measured candidates)
  pub feeds : AllPairs (λ x y. x.feed < y.feed) candidates

-- the lower and the upper ends are those of the candidates
pub record AreEnds (candidates : List Candidate) (lows highs : List ℤ) : Type 0 where
  pub lowers : AreAlike lows (map lower candidates)
  pub uppers : AreAlike highs (map upper candidates)
