-- What stays true in the loop of `write_all`.
use Rattle.std.proofs.Common.{◌≡◌, ℕ, List, ◌++◌, length}
use Rattle.outside_traits.specs.Writing.{WritesAll}
use Rattle.outside_traits.proofs.text.write_all.Given as goal

-- what was written so far is the beginning of the text
abbrev pub invariant-rest : goal.invariant-rest
invariant-rest g l = (prefix : List ℕ) × (l.text ≡ prefix ++ l.rest) × WritesAll (g.K.Sink.state l.fn.out) (g.K.Sink.state l.out) prefix

abbrev pub decreases-rest : goal.decreases-rest
decreases-rest g l = length l.rest
