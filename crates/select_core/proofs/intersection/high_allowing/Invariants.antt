-- What stays true in the loops of `intersection::high_allowing`.
use Rattle.std.proofs.Common.{◌≡◌, take, map}
use Rattle.std.specs.Prelude.{filter}
use Rattle.select_core.specs.Selection.{greatest, is_held, upper}
use Rattle.select_core.proofs.intersection.high_allowing.Given as goal

abbrev pub invariant-loop-c : goal.invariant-loop-c
invariant-loop-c l = l.high ≡ greatest (filter (is_held l.candidates l.allowed) (map upper (take l.c-index l.candidates)))
