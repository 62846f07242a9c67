-- What stays true in the loops of `intersection::low_allowing`.
use Rattle.std.proofs.Common.{◌≡◌, take, map}
use Rattle.std.specs.Prelude.{filter}
use Rattle.select_core.specs.Selection.{is_held, least, lower}
use Rattle.select_core.proofs.intersection.low_allowing.Given as goal

abbrev pub invariant-loop-c : goal.invariant-loop-c
invariant-loop-c l = l.low ≡ least (filter (is_held l.candidates l.allowed) (map lower (take l.c-index l.candidates)))
