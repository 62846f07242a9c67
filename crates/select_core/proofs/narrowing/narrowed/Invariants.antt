-- What stays true in the loops of `narrowing::narrowed`.
use Rattle.std.proofs.Common.{◌≡◌, ◌-◌, length}
use Rattle.std.specs.Prelude.{slice_get}
use Rattle.std.specs.List.{filter_map, range_with_len}
use Rattle.select_core.specs.Selection.{chime_allowing, chime_of}
use Rattle.select_core.proofs.narrowing.narrowed.Given as goal

-- the first interval for a number from here on is the answer
abbrev pub invariant-loop-allowed : goal.invariant-loop-allowed
invariant-loop-allowed l = slice_get (filter_map (chime_allowing l.candidates) (range_with_len l.allowed (length l.candidates - l.allowed))) 0 ≡ chime_of l.candidates
