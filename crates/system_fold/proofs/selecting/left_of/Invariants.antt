-- What stays true in the loops of `selecting::left_of`.
use Rattle.std.proofs.Common.{◌≡◌, take}
use Rattle.std.specs.Prelude.{option_map, slice_get}
use Rattle.system_fold.specs.Fields.{fresh_of}
use Rattle.system_fold.specs.Selecting.{sources_at}
use Rattle.system_fold.proofs.selecting.left_of.Given as goal

abbrev pub invariant-loop-survivor : goal.invariant-loop-survivor
invariant-loop-survivor l = record {
  peer : option_map (λ s. s.now) l.left.peer ≡ slice_get (sources_at l.fit (take l.survivor-index l.survivors)) 0;
  fresh : l.left.fresh ≡ fresh_of (sources_at l.fit (take l.survivor-index l.survivors));
}
