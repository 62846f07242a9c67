use Rattle.std.proofs.Common.{◌≡◌, ◌==◌, ◌&&◌, length, bytes_eq}
use Rattle.std.specs.Iterator.Adapters.{zip_first, zip_second}
use Rattle.std.specs.Slice.Iter.{iter_rest}
use Rattle.packet_auth.proofs.comparing.is_same.Given as goal

-- the digests are the same where no byte so far differs and what is left is the same
abbrev pub invariant-loop-own : goal.invariant-loop-own
invariant-loop-own l =
    (length (iter_rest (zip_first l.own-iterator)) ≡ length (iter_rest (zip_second l.own-iterator)))
    × ((l.differing == 0 && bytes_eq (iter_rest (zip_first l.own-iterator)) (iter_rest (zip_second l.own-iterator))) ≡ bytes_eq l.made l.claimed)
