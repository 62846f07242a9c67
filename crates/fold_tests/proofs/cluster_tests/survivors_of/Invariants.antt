-- What stays true in the loops of `cluster_tests::survivors_of`.
use Rattle.std.proofs.Common.{◌≡◌, ◌^◌, length, pos}
use Rattle.std.specs.Prelude.{All, neg_ℤ, ◌≤ℤ◌}
use Rattle.cluster_core.specs.Bounds.{IsWeighable}
use Rattle.fold_tests.proofs.cluster_tests.survivors_of.Given as goal

abbrev pub invariant-loop-feed : goal.invariant-loop-feed
invariant-loop-feed l = record {
  count : length l.survivors ≡ l.feed;
  measured : All IsWeighable l.survivors;
  low : All (λ x. neg_ℤ (pos (2 ^ 31)) ≤ℤ x.offset) l.survivors;
  high : All (λ x. x.offset ≤ℤ pos (2 ^ 31)) l.survivors;
}
