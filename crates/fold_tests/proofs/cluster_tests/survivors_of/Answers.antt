-- What the search leaves open of `cluster_tests::survivors_of`.
use Rattle.std.proofs.Common.{◌^◌, pos, lit≤}
use Rattle.std.specs.Prelude.{neg_ℤ}
use Rattle.fold_tests.proofs.cluster_tests.survivors_of.Goals as goal

pub returns-clause-near : goal.returns-clause-near
returns-clause-near c = record {
  low = neg_ℤ (pos (2 ^ 31));
  high = pos (2 ^ 31);
  apart = lit≤ tt;
  from = c.loop-feed.invariant.low;
  upto = c.loop-feed.invariant.high;
}
