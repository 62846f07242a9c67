-- What stays true in the loops of `fold::blank_feeds`.
use Rattle.std.proofs.Common.{◌≡◌, take}
use Rattle.std.specs.Prelude.{map}
use Rattle.system_fold.specs.KeptFold.{blank}
use Rattle.system_fold.proofs.fold.blank_feeds.Given as goal

abbrev pub invariant-loop-kind : goal.invariant-loop-kind
invariant-loop-kind l = l.feeds.items ≡ map blank (take l.kind-index l.kinds)
