-- What stays true in the loops of `plain::feed_of`.
use Rattle.std.proofs.Common.{◌≡◌, take}
use Rattle.clock_filter.specs.Held.{StandsFor}
use Rattle.system_fold.specs.Samples.{samples_of}
use Rattle.system_fold.proofs.plain.feed_of.Given as goal

abbrev pub invariant-loop-e : goal.invariant-loop-e
invariant-loop-e l = (l.feed.kind ≡ l.fn.kind) × StandsFor l.feed.filter (samples_of l.fn.kind l.number (take l.e-index l.journal))
