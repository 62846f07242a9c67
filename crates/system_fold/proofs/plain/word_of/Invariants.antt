-- What stays true in the loops of `plain::word_of`.
use Rattle.std.proofs.Common.{◌≡◌, take}
use Rattle.system_fold.specs.Leaps.{word_of}
use Rattle.system_fold.proofs.plain.word_of.Given as goal

abbrev pub invariant-loop-e : goal.invariant-loop-e
invariant-loop-e l = l.word ≡ word_of (take l.e-index l.journal) l.feed
