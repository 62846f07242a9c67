-- What stays true in the loops of `leaps::last_passed`.
use Rattle.std.proofs.Common.{◌≡◌, take}
use Rattle.system_fold.specs.Leaps.{passed_among}
use Rattle.system_fold.proofs.leaps.last_passed.Given as goal

abbrev pub invariant-loop-word : goal.invariant-loop-word
invariant-loop-word l = l.most ≡ passed_among l.now l.verdict (take l.word-index l.words)
