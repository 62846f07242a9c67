-- What stays true in the loops of `leaps::next_ahead`.
use Rattle.std.proofs.Common.{◌≡◌, take}
use Rattle.system_fold.specs.Leaps.{armed_among}
use Rattle.system_fold.proofs.leaps.next_ahead.Given as goal

abbrev pub invariant-loop-word : goal.invariant-loop-word
invariant-loop-word l = l.next ≡ armed_among l.now l.verdict (take l.word-index l.words)
