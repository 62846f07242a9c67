-- What stays true in the loops of `plain::words_of`.
use Rattle.std.proofs.Common.{◌≡◌, length, take, map}
use Rattle.std.specs.List.{range_with_len}
use Rattle.system_fold.specs.Leaps.{word_of}
use Rattle.system_fold.proofs.plain.words_of.Given as goal

abbrev pub invariant-loop-feed : goal.invariant-loop-feed
invariant-loop-feed l = (length l.words ≡ 16) × (take l.feed l.words ≡ map (word_of l.journal) (range_with_len 0 l.feed))
