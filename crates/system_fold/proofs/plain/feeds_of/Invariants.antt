-- What stays true in the loops of `plain::feeds_of`.
use Rattle.std.proofs.Common.{◌≡◌, ◌≤◌, length, take}
use Rattle.system_fold.specs.KeptFold.{feeds_of}
use Rattle.system_fold.proofs.plain.feeds_of.Given as goal

abbrev pub invariant-loop-number : goal.invariant-loop-number
invariant-loop-number l = (l.feeds.items ≡ feeds_of (record l.settings { sources = take l.number l.settings.sources }) l.journal) × (length l.feeds.items ≤ l.number)
