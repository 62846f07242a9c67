-- What stays true in the loop of `minutes::are_of`.
use Rattle.std.proofs.Common.{◌≤◌, List, length}
use Rattle.journal_entry.specs.declared.entry.Entry.{Entry}
use Rattle.system_fold.specs.KeptFold.{StandsForJournal}
use Rattle.worker_tests.proofs.minutes.are_of.Given as goal

abbrev pub invariant-loop-number : goal.invariant-loop-number
invariant-loop-number l = record {
  list : List Entry;
  stands : StandsForJournal l.fold l.settings list;
  few : length list ≤ l.number;
}
