use Rattle.std.proofs.Common.{◌≡◌}
use Rattle.std.specs.Prelude.{All}
use Rattle.page_cell.specs.Passes.{KnownReader, key_of}
use Rattle.verdict_journal.specs.Journals.{HasRead}
use Rattle.verdict_journal.proofs.hub.gather_readers.Given as goal

abbrev pub invariant-loop-r : goal.invariant-loop-r
invariant-loop-r l = record {
  table : l.baton.table ≡ l.initial.baton.table;
  key : key_of l.baton.view ≡ key_of l.initial.baton.view;
  list : l.baton.view.list ≡ l.initial.baton.view.list;
  own : All (λ (f : KnownReader). f.table ≡ l.cell.table) l.readers.items;
  rest : All (λ (f : KnownReader). HasRead (key_of l.initial.baton.view) l.initial.baton.view.list f.view) l.readers.items → All (λ (f : KnownReader). HasRead (key_of l.initial.baton.view) l.initial.baton.view.list f.view) l.initial.readers.items;
}

abbrev pub decreases-loop-r : goal.decreases-loop-r
decreases-loop-r l = goal.left-loop-r l
