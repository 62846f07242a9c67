use Rattle.std.proofs.Common.{◌≡◌}
use Rattle.std.specs.Prelude.{All}
use Rattle.page_cell.specs.Passes.{Known, key_of, claim_of}
use Rattle.page_cell.specs.Claims.{IsTrueOf}
use Rattle.verdict_journal.proofs.hub.gather_feeds.Given as goal

abbrev pub invariant-loop-f : goal.invariant-loop-f
invariant-loop-f l = record {
  table : l.baton.table ≡ l.initial.baton.table;
  key : key_of l.baton.view ≡ key_of l.initial.baton.view;
  list : l.baton.view.list ≡ l.initial.baton.view.list;
  own : All (λ (f : Known). f.table ≡ l.cell.table) l.feeds.items;
  rest : All (λ (f : Known). IsTrueOf l.initial.baton.view.list (claim_of f.view)) l.feeds.items → All (λ (f : Known). IsTrueOf l.initial.baton.view.list (claim_of f.view)) l.initial.feeds.items;
}

abbrev pub decreases-loop-f : goal.decreases-loop-f
decreases-loop-f l = goal.left-loop-f l
