use Rattle.std.proofs.Common.{◌≡◌, map}
use Rattle.std.specs.Prelude.{All}
use Rattle.std.specs.List.{range_with_len}
use Rattle.page_cell.specs.Passes.{Known, claim_of, key_of}
use Rattle.page_cell.specs.Views.{new_claim}
use Rattle.page_cell.proofs.cell.PageCell.give_feeds.Given as goal

abbrev pub invariant-loop-number : goal.invariant-loop-number
invariant-loop-number l = record {
  own : l.b.table ≡ l.initial.b.table;
  list : l.b.view.list ≡ l.initial.b.view.list;
  key : key_of l.b.view ≡ key_of l.initial.b.view;
  given : l.b.view.given ≡ l.number;
  claims : map (λ (f : Known). claim_of f.view) l.feeds.items ≡ map new_claim (range_with_len 0 l.number);
  owns : All (λ (f : Known). f.table ≡ l.self.table) l.feeds.items;
}
