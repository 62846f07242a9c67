use Rattle.std.proofs.Common.{◌≡◌, [], map}
use Rattle.std.specs.List.{range_with_len}
use Rattle.std.specs.Prelude.{All, vec_len}
use Rattle.page_cell.specs.Passes.{KnownReader}
use Rattle.page_cell.proofs.cell.PageCell.give_readers.Given as goal

abbrev pub invariant-loop-number : goal.invariant-loop-number
invariant-loop-number l = record {
  same : l.b ≡ l.initial.b;
  numbers : map (λ (r : KnownReader). r.number) l.readers.items ≡ range_with_len 0 l.number;
  count : vec_len l.readers ≡ l.number;
  owns : All (λ (r : KnownReader). (r.table ≡ l.self.table) × (r.view.seen ≡ 0) × (r.view.readings ≡ []) × (r.view.watch.torn ≡ 0)) l.readers.items;
}
