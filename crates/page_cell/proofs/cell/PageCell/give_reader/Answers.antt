use Rattle.std.proofs.Common.{sym, ap, ◌∙◌, arith}
use Rattle.page_cell.specs.Passes.{CellFields, Known}
use Rattle.page_cell.proofs.Splits.{gives_reader}
use Rattle.page_cell.proofs.cell.PageCell.give_reader.Goals as goal

pub split_seat-token-requires : goal.split_seat-token-requires
split_seat-token-requires c =
    let i = c.b.invariant.1 in
    let wide = c.self.invariant in
    (ap (λ (k : Known). k.table) c.b.view_is ∙ c.requires ∙ sym (ap (λ (z : CellFields). z.table) c.self.view_is), omega (arith, wide), gives_reader _ _ _ i.rests.live)
