use Rattle.std.proofs.Common.{sym, ap, ◌∙◌, arith}
use Rattle.page_cell.specs.Passes.{CellFields, Known}
use Rattle.page_cell.proofs.Splits.{gives_receipt}
use Rattle.page_cell.proofs.cell.PageCell.receipt.Goals as goal

pub split_seat-token-requires : goal.split_seat-token-requires
split_seat-token-requires c =
    let i = c.f.invariant.1 in
    let wide = c.self.invariant in
    (ap (λ (k : Known). k.table) c.f.view_is ∙ c.requires ∙ sym (ap (λ (z : CellFields). z.table) c.self.view_is), omega (arith, wide), gives_receipt _ _ _ i.rests.live)
