use Rattle.std.proofs.Common.{sym, ap, ◌∙◌, arith}
use Rattle.page_cell.specs.Passes.{CellFields, Known, KnownReader}
use Rattle.page_cell.proofs.Joins.{joins}
use Rattle.page_cell.proofs.cell.PageCell.learn.Goals as goal

pub join_seat-requires : goal.join_seat-requires
join_seat-requires c =
    let i = c.r.invariant.1 in
    let wide = c.self.invariant in
    (ap (λ (k : KnownReader). k.table) c.r.view_is ∙ c.requires.reader ∙ sym (ap (λ (z : CellFields). z.table) c.self.view_is), ap (λ (k : Known). k.table) c.t.view_is ∙ c.requires.receipt ∙ sym (ap (λ (z : CellFields). z.table) c.self.view_is), c.t.invariant.0, omega (arith, wide), joins _ _ _ _ _ i.rests.live c.t.invariant.1.live i.rests.trying)
