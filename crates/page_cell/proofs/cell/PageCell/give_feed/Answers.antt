use Rattle.std.proofs.Common.{length, sym, ap, ◌∙◌, arith}
use Rattle.page_cell.specs.Passes.{CellFields, Known, key_of}
use Rattle.page_cell.proofs.Splits.{gives_feed_as}
use Rattle.page_cell.proofs.cell.PageCell.give_feed.Goals as goal

pub split_seat-token-requires : goal.split_seat-token-requires
split_seat-token-requires c =
    let i = c.b.invariant.1 in
    let wide = c.self.invariant in
    let given = ap (λ (k : Known). k.view.given) c.b.view_is in
    let count = ap (λ (k : Known). length (key_of k.view).sources) c.b.view_is in
    let next = c.requires.next in
    let room = c.requires.room in
    (ap (λ (k : Known). k.table) c.b.view_is ∙ c.requires.own ∙ sym (ap (λ (z : CellFields). z.table) c.self.view_is), omega (arith, wide), gives_feed_as _ _ _ i.rests.live i.baton (omega arith))
