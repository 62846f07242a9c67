use Rattle.std.proofs.Common.{ℕ, Bool, ◌||◌, sym, ap, ◌∙◌, arith}
use Rattle.atomic_table.specs.Table.{Me}
use Rattle.page_cell.specs.Passes.{CellFields, Known}
use Rattle.page_cell.specs.declared.view.View.{View}
use Rattle.page_cell.proofs.PassKinds.{or_right}
use Rattle.page_cell.proofs.Splits.{hands_back}
use Rattle.page_cell.proofs.cell.PageCell.publish.Goals as goal

pub split_seat-requires : goal.split_seat-requires
split_seat-requires c =
    let b = c.begin.ensures in
    let sc = c.store_count.ensures in
    let wide = c.self.invariant in
    let tf = ap (λ (k : Known). k.table) c.f.view_is ∙ c.requires.feed ∙ sym (ap (λ (z : CellFields). z.table) c.self.view_is) in
    let live = ap (λ (m : Me ℕ View). m.0.spent) sc.me ∙ ap (λ (m : Me ℕ View). m.0.spent) b.me ∙ c.f.invariant.1.rests.live in
    let has = ap (λ (m : Me ℕ View). m.0.baton) sc.me ∙ ap (λ (m : Me ℕ View). m.0.baton) b.me ∙ ap (λ (t : Bool). c.f.inside.token.me.0.baton || t) c.b.invariant.1.baton ∙ or_right c.f.inside.token.me.0.baton in
    (sc.own ∙ b.own.1 ∙ tf, omega (arith, wide), hands_back _ _ _ live has)
