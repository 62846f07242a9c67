use Rattle.std.proofs.Common.{ℕ, length, sym, ap, ◌∙◌, arith, rules}
use Rattle.std.proofs.lemmas.List.{length-take-le}
use Rattle.atomic_table.specs.Table.{Me}
use Rattle.page_cell.specs.declared.view.View.{View}
use Rattle.page_cell.proofs.Stores.{stores_ok}
use Rattle.page_cell.proofs.storing.store_words.Goals as goal

pub store-requires : goal.store-requires
store-requires c =
    let i = c.loop-i.invariant in
    let list = ap (λ (m : Me ℕ View). length m.0.list) i.1 ∙ sym c.requires.total.0 in
    let len = ap (λ (m : Me ℕ View). length m.0.stored) i.1 ∙ length-take-le c.loop-i.i c.args.ten.now (search rules) in
    (i.0 ∙ c.requires.own.0, omega (arith, c.requires.own.1), stores_ok _ _ _ _ _ _ _ (ap (λ (m : Me ℕ View). m.0.baton) i.1 ∙ c.requires.baton.0) (omega (arith, len)) (omega (arith, len, list)))
