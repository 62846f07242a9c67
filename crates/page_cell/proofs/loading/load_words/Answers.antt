use Rattle.std.proofs.Common.{ℕ, ◌+◌, ◌*◌, ◌%◌, length, sym, ap, ◌∙◌, arith}
use Rattle.std.proofs.lemmas.List.{length-take-le}
use Rattle.atomic_table.specs.Table.{Me}
use Rattle.page_cell.specs.declared.view.View.{View}
use Rattle.page_cell.proofs.Loads.{loads_ok}
use Rattle.page_cell.proofs.loading.load_words.Goals as goal

pub load-requires : goal.load-requires
load-requires c =
    let i = c.loop-i.invariant in
    let first = ap (λ (m : Me ℕ View). m.0.watch.first) i.2 ∙ c.requires.trying.1 in
    let len = ap (λ (m : Me ℕ View). length m.0.watch.loaded) i.2 ∙ length-take-le c.loop-i.i c.loop-i.ten (omega (arith, i.1)) in
    (i.0 ∙ c.requires.own.0, omega (arith, c.requires.own.1), loads_ok _ _ _ _ _ _ (ap (λ (m : Me ℕ View). m.0.watch.trying) i.2 ∙ c.requires.trying.0) (sym (ap (λ (n : ℕ). 1 + 10 * (n % 2) + length c.loop-i.token.me.0.watch.loaded) first ∙ ap (λ (n : ℕ). 1 + 10 * (c.args.first % 2) + n) len)))
