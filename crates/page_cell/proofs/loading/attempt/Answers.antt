use Rattle.std.proofs.Common.{ℕ, length, ap, ◌∙◌, arith}
use Rattle.atomic_table.specs.Table.{Me}
use Rattle.page_cell.specs.declared.view.View.{View}
use Rattle.page_cell.proofs.Loads.{begins_ok, ends_ok}
use Rattle.page_cell.proofs.loading.attempt.Goals as goal

pub load-first-requires : goal.load-first-requires
load-first-requires g c = (c.requires.own.0, omega (arith, c.requires.own.1), begins_ok _ _ _ _ _)

pub load-second-requires : goal.load-second-requires
load-second-requires g c =
    let w = c.load_words-ten.ensures in
    let b = c.load-first.ensures in
    (w.own ∙ b.0 ∙ c.requires.own.0, omega (arith, c.requires.own.1), ends_ok _ _ _ _ _ (ap (λ (m : Me ℕ View). m.0.watch.trying) w.me ∙ ap (λ (v : View). v.watch.trying) b.2.1) (ap (λ (m : Me ℕ View). length m.0.watch.loaded) w.me ∙ w.ten))
