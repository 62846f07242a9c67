use Rattle.std.proofs.Common.{ℕ, ap, ◌∙◌, arith}
use Rattle.atomic_table.specs.Table.{Me}
use Rattle.page_cell.specs.declared.view.View.{View}
use Rattle.page_cell.proofs.Joins.{joins}
use Rattle.page_cell.proofs.Splits.{cuts}
use Rattle.page_cell.proofs.storing.begin.Goals as goal

pub split_seat-whole-requires : goal.split_seat-whole-requires
split_seat-whole-requires c = (c.requires.own.0, omega (arith, c.requires.own.2), cuts _ _ _ c.requires.baton.rests.live)

pub join_seat-requires : goal.join_seat-requires
join_seat-requires c =
    let w = c.split_seat-whole.ensures in
    let i = c.requires.feed.2 in
    (c.requires.own.1, w.3 ∙ c.requires.own.0, ap (λ (m : Me ℕ View). m.1) w.4, omega (arith, c.requires.own.2), joins _ _ _ _ _ i.rests.live (ap (λ (m : Me ℕ View). m.0.spent) w.4 ∙ c.requires.baton.rests.live) i.rests.trying)
