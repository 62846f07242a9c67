use Rattle.std.proofs.Common.{◌≡◌, ℕ, sym, ap, ◌∙◌, subst, arith}
use mathlib.Core.List.{IsPrefix}
use Rattle.atomic_table.specs.Table.{Me}
use Rattle.page_cell.specs.Passes.{CellFields, Known, IsPublisher, claim_of}
use Rattle.page_cell.specs.Steps.{Holds}
use Rattle.page_cell.specs.Views.{both}
use Rattle.page_cell.specs.declared.view.View.{View}
use Rattle.page_cell.proofs.Joins.{joins}
use Rattle.page_cell.proofs.PassKinds.{takes_baton, reported_before}
use Rattle.page_cell.proofs.Splits.{cuts, hands_back}
use Rattle.page_cell.proofs.cell.PageCell.show.Goals as goal

pub split_seat-whole-requires : goal.split_seat-whole-requires
split_seat-whole-requires c =
    let i = c.b.invariant.1 in
    let wide = c.self.invariant in
    (ap (λ (k : Known). k.table) c.b.view_is ∙ c.requires.baton ∙ sym (ap (λ (z : CellFields). z.table) c.self.view_is), omega (arith, wide), cuts _ _ _ i.rests.live)

pub join_seat-requires : goal.join_seat-requires
join_seat-requires c =
    let i = c.f.invariant.1 in
    let w = c.split_seat-whole.ensures in
    let wide = c.self.invariant in
    let tf = ap (λ (k : Known). k.table) c.f.view_is ∙ c.requires.feed ∙ sym (ap (λ (z : CellFields). z.table) c.self.view_is) in
    let tb = ap (λ (k : Known). k.table) c.b.view_is ∙ c.requires.baton ∙ sym (ap (λ (z : CellFields). z.table) c.self.view_is) in
    (tf, w.3 ∙ tb, ap (λ (m : Me ℕ View). m.1) w.4, omega (arith, wide), joins _ _ _ _ _ i.rests.live (ap (λ (m : Me ℕ View). m.0.spent) w.4 ∙ c.b.invariant.1.rests.live) i.rests.trying)

pub look-requires-clause-holds : goal.look-requires-clause-holds
look-requires-clause-holds c =
    let w = c.split_seat-whole.ensures in
    let j = c.join_seat.ensures in
    let joined : c.join_seat.new.seat.me.0 ≡ both c.f.inside.token.me.0 c.b.inside.token.me.0 = ap (λ (m : Me ℕ View). m.0) j.2 ∙ ap (λ (m : Me ℕ View). both c.f.inside.token.me.0 m.0) w.4 in
    let p = subst (IsPublisher c.f.inside.number c.b.inside.length) (sym joined) (takes_baton c.f.inside.number c.f.inside.length c.b.inside.length c.f.inside.token.me.0 c.b.inside.token.me.0 c.f.invariant.1 c.b.invariant.1) in
    (p.rests.live, p.baton)

pub split_seat-requires : goal.split_seat-requires
split_seat-requires c =
    let w = c.split_seat-whole.ensures in
    let j = c.join_seat.ensures in
    let l = c.look.ensures in
    let wide = c.self.invariant in
    let tf = ap (λ (k : Known). k.table) c.f.view_is ∙ c.requires.feed ∙ sym (ap (λ (z : CellFields). z.table) c.self.view_is) in
    let joined : c.look.new.token.me.0 ≡ both c.f.inside.token.me.0 c.b.inside.token.me.0 = ap (λ (m : Me ℕ View). m.0) l.me ∙ ap (λ (m : Me ℕ View). m.0) j.2 ∙ ap (λ (m : Me ℕ View). both c.f.inside.token.me.0 m.0) w.4 in
    let p = subst (IsPublisher c.f.inside.number c.b.inside.length) (sym joined) (takes_baton c.f.inside.number c.f.inside.length c.b.inside.length c.f.inside.token.me.0 c.b.inside.token.me.0 c.f.invariant.1 c.b.invariant.1) in
    (l.own ∙ j.0 ∙ tf, omega (arith, wide), hands_back _ _ _ p.rests.live p.baton)

pub returns-clause-before : goal.returns-clause-before
returns-clause-before c =
    let w = c.split_seat-whole.ensures in
    let j = c.join_seat.ensures in
    let joined : c.join_seat.new.seat.me.0 ≡ both c.f.inside.token.me.0 c.b.inside.token.me.0 = ap (λ (m : Me ℕ View). m.0) j.2 ∙ ap (λ (m : Me ℕ View). both c.f.inside.token.me.0 m.0) w.4 in
    let reported = reported_before _ _ _ c.f.inside.token.me.0 c.b.inside.token.me.0 c.f.invariant.1 c.b.invariant.1 (subst Holds joined c.look.ensures.reported) in
    subst (λ (k : Known). IsPrefix (claim_of c.args.f.now.view).seen k.view.list) c.b.view_is
    (subst (λ (k : Known). IsPrefix (claim_of k.view).seen c.b.inside.token.me.0.list) c.f.view_is reported)
