use Rattle.std.proofs.Common.{◌≡◌, ℕ, List, sym, ap, ◌∙◌, subst, arith}
use Rattle.atomic_table.specs.Table.{Me}
use Rattle.journal_entry.specs.declared.entry.Entry.{Entry}
use Rattle.page_cell.specs.Claims.{IsTrueOf}
use Rattle.page_cell.specs.Passes.{CellFields, Known, IsBaton, claim_of}
use Rattle.page_cell.specs.Steps.{Holds}
use Rattle.page_cell.specs.Views.{both}
use Rattle.page_cell.specs.declared.view.Claim.{Claim}
use Rattle.page_cell.specs.declared.view.View.{View}
use Rattle.page_cell.proofs.Joins.{joins}
use Rattle.page_cell.proofs.PassKinds.{takes_in, reported_of_feed}
use Rattle.page_cell.proofs.Splits.{cuts}
use Rattle.page_cell.proofs.cell.PageCell.gather_feed.Goals as goal

pub split_seat-whole-requires : goal.split_seat-whole-requires
split_seat-whole-requires c =
    let i = c.f.invariant.1 in
    let wide = c.self.invariant in
    (ap (λ (k : Known). k.table) c.f.view_is ∙ c.requires.feed ∙ sym (ap (λ (z : CellFields). z.table) c.self.view_is), omega (arith, wide), cuts _ _ _ i.rests.live)

pub join_seat-requires : goal.join_seat-requires
join_seat-requires c =
    let i = c.b.invariant.1 in
    let w = c.split_seat-whole.ensures in
    let wide = c.self.invariant in
    let tf = ap (λ (k : Known). k.table) c.f.view_is ∙ c.requires.feed ∙ sym (ap (λ (z : CellFields). z.table) c.self.view_is) in
    let tb = ap (λ (k : Known). k.table) c.b.view_is ∙ c.requires.baton ∙ sym (ap (λ (z : CellFields). z.table) c.self.view_is) in
    (tb, w.3 ∙ tf, ap (λ (m : Me ℕ View). m.1) w.4, omega (arith, wide), joins _ _ _ _ _ i.rests.live (ap (λ (m : Me ℕ View). m.0.spent) w.4 ∙ c.f.invariant.1.rests.live) i.rests.trying)

pub look-requires-clause-holds : goal.look-requires-clause-holds
look-requires-clause-holds c =
    let j = c.join_seat.ensures in
    let w = c.split_seat-whole.ensures in
    let joined : c.join_seat.new.seat.me.0 ≡ both c.b.inside.token.me.0 c.f.inside.token.me.0 = ap (λ (m : Me ℕ View). m.0) j.2 ∙ ap (λ (m : Me ℕ View). both c.b.inside.token.me.0 m.0) w.4 in
    let i = subst (IsBaton c.b.inside.length) (sym joined) (takes_in c.b.inside.length c.b.inside.token.me.0 c.f.inside.token.me.0 c.b.invariant.1 c.f.invariant.1.baton) in
    (i.rests.live, i.baton)

pub returns-clause-claim : goal.returns-clause-claim
returns-clause-claim c =
    let j = c.join_seat.ensures in
    let w = c.split_seat-whole.ensures in
    let joined : c.join_seat.new.seat.me.0 ≡ both c.b.inside.token.me.0 c.f.inside.token.me.0 = ap (λ (m : Me ℕ View). m.0) j.2 ∙ ap (λ (m : Me ℕ View). both c.b.inside.token.me.0 m.0) w.4 in
    let reported = reported_of_feed _ _ c.b.inside.token.me.0 c.f.inside.token.me.0 c.f.invariant.1 (subst Holds joined c.look.ensures.reported) in
    subst (λ (l : List Entry). IsTrueOf l (claim_of c.args.f.view)) (ap (λ (k : Known). k.view.list) c.b.view_is)
    (subst (λ (d : Claim). IsTrueOf c.b.inside.token.me.0.list d) (ap (λ (k : Known). claim_of k.view) c.f.view_is) reported)
