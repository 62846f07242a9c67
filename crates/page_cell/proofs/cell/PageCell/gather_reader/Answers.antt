use Rattle.std.proofs.Common.{◌≡◌, ◌≤◌, ℕ, length, sym, ap, ◌∙◌, subst, arith}
use Rattle.std.specs.Prelude.{All}
use Rattle.atomic_table.specs.Table.{Me}
use Rattle.page_cell.specs.Claims.{IsReading, IsTally}
use Rattle.page_cell.specs.Passes.{CellFields, Known, KnownReader, IsBaton, key_of}
use Rattle.page_cell.specs.Steps.{Holds}
use Rattle.page_cell.specs.Views.{both}
use Rattle.page_cell.specs.declared.view.View.{View}
use Rattle.page_cell.proofs.Joins.{joins}
use Rattle.page_cell.proofs.PassKinds.{takes_in, reported_of_reader, reported_tally, seen_of_reader}
use Rattle.page_cell.proofs.Splits.{cuts}
use Rattle.page_cell.proofs.cell.PageCell.gather_reader.Goals as goal

pub split_seat-whole-requires : goal.split_seat-whole-requires
split_seat-whole-requires c =
    let i = c.r.invariant.1 in
    let wide = c.self.invariant in
    (ap (λ (k : KnownReader). k.table) c.r.view_is ∙ c.requires.reader ∙ sym (ap (λ (z : CellFields). z.table) c.self.view_is), omega (arith, wide), cuts _ _ _ i.rests.live)

pub join_seat-requires : goal.join_seat-requires
join_seat-requires c =
    let i = c.b.invariant.1 in
    let w = c.split_seat-whole.ensures in
    let wide = c.self.invariant in
    let tf = ap (λ (k : KnownReader). k.table) c.r.view_is ∙ c.requires.reader ∙ sym (ap (λ (z : CellFields). z.table) c.self.view_is) in
    let tb = ap (λ (k : Known). k.table) c.b.view_is ∙ c.requires.baton ∙ sym (ap (λ (z : CellFields). z.table) c.self.view_is) in
    (tb, w.3 ∙ tf, ap (λ (m : Me ℕ View). m.1) w.4, omega (arith, wide), joins _ _ _ _ _ i.rests.live (ap (λ (m : Me ℕ View). m.0.spent) w.4 ∙ c.r.invariant.1.rests.live) i.rests.trying)

pub look-requires-clause-holds : goal.look-requires-clause-holds
look-requires-clause-holds c =
    let j = c.join_seat.ensures in
    let w = c.split_seat-whole.ensures in
    let joined : c.join_seat.new.seat.me.0 ≡ both c.b.inside.token.me.0 c.r.inside.token.me.0 = ap (λ (m : Me ℕ View). m.0) j.2 ∙ ap (λ (m : Me ℕ View). both c.b.inside.token.me.0 m.0) w.4 in
    let i = subst (IsBaton c.b.inside.length) (sym joined) (takes_in c.b.inside.length c.b.inside.token.me.0 c.r.inside.token.me.0 c.b.invariant.1 c.r.invariant.1.baton) in
    (i.rests.live, i.baton)

pub returns-clause-readings : goal.returns-clause-readings
returns-clause-readings c =
    let j = c.join_seat.ensures in
    let w = c.split_seat-whole.ensures in
    let joined : c.join_seat.new.seat.me.0 ≡ both c.b.inside.token.me.0 c.r.inside.token.me.0 = ap (λ (m : Me ℕ View). m.0) j.2 ∙ ap (λ (m : Me ℕ View). both c.b.inside.token.me.0 m.0) w.4 in
    let reported = reported_of_reader _ _ c.b.inside.token.me.0 c.r.inside.token.me.0 c.b.invariant.1 c.r.invariant.1 (subst Holds joined c.look.ensures.reported) in
    subst (λ (k : Known). All (IsReading (key_of k.view) k.view.list) c.args.r.view.readings) c.b.view_is
    (subst (λ (k : KnownReader). All (IsReading (key_of c.b.inside.token.me.0) c.b.inside.token.me.0.list) k.view.readings) c.r.view_is reported)

pub returns-clause-seen : goal.returns-clause-seen
returns-clause-seen c =
    let j = c.join_seat.ensures in
    let w = c.split_seat-whole.ensures in
    let joined : c.join_seat.new.seat.me.0 ≡ both c.b.inside.token.me.0 c.r.inside.token.me.0 = ap (λ (m : Me ℕ View). m.0) j.2 ∙ ap (λ (m : Me ℕ View). both c.b.inside.token.me.0 m.0) w.4 in
    let reported = seen_of_reader _ c.b.inside.token.me.0 c.r.inside.token.me.0 c.r.invariant.1 (subst Holds joined c.look.ensures.reported) in
    subst (λ (k : Known). c.args.r.view.seen ≤ length k.view.list) c.b.view_is
    (subst (λ (k : KnownReader). k.view.seen ≤ length c.b.inside.token.me.0.list) c.r.view_is reported)

pub returns-clause-tally : goal.returns-clause-tally
returns-clause-tally c =
    let j = c.join_seat.ensures in
    let w = c.split_seat-whole.ensures in
    let joined : c.join_seat.new.seat.me.0 ≡ both c.b.inside.token.me.0 c.r.inside.token.me.0 = ap (λ (m : Me ℕ View). m.0) j.2 ∙ ap (λ (m : Me ℕ View). both c.b.inside.token.me.0 m.0) w.4 in
    let reported = reported_tally _ c.b.inside.token.me.0 c.r.inside.token.me.0 c.r.invariant.1 (subst Holds joined c.look.ensures.reported) in
    subst (λ (k : Known). IsTally (length k.view.list) (c.args.r.view.watch.torn, c.args.r.view.watch.greatest)) c.b.view_is
    (subst (λ (k : KnownReader). IsTally (length c.b.inside.token.me.0.list) (k.view.watch.torn, k.view.watch.greatest)) c.r.view_is reported)
