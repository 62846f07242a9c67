-- Each receiver that is put in the rack is a blank one, since its `new` says so of what is boxed; and four of each plan are a rack.
use Rattle.std.proofs.Common.{◌≡◌, refl, sym, subst, inl, inr, arith, rules}
use denote.Param.Object.{read_made}
use Rattle.tick_units.specs.declared.marks.Plan.TheVariants.{Dcf, Msf, Wwvb}
use Rattle.radio_receiver.specs.Histories.{History, blank_of}
use Rattle.station_gear.specs.Made.{HasOfEach}
use Rattle.station_gear.proofs.MadeLaws.{none_yet, rack_of, round}
use Rattle.radio_ntpd.proofs.run_arguments.OwnLists.{own-1}
use Rattle.radio_ntpd.proofs.run_arguments.Goals as goal

pub put_in_rack-requires : goal.put_in_rack-requires
put_in_rack-requires g c =
    let same = read_made own-1 _ (inl tt) refl (History → Type 0) (λ j y h. j.1.stands_for y h) _ _ _ c.into_dyn_box.ensures.1 in
    subst (λ (P : History → Type 0). P (blank_of Dcf)) (sym same) (subst (λ v. (own-1.entry (inl tt)).1.stands_for v (blank_of Dcf)) (sym c.in_ok-new.ensures.ok) c.new.ensures.stands)

pub put_in_rack-requires-in-loop : goal.put_in_rack-requires-in-loop
put_in_rack-requires-in-loop g c =
    let same = read_made own-1 _ (inr (inl tt)) refl (History → Type 0) (λ j y h. j.1.stands_for y h) _ _ _ c.into_dyn_box-in_ok-new-2.ensures.1 in
    subst (λ (P : History → Type 0). P (blank_of Msf)) (sym same) (subst (λ v. (own-1.entry (inr (inl tt))).1.stands_for v (blank_of Msf)) (sym c.in_ok-new-2.ensures.ok) c.new-in-loop-2.ensures.stands)

pub put_in_rack-requires-in-loop-2 : goal.put_in_rack-requires-in-loop-2
put_in_rack-requires-in-loop-2 g c =
    let same = read_made own-1 _ (inr (inr (inl tt))) refl (History → Type 0) (λ j y h. j.1.stands_for y h) _ _ _ c.into_dyn_box-in_ok-new-3.ensures.1 in
    subst (λ (P : History → Type 0). P (blank_of Wwvb)) (sym same) (subst (λ v. (own-1.entry (inr (inr (inl tt)))).1.stands_for v (blank_of Wwvb)) (sym c.in_ok-new-3.ensures.ok) c.new-in-loop-4.ensures.stands)

pub loop-init : goal.loop-init
loop-init g c = none_yet _ _ (search rules)

pub loop-preserved : goal.loop-preserved
loop-preserved g c = round _ c.loop.counter _ (c.in_ok-put_in_rack-3.ensures _ (c.in_ok-put_in_rack-2.ensures _ (c.in_ok-put_in_rack.ensures _ c.loop.invariant)))

pub run_to_outcome-requires-clause-rack : goal.run_to_outcome-requires-clause-rack
run_to_outcome-requires-clause-rack g c κs within =
    let whole : c.loop.counter ≡ 4 = omega arith in
    let has = subst (λ n. HasOfEach (λ b h. (own-1.entry b.vtable).1.stands_for b.value h) (λ _. n) c.loop.rack.items) whole c.loop.invariant in
    let rack = rack_of (λ b h. (own-1.entry b.vtable).1.stands_for b.value h) _ has in
    search rules

pub returns : goal.returns
returns g c = (
  record { refused = c.run_to_outcome.ensures.refused; runs = c.run_to_outcome.ensures.runs; complete = c.run_to_outcome.ensures.complete },
  c.run_to_outcome.ensures.reports,
)
