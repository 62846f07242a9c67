-- What the search leaves open of `fitting::fit_radios`.
use Rattle.std.proofs.Common.{◌≡◌, ◌∙◌, ◌+◌, ◌≤◌, Some, All, refl, sym, ap, subst, arith, rules}
use Rattle.std.proofs.lemmas.List.Elements.{All-nil}
use Rattle.std.specs.List.{slice_get}
use Rattle.std.specs.Option.{option_map}
use Rattle.station_values.specs.KeptStation.{radio_given}
use Rattle.station_gear.proofs.FittingLaws.{all-fitted, goes-on, some-left, starts}
use Rattle.station_gear.proofs.ListLaws.{some-at}
use Rattle.station_gear.proofs.RackLaws.{All-at}
use Rattle.station_gear.proofs.fitting.fit_radios.Goals as goal

pub loop-place-init : goal.loop-place-init
loop-place-init g c =
    let none = c.in_ok-receivers.ensures.items in
    record {
      fitted = starts _ _ _ c.args.station.now.radios none c.in_ok-spares.ensures.four;
      receivers = subst (All (λ b. (goal.Receiver-dyn g (b.vtable, b.value)).least_start b.value ≡ 0)) (sym none) (All-nil _);
      spares = c.in_ok-spares.ensures.ready;
      bounds = c.radios-count.ensures.bounds;
      count = c.radios-count.ensures.value;
      size = search rules;
      room = search rules;
    }

pub unwrap-row-requires : goal.unwrap-row-requires
unwrap-row-requires g c = some-at radio_given c.radio.result c.args.station.now.radios c.loop-place.place c.radio.ensures (let n = c.loop-place.invariant.count in omega arith)

pub add-requires-clause-left : goal.add-requires-clause-left
add-requires-clause-left g c =
    let some : c.radio.result ≡ Some c.unwrap-row.result = search rules in
    let at : slice_get c.args.station.now.radios c.loop-place.place ≡ Some (radio_given c.unwrap-row.result) = sym c.radio.ensures ∙ ap (option_map radio_given) some in
    some-left _ c.loop-place.receivers.items c.loop-place.spares.items c.args.station.now c.loop-place.place (radio_given c.unwrap-row.result) c.loop-place.invariant.bounds at c.loop-place.invariant.fitted

pub add-requires-clause-delay : goal.add-requires-clause-delay
add-requires-clause-delay g c =
    let some : c.radio.result ≡ Some c.unwrap-row.result = search rules in
    let at : slice_get c.args.station.now.radios c.loop-place.place ≡ Some (radio_given c.unwrap-row.result) = sym c.radio.ensures ∙ ap (option_map radio_given) some in
    All-at (λ r. r.delay ≤ 100000) c.args.station.now.radios c.loop-place.place (radio_given c.unwrap-row.result) at c.loop-place.invariant.bounds.delays

pub loop-place-preserved : goal.loop-place-preserved
loop-place-preserved g c =
    let some : c.radio.result ≡ Some c.unwrap-row.result = search rules in
    let fields = radio_given c.unwrap-row.result in
    let at : slice_get c.args.station.now.radios c.loop-place.place ≡ Some fields = sym c.radio.ensures ∙ ap (option_map radio_given) some in
    record {
      fitted = goes-on _ c.add.new.receivers.items c.add.new.spares.items c.args.station.now.radios c.loop-place.place fields at (c.add.ensures.added _ fields refl refl c.loop-place.invariant.fitted);
      receivers = c.add.ensures.receivers;
      spares = c.add.ensures.spares;
      bounds = c.loop-place.invariant.bounds;
      count = c.loop-place.invariant.count;
      size = c.add.ensures.length ∙ ap (λ n. n + 1) c.loop-place.invariant.size;
      room = (let r = c.loop-place.invariant.room in let same = c.add.ensures.room in omega arith);
    }

pub returns-clause-fitted : goal.returns-clause-fitted
returns-clause-fitted g c = all-fitted _ c.loop-place.receivers.items c.loop-place.spares.items c.args.station.now.radios c.loop-place.place (omega (arith, c.loop-place.invariant.count)) c.loop-place.invariant.fitted
