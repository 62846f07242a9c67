-- What the search leaves open of `radios::Radios+BoxedReceiver::new`.
use Rattle.std.proofs.Common.{◌≡◌, ◌∙◌, ◌≤◌, Some, All, refl, sym, ap, subst, arith, rules}
use Rattle.std.proofs.lemmas.List.Elements.{All-nil}
use Rattle.std.specs.List.{slice_get}
use Rattle.std.specs.Option.{option_map}
use Rattle.station_values.specs.KeptStation.{radio_given}
use Rattle.replay_command.specs.KeptPlayer.{first_radios}
use Rattle.station_gear.proofs.ListLaws.{some-at}
use Rattle.replay_command.proofs.NewLaws.{all-radios, goes-on, some-left, starts}
use Rattle.station_gear.proofs.RackLaws.{All-at}
use Rattle.replay_command.proofs.radios.Radios+BoxedReceiver.new.Goals as goal

pub loop-place-init : goal.loop-place-init
loop-place-init g c =
    let none = c.in_ok-with_capacity.ensures.items in (
      starts _ _ c.args.station.now none c.in_ok-four_of_each.ensures.four,
      record { fitted = subst (All (λ r. (goal.Receiver-dyn g (r.receiver.vtable, r.receiver.value)).least_start r.receiver.value ≤ r.least)) (sym none) (All-nil _); left = c.in_ok-four_of_each.ensures.ready },
      c.radios-count.ensures.bounds,
      c.radios-count.ensures.value,
    )

pub unwrap-row-requires : goal.unwrap-row-requires
unwrap-row-requires g c = some-at radio_given c.radio.result c.args.station.now.radios c.loop-place.place c.radio.ensures (omega arith)

pub add-requires-clause-left : goal.add-requires-clause-left
add-requires-clause-left g c =
    let some : c.radio.result ≡ Some c.unwrap-row.result = search rules in
    let at : slice_get c.args.station.now.radios c.loop-place.place ≡ Some (radio_given c.unwrap-row.result) = sym c.radio.ensures ∙ ap (option_map radio_given) some in
    some-left _ c.loop-place.radios c.args.station.now c.loop-place.place (radio_given c.unwrap-row.result) c.loop-place.invariant.2 at c.loop-place.invariant.0

pub add-requires-clause-delay : goal.add-requires-clause-delay
add-requires-clause-delay g c =
    let some : c.radio.result ≡ Some c.unwrap-row.result = search rules in
    let at : slice_get c.args.station.now.radios c.loop-place.place ≡ Some (radio_given c.unwrap-row.result) = sym c.radio.ensures ∙ ap (option_map radio_given) some in
    All-at (λ r. r.delay ≤ 100000) c.args.station.now.radios c.loop-place.place (radio_given c.unwrap-row.result) at c.loop-place.invariant.2.delays

pub loop-place-preserved : goal.loop-place-preserved
loop-place-preserved g c =
    let some : c.radio.result ≡ Some c.unwrap-row.result = search rules in
    let fields = radio_given c.unwrap-row.result in
    let at : slice_get c.args.station.now.radios c.loop-place.place ≡ Some fields = sym c.radio.ensures ∙ ap (option_map radio_given) some in (
      goes-on _ c.add.new.self c.args.station.now c.loop-place.place fields at (c.in_ok-add.ensures.added (first_radios c.loop-place.place c.args.station.now) fields refl refl c.loop-place.invariant.0),
      c.in_ok-add.ensures.ready,
      c.loop-place.invariant.2,
      c.loop-place.invariant.3,
    )

pub returns-clause-played : goal.returns-clause-played
returns-clause-played g c = all-radios _ c.loop-place.radios c.args.station.now c.loop-place.place (omega (arith, c.loop-place.invariant.3)) c.loop-place.invariant.0
