-- What the search leaves open of `opening::open_logs`.
use Rattle.std.proofs.Common.{rules, ◌≡◌, ◌∙◌, ◌∷◌, ◌<◌, ◌-◌, [], None, Some, length, map, sym, ap, subst, refl, arith}
use Rattle.std.proofs.lemmas.List.{map-append, length-map}
use Rattle.std.proofs.lemmas.Option.{slice_get-map, slice_get_within}
use Rattle.std.specs.Prelude.{slice_get, option_map, vec_len}
use Rattle.outside_traits.specs.Openings.Wanted.{LogOf}
use Rattle.outside_traits.specs.Openings.State.{OfLog}
use Rattle.station_gear.specs.Gears.{logs_needed, log_states}
use Rattle.station_gear.specs.Opens.{HoldsOpenings}
use Rattle.station_gear.proofs.HoldingLaws.{none_held, one_held, one_failed, all_held, none_past}
use Rattle.station_gear.proofs.opening.open_logs.Goals as goal

pub loop-radio-init : goal.loop-radio-init
loop-radio-init g c =
    let now = g.O.Outside.state c.args.outside.now in
    record {
      openings = subst (λ xs. HoldsOpenings (logs_needed c.args.station.now) (map g.O.Log.Source.opening xs) (log_states g.O.Log.Source.state xs) now now None) (sym c.requires.none) (none_held (logs_needed c.args.station.now) now);
      room = c.requires.room;
      gate = refl;
    }

pub returns-in_default-open_log-clause-opened : goal.returns-in_default-open_log-clause-opened
returns-in_default-open_log-clause-opened g c =
    let size : length c.loop-radio.logs.items ≡ vec_len c.loop-radio.logs = search rules in
    let at : slice_get (logs_needed c.args.station.now) (length (map g.O.Log.Source.opening c.loop-radio.logs.items)) ≡ Some (LogOf c.in-Some.radio.log.now) =
    ap (slice_get (logs_needed c.args.station.now)) (length-map c.loop-radio.logs.items g.O.Log.Source.opening ∙ size ∙ sym c.len.ensures) ∙ slice_get-map (λ r. LogOf r.log) c.args.station.now.radios c.len.result
    ∙ ap (option_map (λ r. LogOf r.log)) (sym c.in-Some.ensures) in
    record {
      what = LogOf c.in-Some.radio.log.now;
      openings = one_failed (logs_needed c.args.station.now) (map g.O.Log.Source.opening c.loop-radio.logs.items) (log_states g.O.Log.Source.state c.loop-radio.logs.items) (g.O.Outside.state c.args.outside.now) (g.O.Outside.state c.loop-radio.outside) (g.O.Outside.state c.open_log.new.self) (LogOf c.in-Some.radio.log.now) c.loop-radio.invariant.openings at c.in_default-open_log.ensures.opened c.in_default-open_log.ensures.cause.rose;
    }

pub push_reserved-requires : goal.push_reserved-requires
push_reserved-requires g c = omega (arith, c.len.ensures, c.loop-radio.invariant.room, slice_get_within c.args.station.now.radios c.len.result _ (sym c.in-Some.ensures))

pub loop-radio-smaller : goal.loop-radio-smaller
loop-radio-smaller g c =
    let fewer : length c.args.station.now.radios - vec_len c.push_reserved.new.self < length c.args.station.now.radios - vec_len c.loop-radio.logs =
    omega (arith, c.len.ensures, c.push_reserved.ensures.len, slice_get_within c.args.station.now.radios c.len.result _ (sym c.in-Some.ensures)) in
    fewer

pub loop-radio-preserved : goal.loop-radio-preserved
loop-radio-preserved g c =
    let size : length c.loop-radio.logs.items ≡ vec_len c.loop-radio.logs = search rules in
    let at : slice_get (logs_needed c.args.station.now) (length (map g.O.Log.Source.opening c.loop-radio.logs.items)) ≡ Some (LogOf c.in-Some.radio.log.now) =
    ap (slice_get (logs_needed c.args.station.now)) (length-map c.loop-radio.logs.items g.O.Log.Source.opening ∙ size ∙ sym c.len.ensures) ∙ slice_get-map (λ r. LogOf r.log) c.args.station.now.radios c.len.result
    ∙ ap (option_map (λ r. LogOf r.log)) (sym c.in-Some.ensures) in
    record {
      openings = one_held (logs_needed c.args.station.now) (map g.O.Log.Source.opening c.loop-radio.logs.items) (map g.O.Log.Source.opening c.push_reserved.new.self.items) (log_states g.O.Log.Source.state c.loop-radio.logs.items) (log_states g.O.Log.Source.state c.push_reserved.new.self.items)
          (g.O.Outside.state c.args.outside.now) (g.O.Outside.state c.loop-radio.outside) (g.O.Outside.state c.open_log.new.self) (LogOf c.in-Some.radio.log.now) (OfLog (g.O.Log.Source.state c.in-Ok.log)) (g.O.Log.Source.opening c.in-Ok.log)
          c.loop-radio.invariant.openings at c.in-Ok.ensures.opened c.in-Ok.ensures.number c.in-Ok.ensures.cause.kept
          (ap (map g.O.Log.Source.opening) c.push_reserved.ensures.items ∙ map-append g.O.Log.Source.opening c.loop-radio.logs.items (c.in-Ok.log ∷ []))
          (ap (map (λ x. OfLog (g.O.Log.Source.state x))) c.push_reserved.ensures.items ∙ map-append (λ x. OfLog (g.O.Log.Source.state x)) c.loop-radio.logs.items (c.in-Ok.log ∷ []));
      room = omega (arith, c.loop-radio.invariant.room, c.push_reserved.ensures.capacity);
      gate = c.in-Ok.ensures.gate ∙ c.loop-radio.invariant.gate;
    }

pub returns-clause-opened : goal.returns-clause-opened
returns-clause-opened g c =
    let size : length c.loop-radio.logs.items ≡ vec_len c.loop-radio.logs = search rules in
    let none : None ≡ slice_get c.args.station.now.radios c.len.result = c.in_default.ensures in
    let past = none_past c.args.station.now.radios c.len.result none in
    all_held (logs_needed c.args.station.now) (map g.O.Log.Source.opening c.loop-radio.logs.items) (log_states g.O.Log.Source.state c.loop-radio.logs.items) (g.O.Outside.state c.args.outside.now) (g.O.Outside.state c.loop-radio.outside) c.loop-radio.invariant.openings
    (omega (arith, past, size, c.len.ensures, length-map c.loop-radio.logs.items g.O.Log.Source.opening, length-map c.args.station.now.radios (λ r. LogOf r.log)))
