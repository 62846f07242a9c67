-- What the search leaves open of `opening::open_leap`.
use Rattle.std.proofs.Common.{[], ◌∷◌, List, map, refl, ap, subst}
use Rattle.std.specs.Option.{option_to_list}
use Rattle.outside_traits.specs.Openings.{Wanted}
use Rattle.outside_traits.specs.Openings.Wanted.{LogOf}
use Rattle.outside_traits.specs.Openings.State.{OfLog}
use Rattle.station_gear.specs.Opens.{OpensAll, StopsIn}
use Rattle.station_gear.proofs.HoldingLaws.{none_held, one_held, one_failed}
use Rattle.station_gear.proofs.opening.open_leap.Goals as goal

pub returns-in_default-clause-opened : goal.returns-in_default-clause-opened
returns-in_default-clause-opened g c =
    let now = g.O.Outside.state c.args.outside.now in
    subst (λ (l : List Wanted). OpensAll l [] [] now now) (ap (λ o. map LogOf (option_to_list o)) c.in_default.ensures.value) (record { openings = none_held [] now; all = refl })

pub returns-in-Ok-clause-opened : goal.returns-in-Ok-clause-opened
returns-in-Ok-clause-opened g c =
    let before = g.O.Outside.state c.args.outside.now in
    let now = g.O.Outside.state c.open_log.new.self in
    let what = LogOf c.in-Some.name.now in
    let number = g.O.Log.Source.opening c.in-Ok.log in
    let state = OfLog (g.O.Log.Source.state c.in-Ok.log) in
    subst (λ (l : List Wanted). OpensAll l (number ∷ []) (state ∷ []) before now) (ap (λ o. map LogOf (option_to_list o)) c.in-Some.ensures.value)
    (record {
      openings = one_held (what ∷ []) [] (number ∷ []) [] (state ∷ []) before before now what state number (none_held (what ∷ []) before) refl c.in-Ok.ensures.opened c.in-Ok.ensures.number c.in-Ok.ensures.cause.kept refl refl;
      all = refl;
    })

pub returns-in-Err-clause-opened : goal.returns-in-Err-clause-opened
returns-in-Err-clause-opened g c =
    let before = g.O.Outside.state c.args.outside.now in
    let now = g.O.Outside.state c.open_log.new.self in
    let what = LogOf c.in-Some.name.now in
    subst (λ (l : List Wanted). StopsIn l [] [] before now) (ap (λ o. map LogOf (option_to_list o)) c.in-Some.ensures.value)
    (record { what = what; openings = one_failed (what ∷ []) [] [] before before now what (none_held (what ∷ []) before) refl c.in-Err.ensures.opened c.in-Err.ensures.cause.rose })
