-- The receivers of a station's radios, with one radio more.
use Rattle.std.proofs.Common.{◌≡◌, ℕ, ◌+◌, ◌<◌, ◌≤◌, Some, List, [], ◌∷◌, ◌++◌, length, map, take, sym, subst, arith}
use Rattle.std.proofs.lemmas.List.{map-append, take_all}
use Rattle.std.specs.List.{slice_get}
use Rattle.radio_receiver.specs.Histories.{History, with_delay}
use Rattle.station_values.specs.Station.{IsStation, RadioFields, StationFields, is_same_plan, plan_count}
use Rattle.station_values.proofs.PlanLaws.{same-plan}
use Rattle.station_gear.specs.Racks.{AreFour, AreOf, HasFitted, HasPicked, left_of, silent}
use Rattle.station_gear.specs.declared.rack.Spare.{Spare}
use Rattle.station_gear.proofs.ListLaws.{count_by-push, count_by-take, take-slice_get}
use Rattle.station_gear.proofs.MadeLaws.{are_of-push}

pub adds : {B : Type 0} (stands : B → History → Type 0) (receivers now : List B) (spares left : List (Spare B)) (radios : List RadioFields) (fields : RadioFields) (receiver fitted : B) →
    HasPicked stands spares left fields.plan receiver →
    ((h : History) → stands receiver h → stands fitted (with_delay h fields.delay)) →
    now ≡ receivers ++ fitted ∷ [] → HasFitted stands receivers spares radios → HasFitted stands now left (radios ++ fields ∷ [])
adds stands receivers now spares left radios fields receiver fitted taken fit is h = record {
  fitted = subst (λ rs. AreOf stands rs (map silent (radios ++ fields ∷ []))) (sym is)
      (subst (λ hs. AreOf stands (receivers ++ fitted ∷ []) hs) (sym (map-append silent radios (fields ∷ []))) (are_of-push stands receivers (map silent radios) fitted (silent fields) h.fitted own));
  blank = taken.others h.blank;
  four = λ p.
      let had = h.four p in
      let took = taken.count p in
      let more = count_by-push (λ r. is_same_plan p r.plan) radios fields in
      omega arith;
}
  where
    own : stands fitted (silent fields)
    own = let got = taken.receiver_is h.blank in fit (record { plan = fields.plan; delay = got.delay; reductions = [] }) got.blank

pub starts : {B : Type 0} (stands : B → History → Type 0) (receivers : List B) (spares : List (Spare B)) (radios : List RadioFields) → receivers ≡ [] → AreFour stands spares → HasFitted stands receivers spares (take 0 radios)
starts stands receivers spares radios none four = record {
  fitted = subst (λ rs. AreOf stands rs []) (sym none) tt;
  blank = four.blank;
  four = λ p. let e = four.four p in omega arith;
}

pub goes-on : {B : Type 0} (stands : B → History → Type 0) (receivers : List B) (spares : List (Spare B)) (radios : List RadioFields) (n : ℕ) (fields : RadioFields) → slice_get radios n ≡ Some fields →
    HasFitted stands receivers spares (take n radios ++ fields ∷ []) → HasFitted stands receivers spares (take (n + 1) radios)
goes-on stands receivers spares radios n fields at h = subst (HasFitted stands receivers spares) (sym (take-slice_get radios n fields at)) h

-- a receiver is left for each radio
pub some-left : {B : Type 0} (stands : B → History → Type 0) (receivers : List B) (spares : List (Spare B)) (station : StationFields) (n : ℕ) (fields : RadioFields) → IsStation station → slice_get station.radios n ≡ Some fields →
    HasFitted stands receivers spares (take n station.radios) → 1 ≤ left_of fields.plan spares
some-left stands receivers spares station n fields bounds at h =
    let four = h.four fields.plan in
    let fewer : plan_count fields.plan (take n station.radios) < plan_count fields.plan station.radios = count_by-take (λ r. is_same_plan fields.plan r.plan) station.radios n fields at (same-plan fields.plan) in
    let most = bounds.plans fields.plan in
    omega arith

pub all-fitted : {B : Type 0} (stands : B → History → Type 0) (receivers : List B) (spares : List (Spare B)) (radios : List RadioFields) (n : ℕ) → n ≡ length radios → HasFitted stands receivers spares (take n radios) → AreOf stands receivers (map silent radios)
all-fitted stands receivers spares radios n all h = subst (λ rs. AreOf stands receivers (map silent rs)) (take_all n radios (omega arith)) h.fitted
