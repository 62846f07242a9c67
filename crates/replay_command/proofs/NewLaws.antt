-- A station before its first line, radio by radio and server by server.
use Rattle.std.proofs.Common.{◌≡◌, ◌∙◌, ◌⊎◌, inl, inr, ℕ, zero, suc, ◌+◌, ◌<◌, ◌≤◌, Some, List, [], ◌∷◌, ◌++◌, length, take, All, refl, sym, ap, subst, arith}
use Rattle.std.proofs.lemmas.List.{length_push, take_all}
use Rattle.std.proofs.lemmas.Option.{slice_get_within}
use Rattle.std.specs.List.{enumerate_from, slice_get}
use Rattle.radio_receiver.specs.Histories.{History, with_delay}
use Rattle.poll_core.specs.Polling.{HasPolled}
use Rattle.station_values.specs.Station.{IsStation, RadioFields, ServerFields, StationFields, is_same_plan, plan_count}
use Rattle.station_gear.specs.Racks.{AreFour, HasPicked, IsSpare, left_of}
use Rattle.replay_command.specs.KeptPlayer.{HasFitted, HasPolling, HasRadio, HasRadios, HasServer, first_radios, first_servers, with_radio}
use Rattle.station_gear.specs.declared.rack.Spare.{Spare}
use Rattle.replay_command.specs.declared.radio.Radio.{Radio}
use Rattle.replay_command.specs.declared.radios.Radios.{Radios}
use Rattle.replay_command.specs.declared.server.Server.{Server}
use Rattle.station_gear.proofs.ListLaws.{count_by-push, count_by-take, take-slice_get}
use Rattle.station_values.proofs.PlanLaws.{same-plan}

-- what stands at a place of a list with one item more
slice_get-push-cases : {X : Type 0} (xs : List X) (x y : X) (j : ℕ) → slice_get (xs ++ x ∷ []) j ≡ Some y → (slice_get xs j ≡ Some y) ⊎ ((j ≡ length xs) × (y ≡ x))
slice_get-push-cases [] x y zero e = inr (refl, cc)
slice_get-push-cases [] x y (suc j) e = absurd (cc)
slice_get-push-cases (z ∷ more) x y zero e = inl e
slice_get-push-cases (z ∷ more) x y (suc j) e = onward (slice_get-push-cases more x y j e)
  where
    onward : (slice_get more j ≡ Some y) ⊎ ((j ≡ length more) × (y ≡ x)) → (slice_get more j ≡ Some y) ⊎ ((suc j ≡ suc (length more)) × (y ≡ x))
    onward (inl f) = inl f
    onward (inr (f, s)) = inr (ap suc f, s)

slice_get-push-last : {X : Type 0} (xs : List X) (x y : X) → slice_get (xs ++ x ∷ []) (length xs) ≡ Some y → y ≡ x
slice_get-push-last [] x y e = cc
slice_get-push-last (z ∷ more) x y e = slice_get-push-last more x y e

slice_get-push-prefix : {X : Type 0} (xs : List X) (x y : X) (j : ℕ) → j < length xs → slice_get (xs ++ x ∷ []) j ≡ Some y → slice_get xs j ≡ Some y
slice_get-push-prefix xs x y j within e = by (slice_get-push-cases xs x y j e)
  where
    by : (slice_get xs j ≡ Some y) ⊎ ((j ≡ length xs) × (y ≡ x)) → slice_get xs j ≡ Some y
    by (inl f) = f
    by (inr (f, s)) = absurd (omega arith)

-- one radio more
pub adds : {B : Type 0} (stands : B → History → Type 0) (old new : Radios B) (station : StationFields) (fields : RadioFields) (radio : Radio B) (left : List (Spare B)) (receiver : B) →
    HasPicked stands old.left.items left fields.plan receiver → radio.plan ≡ fields.plan → radio.delay_us ≡ fields.delay → radio.least ≡ 0 →
    ((h : History) → stands receiver h → stands radio.receiver (with_delay h fields.delay)) →
    new.fitted.items ≡ old.fitted.items ++ radio ∷ [] → new.left.items ≡ left →
    HasRadios stands old station [] → HasRadios stands new (with_radio station fields) []
adds {B} stands old new station fields radio left receiver taken plan delay least fit now left_is h = record {
  fitted_are = subst (λ rs. HasFitted stands rs (with_radio station fields) []) (sym now) (record {
    count = length_push old.fitted.items radio ∙ ap (λ n. n + 1) h.fitted_are.count ∙ sym (length_push station.radios fields);
    each = λ feed r f at here. by feed r f here (slice_get-push-cases old.fitted.items radio r feed at);
  });
  blank = subst (All (IsSpare stands)) (sym left_is) (taken.others h.blank);
  four = λ p.
      let had = h.four p in
      let took = taken.count p in
      let more = count_by-push (λ r. is_same_plan p r.plan) station.radios fields in
      ap (λ xs. left_of p xs + (plan_count p (station.radios ++ fields ∷ []) + 0)) left_is ∙ omega arith;
}
  where
    fresh : HasRadio stands radio fields (length station.radios) []
    fresh =
        let got = taken.receiver_is h.blank in
        record { plan = plan; delay = delay; least = least; heard = fit (record { plan = fields.plan; delay = got.delay; reductions = [] }) got.blank }

    by : (feed : ℕ) (r : Radio B) (f : RadioFields) → slice_get (station.radios ++ fields ∷ []) feed ≡ Some f → (slice_get old.fitted.items feed ≡ Some r) ⊎ ((feed ≡ length old.fitted.items) × (r ≡ radio)) → HasRadio stands r f feed []
    by feed r f here (inl e) =
        let within = slice_get_within old.fitted.items feed r e in
        let count = h.fitted_are.count in
        h.fitted_are.each feed r f e (slice_get-push-prefix station.radios fields f feed (omega arith) here)
    by feed r f here (inr (e, s)) =
        let at : slice_get (station.radios ++ fields ∷ []) (length station.radios) ≡ Some f = subst (λ n. slice_get (station.radios ++ fields ∷ []) n ≡ Some f) (e ∙ h.fitted_are.count) here in
        let same = slice_get-push-last station.radios fields f at in
        subst (λ x. HasRadio stands x f feed []) (sym s)
        (subst (λ x. HasRadio stands radio x feed []) (sym same) (subst (λ n. HasRadio stands radio fields n []) (sym (e ∙ h.fitted_are.count)) fresh))

-- no radio yet
pub starts : {B : Type 0} (stands : B → History → Type 0) (radios : Radios B) (station : StationFields) → radios.fitted.items ≡ [] → AreFour stands radios.left.items → HasRadios stands radios (first_radios 0 station) []
starts stands radios station none four = record {
  fitted_are = subst (λ rs. HasFitted stands rs (first_radios 0 station) []) (sym none) (record { count = refl; each = λ feed radio fields at here. absurd (cc) });
  blank = four.blank;
  four = λ p. let e = four.four p in omega arith;
}

pub goes-on : {B : Type 0} (stands : B → History → Type 0) (radios : Radios B) (station : StationFields) (n : ℕ) (fields : RadioFields) → slice_get station.radios n ≡ Some fields →
    HasRadios stands radios (with_radio (first_radios n station) fields) [] → HasRadios stands radios (first_radios (n + 1) station) []
goes-on stands radios station n fields at h =
    subst (λ rs. HasRadios stands radios (record station { radios = rs }) []) (sym (take-slice_get station.radios n fields at)) h

-- a receiver is left for each radio
pub some-left : {B : Type 0} (stands : B → History → Type 0) (radios : Radios B) (station : StationFields) (n : ℕ) (fields : RadioFields) → IsStation station → slice_get station.radios n ≡ Some fields →
    HasRadios stands radios (first_radios n station) [] → 1 ≤ left_of fields.plan radios.left.items
some-left stands radios station n fields bounds at h =
    let four : left_of fields.plan radios.left.items + (plan_count fields.plan (take n station.radios) + 0) ≡ 4 = h.four fields.plan in
    let fewer : plan_count fields.plan (take n station.radios) < plan_count fields.plan station.radios = count_by-take (λ r. is_same_plan fields.plan r.plan) station.radios n fields at (same-plan fields.plan) in
    let most = bounds.plans fields.plan in
    omega arith

-- one server more
pub polling-push : (servers : List Server) (station : StationFields) (n : ℕ) (server : Server) (fields : ServerFields) → slice_get station.servers n ≡ Some fields →
    server.address ≡ fields.address → HasPolled server.poll fields.address [] → server.last ≡ 0 →
    HasPolling servers (first_servers n station) [] → HasPolling (servers ++ server ∷ []) (first_servers (n + 1) station) []
polling-push servers station n server fields at address polled last h =
    subst (λ ss. HasPolling (servers ++ server ∷ []) (record station { servers = ss }) []) (sym (take-slice_get station.servers n fields at)) (record {
      count = length_push servers server ∙ ap (λ k. k + 1) h.count ∙ sym (length_push (take n station.servers) fields);
      each = λ place s f at_p here_p. by place s f here_p (slice_get-push-cases servers server s place at_p);
    })
  where
    by : (place : ℕ) (s : Server) (f : ServerFields) → slice_get (take n station.servers ++ fields ∷ []) place ≡ Some f → (slice_get servers place ≡ Some s) ⊎ ((place ≡ length servers) × (s ≡ server)) → HasServer s f (length station.radios + place) []
    by place s f here (inl e) =
        let within = slice_get_within servers place s e in
        let count = h.count in
        h.each place s f e (slice_get-push-prefix (take n station.servers) fields f place (omega arith) here)
    by place s f here (inr (e, same)) =
        let there : slice_get (take n station.servers ++ fields ∷ []) (length (take n station.servers)) ≡ Some f = subst (λ k. slice_get (take n station.servers ++ fields ∷ []) k ≡ Some f) (e ∙ h.count) here in
        let own = slice_get-push-last (take n station.servers) fields f there in
        subst (λ x. HasServer x f (length station.radios + place) []) (sym same) (subst (λ x. HasServer server x (length station.radios + place) []) (sym own) (record { polled = polled; address = address; last = last }))

pub polling-none : (station : StationFields) → HasPolling [] (first_servers 0 station) []
polling-none station = record { count = refl; each = λ place server fields at here. absurd (cc) }

pub length-enumerate : {X : Type 0} (n : ℕ) (xs : List X) → length (enumerate_from n xs) ≡ length xs
length-enumerate n [] = refl
length-enumerate n (x ∷ more) = ap suc (length-enumerate (n + 1) more)

-- all radios are the station's
pub all-radios : {B : Type 0} (stands : B → History → Type 0) (radios : Radios B) (station : StationFields) (n : ℕ) → n ≡ length station.radios → HasRadios stands radios (first_radios n station) [] → HasRadios stands radios station []
all-radios stands radios station n all h =
    subst (λ rs. HasRadios stands radios (record station { radios = rs }) [])
    (take_all n station.radios (omega arith)) h

pub all-servers : (servers : List Server) (station : StationFields) (n : ℕ) → n ≡ length station.servers → HasPolling servers (first_servers n station) [] → HasPolling servers station []
all-servers servers station n all h =
    subst (λ ss. HasPolling servers (record station { servers = ss }) [])
    (take_all n station.servers (omega arith)) h
