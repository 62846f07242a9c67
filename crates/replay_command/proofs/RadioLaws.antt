-- What one line more does to the radios of a station.
use Rattle.std.proofs.Common.{◌≡◌, ◌≢◌, ◌∙◌, ◌⊎◌, inl, inr, ℕ, ◌+◌, ◌<◌, ◌≤◌, ◌==◌, nat_le, nat_lt, true, false, cond, Option, Some, None, List, [], ◌∷◌, ◌++◌, length, get_or, slice_set, All, refl, sym, ap, subst, arith}
use Rattle.std.proofs.lemmas.Bool.Decides.{nat_tests}
use Rattle.std.proofs.lemmas.List.{length-set}
use Rattle.std.proofs.lemmas.Option.{slice_get_cases, slice_get_within}
use Rattle.std.specs.List.{count_by, slice_get}
use Rattle.std.specs.Option.{option_to_list}
use Rattle.tick_units.specs.declared.marks.Plan.{Plan}
use Rattle.tick_units.specs.declared.marks.Reduction.{Reduction}
use Rattle.tick_units.specs.declared.verdicts.Heard.{Heard}
use Rattle.journal_entry.specs.declared.entry.Entry.{Entry}
use Rattle.radio_receiver.specs.Histories.{History, answers_of, least_after, with_delay, with_reduction}
use Rattle.radio_receiver.proofs.LastLaws.{least_push}
use Rattle.station_values.specs.Station.{RadioFields, StationFields}
use Rattle.script_line.specs.declared.line.ScriptLine.{ScriptLine}
use Rattle.script_line.specs.declared.line.ScriptLine.TheVariants.{Pulse, Swap}
use Rattle.replay_command.specs.Replay.{due_of_radio, entry_received, fitted, history_of, is_plan_of, is_swap_for, is_swap_of, may_receive, may_swap, pulse_in, pulses_of, radio_of}
use Rattle.station_gear.specs.Racks.{HasPicked, IsSpare, left_of, one_of}
use Rattle.replay_command.specs.KeptPlayer.{HasFitted, HasReceivedPulse, HasRadio, HasRadios}
use Rattle.station_gear.specs.declared.rack.Spare.{Spare}
use Rattle.replay_command.specs.declared.radio.Radio.{Radio}
use Rattle.replay_command.specs.declared.radios.Radios.{Radios}
use Rattle.station_values.proofs.PlanLaws.{same-plan}
use Rattle.replay_command.proofs.LineLaws.{reductions-more, reductions-other, reductions-swap}
use Rattle.station_gear.proofs.ListLaws.{count_by-push}
use Rattle.replay_command.proofs.ListLaws.{filter_map-none, filter_map-some, slice_get-later, slice_set-cases}

-- the history of a radio whose receiver has heard these
with_reductions : RadioFields → List Reduction → History
with_reductions fields rs = record { plan = fields.plan; delay = fields.delay; reductions = rs }

-- a line that is not of a radio leaves it as it is
pub HasRadio-other : {B : Type 0} (stands : B → History → Type 0) (radio : Radio B) (fields : RadioFields) (feed : ℕ) (lines : List ScriptLine) (line : ScriptLine) →
    pulse_in feed line ≡ None → is_swap_of feed line ≡ false → HasRadio stands radio fields feed lines → HasRadio stands radio fields feed (lines ++ line ∷ [])
unfolding with_reductions
HasRadio-other stands radio fields feed lines line none other h = record {
  plan = h.plan;
  delay = h.delay;
  least = h.least ∙ ap least_after (sym (filter_map-none (pulse_in feed) lines line none));
  heard = subst (λ rs. stands radio.receiver (with_reductions fields rs)) (sym (reductions-other feed lines line none other)) h.heard;
}

-- a pulse more
pub HasRadio-pulse : {B : Type 0} (stands : B → History → Type 0) (old new : Radio B) (fields : RadioFields) (feed : ℕ) (lines : List ScriptLine) (line : ScriptLine) (r : Reduction) →
    pulse_in feed line ≡ Some r → is_swap_of feed line ≡ false →
    new.plan ≡ old.plan → new.delay_us ≡ old.delay_us → new.least ≡ r.at + 1 → ((h : History) → stands old.receiver h → stands new.receiver (with_reduction h r)) →
    HasRadio stands old fields feed lines → HasRadio stands new fields feed (lines ++ line ∷ [])
unfolding with_reductions
HasRadio-pulse stands old new fields feed lines line r some other plan delay least receives h = record {
  plan = plan ∙ h.plan;
  delay = delay ∙ h.delay;
  least = least ∙ sym (least_push (pulses_of feed lines) r) ∙ ap least_after (sym (filter_map-some (pulse_in feed) lines line r some));
  heard = subst (λ rs. stands new.receiver (with_reductions fields rs)) (sym (reductions-more feed lines line r some other)) (receives (history_of fields feed lines) h.heard);
}

-- another receiver
pub HasRadio-swap : {B : Type 0} (stands : B → History → Type 0) (old new : Radio B) (fields : RadioFields) (feed : ℕ) (lines : List ScriptLine) (line : ScriptLine) →
    pulse_in feed line ≡ None → is_swap_of feed line ≡ true →
    new.plan ≡ old.plan → new.delay_us ≡ old.delay_us → new.least ≡ old.least → stands new.receiver (record { plan = old.plan; delay = old.delay_us; reductions = [] }) →
    HasRadio stands old fields feed lines → HasRadio stands new fields feed (lines ++ line ∷ [])
unfolding with_reductions
HasRadio-swap stands old new fields feed lines line none swap plan delay least fitted h =
    let f = subst (λ p. stands new.receiver (record { plan = p; delay = old.delay_us; reductions = [] })) h.plan fitted in
    let g = subst (λ d. stands new.receiver (record { plan = fields.plan; delay = d; reductions = [] })) h.delay f in
    record {
      plan = plan ∙ h.plan;
      delay = delay ∙ h.delay;
      least = least ∙ h.least ∙ ap least_after (sym (filter_map-none (pulse_in feed) lines line none));
      heard = subst (λ rs. stands new.receiver (with_reductions fields rs)) (sym (reductions-swap feed lines line swap)) g;
    }

-- a line of no radio
pub HasFitted-other : {B : Type 0} (stands : B → History → Type 0) (radios : List (Radio B)) (station : StationFields) (lines : List ScriptLine) (line : ScriptLine) →
    ((feed : ℕ) → pulse_in feed line ≡ None) → ((feed : ℕ) → is_swap_of feed line ≡ false) → HasFitted stands radios station lines → HasFitted stands radios station (lines ++ line ∷ [])
HasFitted-other stands radios station lines line none other h = record {
  count = h.count;
  each = λ feed radio fields at here. HasRadio-other stands radio fields feed lines line (none feed) (other feed) (h.each feed radio fields at here);
}

-- a line of one radio
pub HasFitted_set : {B : Type 0} (stands : B → History → Type 0) (radios : List (Radio B)) (station : StationFields) (lines : List ScriptLine) (line : ScriptLine) (place : ℕ) (new : Radio B) →
    ((feed : ℕ) → feed ≢ place → pulse_in feed line ≡ None) → ((feed : ℕ) → feed ≢ place → is_swap_of feed line ≡ false) →
    ((fields : RadioFields) → slice_get station.radios place ≡ Some fields → HasRadio stands new fields place (lines ++ line ∷ [])) →
    HasFitted stands radios station lines → HasFitted stands (slice_set radios place new) station (lines ++ line ∷ [])
HasFitted_set {B} stands radios station lines line place new none other this h = record {
  count = length-set radios place new ∙ h.count;
  each = λ feed radio fields at here. by feed radio fields here (slice_set-cases radios place feed new radio at);
}
  where
    by : (feed : ℕ) (radio : Radio B) (fields : RadioFields) → slice_get station.radios feed ≡ Some fields → ((feed ≡ place) × (radio ≡ new)) ⊎ ((feed ≢ place) × (slice_get radios feed ≡ Some radio)) → HasRadio stands radio fields feed (lines ++ line ∷ [])
    by feed radio fields here (inl (e, f)) =
        subst (λ r. HasRadio stands r fields feed (lines ++ line ∷ [])) (sym f)
        (subst (λ n. HasRadio stands new fields n (lines ++ line ∷ [])) (sym e) (this fields (subst (λ n. slice_get station.radios n ≡ Some fields) e here)))
    by feed radio fields here (inr (n, f)) = HasRadio-other stands radio fields feed lines line (none feed n) (other feed n) (h.each feed radio fields f here)

-- the station's own radio at a place
pub fields_at : {B : Type 0} (stands : B → History → Type 0) (radios : List (Radio B)) (station : StationFields) (lines : List ScriptLine) (feed : ℕ) (radio : Radio B) →
    HasFitted stands radios station lines → slice_get radios feed ≡ Some radio →
    (fields : RadioFields) × (slice_get station.radios feed ≡ Some fields) × HasRadio stands radio fields feed lines
fields_at stands radios station lines feed radio h at = by (slice_get_cases station.radios feed).1
  where
    by : ((fields : RadioFields) × (feed < length station.radios) × (slice_get station.radios feed ≡ Some fields) × (get_or station.radios feed fields ≡ fields)) ⊎ ((length station.radios ≤ feed) × (slice_get station.radios feed ≡ None)) →
        (fields : RadioFields) × (slice_get station.radios feed ≡ Some fields) × HasRadio stands radio fields feed lines
    by (inl (fields, within, here, read)) = (fields, here, h.each feed radio fields at here)
    by (inr (past, none)) = let within = slice_get_within radios feed radio at in let e = h.count in absurd (omega arith)

pub nat_le-no : (a b : ℕ) → b < a → nat_le a b ≡ false
nat_le-no a b h = grind (arith, nat_tests)

pub nat_le-yes : (a b : ℕ) → a ≤ b → nat_le a b ≡ true
nat_le-yes a b h = grind (arith, nat_tests)

nat_lt-no : (a b : ℕ) → b ≤ a → nat_lt a b ≡ false
nat_lt-no a b h = grind (arith, nat_tests)

nat_lt-yes : (a b : ℕ) → a < b → nat_lt a b ≡ true
nat_lt-yes a b h = grind (arith, nat_tests)

pub eqb-no : (a b : ℕ) → b ≢ a → (a == b) ≡ false
eqb-no a b n = grind (arith, nat_tests)

pub eqb-yes : (a : ℕ) → (a == a) ≡ true
eqb-yes a = grind (arith, nat_tests)

fitted-push : (station : StationFields) (plan : Plan) (lines : List ScriptLine) (line : ScriptLine) → fitted station plan (lines ++ line ∷ []) ≡ fitted station plan lines + cond (is_swap_for station plan line) 1 0
fitted-push station plan lines line =
    let e : count_by (is_swap_for station plan) (lines ++ line ∷ []) ≡ count_by (is_swap_for station plan) lines + cond (is_swap_for station plan line) 1 0 = count_by-push (is_swap_for station plan) lines line in
    omega arith

-- a line that is no swap leaves the number of fitted receivers
pub fitted-same : (station : StationFields) (plan : Plan) (lines : List ScriptLine) (line : ScriptLine) → is_swap_for station plan line ≡ false → fitted station plan (lines ++ line ∷ []) ≡ fitted station plan lines
fitted-same station plan lines line other = fitted-push station plan lines line ∙ ap (λ b. fitted station plan lines + cond b 1 0) other ∙ omega arith

-- radios that a line leaves as they are
pub HasRadios-other : {B : Type 0} (stands : B → History → Type 0) (radios : Radios B) (station : StationFields) (lines : List ScriptLine) (line : ScriptLine) →
    ((feed : ℕ) → pulse_in feed line ≡ None) → ((feed : ℕ) → is_swap_of feed line ≡ false) → ((plan : Plan) → is_swap_for station plan line ≡ false) →
    HasRadios stands radios station lines → HasRadios stands radios station (lines ++ line ∷ [])
HasRadios-other stands radios station lines line none other keeps h = record {
  fitted_are = HasFitted-other stands radios.fitted.items station lines line none other h.fitted_are;
  blank = h.blank;
  four = λ plan. ap (λ n. left_of plan radios.left.items + n) (fitted-same station plan lines line (keeps plan)) ∙ h.four plan;
}

-- a pulse that comes too soon
pub receives-not : {B : Type 0} (stands : B → History → Type 0) (radios : Radios B) (station : StationFields) (lines : List ScriptLine) (feed : ℕ) (reduction : Reduction) (radio : Radio B) →
    slice_get radios.fitted.items feed ≡ Some radio → reduction.at < radio.least → HasRadios stands radios station lines →
    (may_receive (radio_of station feed) feed reduction lines ≡ false) × HasRadios stands radios station lines
receives-not stands radios station lines feed reduction radio at late h =
    let own = fields_at stands radios.fitted.items station lines feed radio h.fitted_are at in
    let least = own.2.least in
    (ap (λ o. may_receive o feed reduction lines) own.1 ∙ nat_le-no (least_after (pulses_of feed lines)) reduction.at (subst (λ n. reduction.at < n) least late), h)

new-is : {X : Type 0} (longer shorter : List X) (o : Option X) → longer ≡ shorter ++ option_to_list o → o ≡ slice_get longer (length shorter)
new-is longer shorter o e = sym (ap (λ xs. slice_get xs (length shorter)) e ∙ slice_get-later shorter o)

-- a pulse that is heard
pub receives : {B : Type 0} (stands : B → History → Type 0) (old new : Radios B) (station : StationFields) (lines : List ScriptLine) (feed : ℕ) (reduction : Reduction) (radio after : Radio B) (heard : Option Heard) (entry : Option Entry) →
    slice_get old.fitted.items feed ≡ Some radio → radio.least ≤ reduction.at →
    after.plan ≡ radio.plan → after.delay_us ≡ radio.delay_us → after.least ≡ reduction.at + 1 →
    ((h : History) → stands radio.receiver h → stands after.receiver (with_reduction h reduction)) →
    ((h : History) → stands radio.receiver h → answers_of (with_reduction h reduction) ≡ answers_of h ++ option_to_list heard) →
    new.fitted.items ≡ slice_set old.fitted.items feed after → new.left.items ≡ old.left.items → entry ≡ entry_received feed heard →
    HasRadios stands old station lines →
    (may_receive (radio_of station feed) feed reduction lines ≡ true) × HasReceivedPulse stands new station lines (Pulse feed reduction) entry
receives {B} stands old new station lines feed reduction radio after heard entry at timely plan delay least hear answered now left is h =
    let own = fields_at stands old.fitted.items station lines feed radio h.fitted_are at in
    let fields = own.0 in
    let here = own.1 in
    let had = own.2 in
    let line = Pulse feed reduction in
    let mine : pulse_in feed (Pulse feed reduction) ≡ Some reduction = ap (λ b. cond b (Some reduction) None) (eqb-yes feed) in
    let others : (f : ℕ) → f ≢ feed → pulse_in f (Pulse feed reduction) ≡ None = λ f n. ap (λ b. cond b (Some reduction) None) (eqb-no feed f n) in
    let this : (own : RadioFields) → slice_get station.radios feed ≡ Some own → HasRadio stands after own feed (lines ++ line ∷ []) =
    λ own there. HasRadio-pulse stands radio after own feed lines line reduction mine refl plan delay least hear (h.fitted_are.each feed radio own at there) in
    let set = HasFitted_set stands old.fitted.items station lines line feed after others (λ f n. refl) this h.fitted_are in (
      ap (λ o. may_receive o feed reduction lines) here ∙ nat_le-yes (least_after (pulses_of feed lines)) reduction.at (subst (λ n. n ≤ reduction.at) had.least timely),
      record {
        played = record {
          fitted_are = subst (λ rs. HasFitted stands rs station (lines ++ line ∷ [])) (sym now) set;
          blank = subst (All (IsSpare stands)) (sym left) h.blank;
          four = λ plan. ap (λ xs. left_of plan xs + fitted station plan (lines ++ line ∷ [])) left ∙ ap (λ n. left_of plan old.left.items + n) (fitted-same station plan lines line refl) ∙ h.four plan;
        };
        due_is = is ∙ ap (entry_received feed) (new-is (answers_of (with_reduction (history_of fields feed lines) reduction)) (answers_of (history_of fields feed lines)) heard (answered (history_of fields feed lines) had.heard))
            ∙ sym (ap (λ o. due_of_radio o feed reduction lines) here);
      },
    )

-- no receiver of the radio's plan is left
pub swaps-not : {B : Type 0} (stands : B → History → Type 0) (old new : Radios B) (station : StationFields) (lines : List ScriptLine) (feed : ℕ) (radio : Radio B) →
    slice_get old.fitted.items feed ≡ Some radio → left_of radio.plan old.left.items ≡ 0 → new.fitted.items ≡ old.fitted.items → new.left.items ≡ old.left.items → HasRadios stands old station lines →
    (may_swap station (radio_of station feed) lines ≡ false) × HasRadios stands new station lines
swaps-not stands old new station lines feed radio at none same left h =
    let own = fields_at stands old.fitted.items station lines feed radio h.fitted_are at in
    let fields = own.0 in
    let zero_left = subst (λ p. left_of p old.left.items ≡ 0) own.2.plan none in
    let four = h.four fields.plan in (
      ap (λ o. may_swap station o lines) own.1 ∙ nat_lt-no (fitted station fields.plan lines) 4 (omega arith),
      record {
        fitted_are = subst (λ rs. HasFitted stands rs station lines) (sym same) h.fitted_are;
        blank = subst (All (IsSpare stands)) (sym left) h.blank;
        four = λ plan. ap (λ xs. left_of plan xs + fitted station plan lines) left ∙ h.four plan;
      },
    )

-- the next receiver of the radio's plan is fitted
pub swaps : {B : Type 0} (stands : B → History → Type 0) (old new : Radios B) (station : StationFields) (lines : List ScriptLine) (feed : ℕ) (radio after : Radio B) (left : List (Spare B)) (receiver : B) →
    slice_get old.fitted.items feed ≡ Some radio → HasPicked stands old.left.items left radio.plan receiver →
    after.plan ≡ radio.plan → after.delay_us ≡ radio.delay_us → after.least ≡ radio.least →
    ((h : History) → stands receiver h → stands after.receiver (with_delay h radio.delay_us)) →
    new.fitted.items ≡ slice_set old.fitted.items feed after → new.left.items ≡ left →
    HasRadios stands old station lines →
    (may_swap station (radio_of station feed) lines ≡ true) × HasRadios stands new station (lines ++ Swap feed ∷ [])
swaps {B} stands old new station lines feed radio after left receiver at taken plan delay least fit now left_is h =
    let own = fields_at stands old.fitted.items station lines feed radio h.fitted_are at in
    let fields = own.0 in
    let here = own.1 in
    let had = own.2 in
    let line = Swap feed in
    let got = taken.receiver_is h.blank in
    let fresh : stands after.receiver (record { plan = radio.plan; delay = radio.delay_us; reductions = [] }) = fit (record { plan = radio.plan; delay = got.delay; reductions = [] }) got.blank in
    let others : (f : ℕ) → f ≢ feed → is_swap_of f (Swap feed) ≡ false = λ f n. eqb-no feed f n in
    let this : (own : RadioFields) → slice_get station.radios feed ≡ Some own → HasRadio stands after own feed (lines ++ line ∷ []) =
    λ own there. HasRadio-swap stands radio after own feed lines line refl (eqb-yes feed) plan delay least fresh (h.fitted_are.each feed radio own at there) in
    let set = HasFitted_set stands old.fitted.items station lines line feed after (λ f n. refl) others this h.fitted_are in
    let one : (p : Plan) → cond (is_swap_for station p (Swap feed)) 1 0 ≡ one_of p radio.plan =
    λ p. ap (λ o. cond (is_plan_of p o) 1 0) here ∙ ap (one_of p) (sym had.plan) in
    let mine = taken.count radio.plan in
    let self_same : one_of radio.plan radio.plan ≡ 1 = ap (λ b. cond b 1 0) (same-plan radio.plan) in
    let four = h.four radio.plan in
    let some_left : fitted station radio.plan lines < 4 = omega arith in (
      ap (λ o. may_swap station o lines) here ∙ nat_lt-yes (fitted station fields.plan lines) 4 (subst (λ p. fitted station p lines < 4) had.plan some_left),
      record {
        fitted_are = subst (λ rs. HasFitted stands rs station (lines ++ line ∷ [])) (sym now) set;
        blank = subst (All (IsSpare stands)) (sym left_is) (taken.others h.blank);
        four = λ p.
            let pushed = fitted-push station p lines line in
            let one_p = one p in
            let count_p = taken.count p in
            let four_p = h.four p in
            ap (λ xs. left_of p xs + fitted station p (lines ++ line ∷ [])) left_is ∙ omega arith;
      },
    )
