-- Which of those needed were opened: none, one more, one that failed, and several phases one after the other.
use Rattle.std.proofs.Common.{◌≡◌, ◌<◌, ◌≤◌, ◌+◌, ℕ, zero, suc, Option, Some, None, List, [], ◌∷◌, ◌++◌, length, map, refl, ap, sym, ◌∙◌, append_assoc, arith, subst}
use Rattle.std.specs.Prelude.{slice_get}
use Rattle.std.specs.Option.{MatchOption, option_to_list}
use Rattle.std.proofs.lemmas.List.{append-nil, length-append, length-map, map-append}
use Rattle.std.proofs.lemmas.Option.{slice_get_within}
use Rattle.outside_traits.specs.Faults.{RoseByOne}
use Rattle.outside_traits.specs.States.{Adds}
use Rattle.outside_traits.specs.Openings.{Wanted, State, Opening, OutsideState, GrowsBy, IsNext, answered, failed}
use Rattle.outside_traits.specs.ManyOut.{Held, held_opening, CountUp, AreNumbers}
use Rattle.outside_traits.proofs.OpeningLaws.{GrowsBy-none, GrowsBy-more}
use Rattle.outside_traits.proofs.ManyOutLaws.{AreNumbers-none, AreNumbers-push, AreNumbers-more}
use Rattle.station_gear.specs.Opens.{HoldsOpenings, OpensAll, StopsIn}

abbrev what_of : Held → Wanted
what_of held = held.what

abbrev reported_of : Held → State
reported_of held = held.opened

-- nothing was opened yet
pub none_held : (needed : List Wanted) (now : OutsideState) → HoldsOpenings needed [] [] now now None
none_held needed now = record {
  outs = [];
  later = needed;
  in_order = refl;
  noted = GrowsBy-none now;
  faults = refl;
  reported = refl;
  count = refl;
  numbered = AreNumbers-none now.openings;
}

-- the next one of those needed stands before those that were not asked for
next_first : (prefix later : List Wanted) (what : Wanted) → slice_get (prefix ++ later) (length prefix) ≡ Some what → (rest : List Wanted) × (later ≡ what ∷ rest)
next_first [] [] what e = absurd (let f : ◌≡◌ {A = Option Wanted} None (Some what) = e in cc)
next_first [] (first ∷ rest) what e = (rest, let same : first ≡ what = cc in ap (λ w. w ∷ rest) same)
next_first (first ∷ prefix) later what e = next_first prefix later what e

next_later : (needed later : List Wanted) (outs : List Held) (place : ℕ) (what : Wanted) → needed ≡ map what_of outs ++ later → place ≡ length outs →
    slice_get needed place ≡ Some what → (rest : List Wanted) × (later ≡ what ∷ rest)
next_later needed later outs place what order count e =
    next_first (map what_of outs) later what (ap (slice_get (map what_of outs ++ later)) (length-map outs what_of ∙ sym count) ∙ ap (λ l. slice_get l place) (sym order) ∙ e)

-- one more was opened
pub one_held : (needed : List Wanted) (numbers numbers_now : List ℕ) (states states_now : List State) (before mid now : OutsideState) (what : Wanted) (state : State) (number : ℕ) →
    HoldsOpenings needed numbers states before mid None → slice_get needed (length numbers) ≡ Some what →
    GrowsBy mid now (answered what state ∷ []) → IsNext mid.openings number → now.faults ≡ mid.faults →
    numbers_now ≡ numbers ++ number ∷ [] → states_now ≡ states ++ state ∷ [] → HoldsOpenings needed numbers_now states_now before now None
one_held needed numbers numbers_now states states_now before mid now what state number held at grows next kept longer more =
    let held_now : Held = record { what = what; opened = state } in
    let rest = next_later needed held.later held.outs (length numbers) what held.in_order held.count at in
    let noted : GrowsBy before mid (map held_opening held.outs) = subst (λ l. GrowsBy before mid l) (append-nil (map held_opening held.outs)) held.noted in
    record {
      outs = held.outs ++ held_now ∷ [];
      later = rest.0;
      in_order = held.in_order
          ∙ ap (λ l. map what_of held.outs ++ l) rest.1
          ∙ sym (append_assoc (map what_of held.outs) (what ∷ []) rest.0)
          ∙ ap (λ l. l ++ rest.0) (sym (map-append what_of held.outs (held_now ∷ [])));
      noted = subst (λ l. GrowsBy before now l)
          (sym (append-nil (map held_opening (held.outs ++ held_now ∷ [])) ∙ map-append held_opening held.outs (held_now ∷ [])))
          (GrowsBy-more before mid now (map held_opening held.outs) (answered what state ∷ []) noted grows);
      faults = kept ∙ held.faults;
      reported = more ∙ ap (λ l. l ++ state ∷ []) held.reported ∙ sym (map-append reported_of held.outs (held_now ∷ []));
      count = ap (λ (l : List ℕ). length l) longer ∙ omega (arith, held.count, length-append numbers (number ∷ []), length-append held.outs (held_now ∷ []));
      numbered = subst (λ l. AreNumbers before.openings now.openings 0 l) (sym longer)
          (AreNumbers-push before mid now (map held_opening held.outs) (answered what state ∷ []) 0 number numbers noted
          (omega (arith, length-map held.outs held_opening, held.count)) grows held.numbered next);
    }

-- the next one failed
pub one_failed : (needed : List Wanted) (numbers : List ℕ) (states : List State) (before mid now : OutsideState) (what : Wanted) →
    HoldsOpenings needed numbers states before mid None → slice_get needed (length numbers) ≡ Some what →
    GrowsBy mid now (failed what ∷ []) → RoseByOne mid.faults now.faults → HoldsOpenings needed numbers states before now (Some what)
one_failed needed numbers states before mid now what held at grows rose =
    let rest = next_later needed held.later held.outs (length numbers) what held.in_order held.count at in
    let noted : GrowsBy before mid (map held_opening held.outs) = subst (λ l. GrowsBy before mid l) (append-nil (map held_opening held.outs)) held.noted in
    record {
      outs = held.outs;
      later = rest.0;
      in_order = held.in_order ∙ ap (λ l. map what_of held.outs ++ l) rest.1;
      noted = GrowsBy-more before mid now (map held_opening held.outs) (failed what ∷ []) noted grows;
      faults = subst (λ n. RoseByOne n now.faults) held.faults rose;
      reported = held.reported;
      count = held.count;
      numbered = AreNumbers-more before mid now (failed what ∷ []) 0 numbers grows held.numbered;
    }

-- those after need not be asked for
pub prefix_held : (needed more : List Wanted) (numbers : List ℕ) (states : List State) (before now : OutsideState) (failing : Option Wanted) →
    HoldsOpenings needed numbers states before now failing → HoldsOpenings (needed ++ more) numbers states before now failing
prefix_held needed more numbers states before now failing held = record {
  outs = held.outs;
  later = held.later ++ more;
  in_order = ap (λ l. l ++ more) held.in_order
      ∙ append_assoc (map what_of held.outs) (option_to_list failing ++ held.later) more
      ∙ ap (λ l. map what_of held.outs ++ l) (append_assoc (option_to_list failing) held.later more);
  noted = held.noted;
  faults = held.faults;
  reported = held.reported;
  count = held.count;
  numbered = held.numbered;
}

-- numbers of two phases
CountUp-append : (first : ℕ) (xs ys : List ℕ) → CountUp first xs → CountUp (first + length xs) ys → CountUp first (xs ++ ys)
CountUp-append first [] ys up more = subst (λ n. CountUp n ys) (let e : first + 0 ≡ first = omega arith in e) more
CountUp-append first (x ∷ xs) ys up more = (up.0, CountUp-append (suc first) xs ys up.1 (subst (λ n. CountUp n ys) (let e : first + suc (length xs) ≡ suc first + length xs = omega arith in e) more))

numbers_both : (before mid now : Option (List Opening)) (more then_more : List Opening) (xs ys : List ℕ) → Adds before mid more → length more ≡ length xs →
    Adds mid now then_more → AreNumbers before mid 0 xs → AreNumbers mid now 0 ys → AreNumbers before now 0 (xs ++ ys)
numbers_both before mid None more then_more xs ys adds size then_adds are then_are = tt
numbers_both before None (Some now) more then_more xs ys adds size then_adds are then_are = absurd then_adds
numbers_both None (Some mid) (Some now) more then_more xs ys adds size then_adds are then_are = tt
numbers_both (Some before) (Some mid) (Some now) more then_more xs ys adds size then_adds are then_are =
    let at : length mid + 0 ≡ (length before + 0) + length xs = omega (arith, size, ap (λ (l : List Opening). length l) adds, length-append before more) in
    CountUp-append (length before + 0) xs ys are (subst (λ n. CountUp n ys) at then_are)

none_left : (needed later : List Wanted) (outs : List Held) → needed ≡ map what_of outs ++ later → length outs ≡ length needed → later ≡ []
none_left needed [] outs order size = refl
none_left needed (first ∷ later) outs order size =
    absurd (omega (arith, size, length-map outs what_of, length-append (map what_of outs) (first ∷ later), ap (λ (l : List Wanted). length l) order))

faults_on : (before mid now : ℕ) (failing : Option Wanted) → mid ≡ before →
    MatchOption failing (now ≡ mid) (λ _. RoseByOne mid now) → MatchOption failing (now ≡ before) (λ _. RoseByOne before now)
faults_on before mid now failing same h = subst (λ n. MatchOption failing (now ≡ n) (λ _. RoseByOne n now)) same h

-- a first phase that opened all that it needed, and a second one
pub then_held : (needed more : List Wanted) (numbers numbers_too : List ℕ) (states states_too : List State) (before mid now : OutsideState) (failing : Option Wanted) →
    OpensAll needed numbers states before mid → HoldsOpenings more numbers_too states_too mid now failing →
    HoldsOpenings (needed ++ more) (numbers ++ numbers_too) (states ++ states_too) before now failing
then_held needed more numbers numbers_too states states_too before mid now failing all_held then_ =
    let held = all_held.openings in
    let empty = none_left needed held.later held.outs held.in_order (sym held.count ∙ all_held.all) in
    let noted : GrowsBy before mid (map held_opening held.outs) = subst (λ l. GrowsBy before mid l) (append-nil (map held_opening held.outs)) held.noted in
    record {
      outs = held.outs ++ then_.outs;
      later = then_.later;
      in_order =
          ap (λ l. l ++ more) (held.in_order ∙ ap (λ l. map what_of held.outs ++ l) empty ∙ append-nil (map what_of held.outs))
          ∙ ap (λ l. map what_of held.outs ++ l) then_.in_order
          ∙ sym (append_assoc (map what_of held.outs) (map what_of then_.outs) (option_to_list failing ++ then_.later))
          ∙ ap (λ l. l ++ (option_to_list failing ++ then_.later)) (sym (map-append what_of held.outs then_.outs));
      noted = subst (λ l. GrowsBy before now l)
          (sym (append_assoc (map held_opening held.outs) (map held_opening then_.outs) (map failed (option_to_list failing)))
          ∙ ap (λ l. l ++ map failed (option_to_list failing)) (sym (map-append held_opening held.outs then_.outs)))
          (GrowsBy-more before mid now (map held_opening held.outs) (map held_opening then_.outs ++ map failed (option_to_list failing)) noted then_.noted);
      faults = faults_on before.faults mid.faults now.faults failing held.faults then_.faults;
      reported = ap (λ l. l ++ states_too) held.reported ∙ ap (λ l. map reported_of held.outs ++ l) then_.reported ∙ sym (map-append reported_of held.outs then_.outs);
      count = omega (arith, held.count, then_.count, length-append numbers numbers_too, length-append held.outs then_.outs);
      numbered = numbers_both before.openings mid.openings now.openings (map held_opening held.outs) (map held_opening then_.outs ++ map failed (option_to_list failing)) numbers numbers_too
          noted.noted (omega (arith, length-map held.outs held_opening, held.count)) then_.noted.noted held.numbered then_.numbered;
    }

-- how far a phase came that failed
pub failed_at : (needed : List Wanted) (numbers : List ℕ) (states : List State) (before now : OutsideState) (what : Wanted) →
    HoldsOpenings needed numbers states before now (Some what) → slice_get needed (length numbers) ≡ Some what
failed_at needed numbers states before now what held =
    ap (λ l. slice_get l (length numbers)) held.in_order
    ∙ ap (slice_get (map what_of held.outs ++ what ∷ held.later)) (held.count ∙ sym (length-map held.outs what_of))
    ∙ at_end (map what_of held.outs) held.later where
      at_end : (prefix rest : List Wanted) → slice_get (prefix ++ what ∷ rest) (length prefix) ≡ Some what
      at_end [] rest = refl
      at_end (first ∷ prefix) rest = at_end prefix rest

-- so there is one more than those that were opened
pub stops_within : (needed : List Wanted) (numbers : List ℕ) (states : List State) (before now : OutsideState) → StopsIn needed numbers states before now → length numbers < length needed
stops_within needed numbers states before now stops = slice_get_within needed (length numbers) stops.what (failed_at needed numbers states before now stops.what stops.openings)

-- where no more is needed, all were opened
pub all_held : (needed : List Wanted) (numbers : List ℕ) (states : List State) (before now : OutsideState) → HoldsOpenings needed numbers states before now None →
    length needed ≤ length numbers → OpensAll needed numbers states before now
all_held needed numbers states before now held past = record {
  openings = held;
  all = omega (arith, past, held.count, length-map held.outs what_of, length-append (map what_of held.outs) held.later, ap (λ (l : List Wanted). length l) held.in_order);
}

pub none_past : {X : Type 0} (items : List X) (place : ℕ) → None ≡ slice_get items place → length items ≤ place
none_past [] place e = omega arith
none_past {X = X} (item ∷ items) zero e = absurd (let f : ◌≡◌ {A = Option X} None (Some item) = e in cc)
none_past (item ∷ items) (suc place) e = let rest = none_past items place e in omega (arith, rest)

-- where the same is needed at each place
pub same_at : {X : Type 0} (items : List X) (place : ℕ) (what : Wanted) → place < length items → slice_get (map (λ _. what) items) place ≡ Some what
same_at [] place what lt = absurd (omega (arith, lt))
same_at (item ∷ items) zero what lt = refl
same_at (item ∷ items) (suc place) what lt = same_at items place what (omega (arith, lt))
