-- Which openings a call makes: one opening, none, and two phases one after the other.
use Rattle.std.proofs.Common.{◌≡◌, ℕ, Option, Some, None, List, [], ◌∷◌, ◌++◌, length, map, refl, ap, sym, ◌∙◌, append_assoc, arith, subst}
use Rattle.std.specs.Prelude.{slice_get}
use Rattle.std.specs.Option.{MatchOption, option_map, option_to_list}
use Rattle.std.proofs.lemmas.List.{append-nil, length-append, map-append}
use Rattle.std.proofs.lemmas.List.Sums.{sum_by-append}
use Rattle.outside_traits.specs.Faults.{RoseByOne}
use Rattle.outside_traits.specs.States.{Adds}
use Rattle.outside_traits.specs.Openings.{Wanted, State, Opening, Room, HasRoom, OutsideState, GrowsBy, IsNext, IsOut, GivesBack, MakesOpenings, Visit, answered, failed, visited, with_back, name_of}
use Rattle.outside_traits.proofs.StateLaws.{Adds-none, Adds-more}

-- nothing more, and more in two steps
HasRoom-prefix : (room : Room) (openings more : List Opening) → HasRoom room (openings ++ more) → HasRoom room openings
HasRoom-prefix room openings more fits =
    let sums = sum_by-append (λ (o : Opening). length (name_of o.what)) openings more in
    (omega (arith, fits.0, length-append openings more), omega (arith, fits.1, sums))

pub GrowsBy-none : (now : OutsideState) → GrowsBy now now []
GrowsBy-none now = record {
  noted = Adds-none now.openings;
  reported = λ openings reported fits. reported ∙ ap Some (sym (append-nil openings));
  same_room = refl;
}

pub GrowsBy-more : (before mid now : OutsideState) (xs ys : List Opening) → GrowsBy before mid xs → GrowsBy mid now ys → GrowsBy before now (xs ++ ys)
GrowsBy-more before mid now xs ys h k = record {
  noted = Adds-more before.openings mid.openings now.openings xs ys h.noted k.noted;
  reported = λ openings reported fits.
      let all : HasRoom before.room ((openings ++ xs) ++ ys) = subst (λ l. HasRoom before.room l) (sym (append_assoc openings xs ys)) fits in
      k.reported (openings ++ xs) (h.reported openings reported (HasRoom-prefix before.room (openings ++ xs) ys all)) (subst (λ room. HasRoom room ((openings ++ xs) ++ ys)) (sym h.same_room) all)
      ∙ ap Some (append_assoc openings xs ys);
  same_room = k.same_room ∙ h.same_room;
}

get_last : (openings : List Opening) (opening : Opening) → slice_get (openings ++ opening ∷ []) (length openings) ≡ Some opening
get_last [] opening = refl
get_last (first ∷ openings) opening = get_last openings opening

back_last : (openings : List Opening) (opening : Opening) (state : State) → with_back (length openings) state (openings ++ opening ∷ []) ≡ openings ++ record opening { back = Some state } ∷ []
back_last [] opening state = refl
back_last (first ∷ openings) opening state = ap (λ rest. first ∷ rest) (back_last openings opening state)

-- an object that was just opened is out
out_last : (before now : Option (List Opening)) (what : Wanted) (state : State) (number given : ℕ) →
    Adds before now (answered what state ∷ []) → IsNext before number → given ≡ number → IsOut now given
out_last before None what state number given grows next same = tt
out_last None (Some now) what state number given grows next same = absurd grows
out_last (Some before) (Some now) what state number given grows next same =
    (what, state, ap (λ (l : List Opening). slice_get l given) grows ∙ ap (slice_get (before ++ answered what state ∷ [])) (same ∙ next) ∙ get_last before _)

pub out_after : (before now : OutsideState) (what : Wanted) (state : State) (number given : ℕ) →
    GrowsBy before now (answered what state ∷ []) → IsNext before.openings number → given ≡ number → IsOut now.openings given
out_after before now what state number given grows next same = out_last before.openings now.openings what state number given grows.noted next same

-- opened and given back: one visit
adds_visit : (before mid now : Option (List Opening)) (visit : Visit) (number given : ℕ) →
    Adds before mid (answered visit.what visit.opened ∷ []) → IsNext before number → given ≡ number → now ≡ option_map (with_back given visit.back) mid →
    Adds before now (visited visit ∷ [])
adds_visit before mid None visit number given grows next same gives = tt
adds_visit before None (Some now) visit number given grows next same gives = absurd (let f : ◌≡◌ {A = Option (List Opening)} (Some now) None = gives in cc)
adds_visit None (Some mid) (Some now) visit number given grows next same gives = absurd grows
adds_visit (Some before) (Some mid) (Some now) visit number given grows next same gives =
    let is : now ≡ with_back given visit.back mid = cc in
    is
    ∙ ap (λ (l : List Opening). with_back given visit.back l) grows
    ∙ ap (λ n. with_back n visit.back (before ++ answered visit.what visit.opened ∷ [])) (same ∙ next)
    ∙ back_last before (answered visit.what visit.opened) visit.back

-- room for an opening is room for it, whatever was reported
HasRoom-same : (room : Room) (openings : List Opening) (x y : Opening) → x.what ≡ y.what → HasRoom room (openings ++ x ∷ []) → HasRoom room (openings ++ y ∷ [])
HasRoom-same room openings x y same fits =
    let size = ap (λ w. length (name_of w)) same in
    let sums = sum_by-append (λ (o : Opening). length (name_of o.what)) openings (x ∷ []) in
    let sums_too = sum_by-append (λ (o : Opening). length (name_of o.what)) openings (y ∷ []) in
    (omega (arith, fits.0, length-append openings (x ∷ []), length-append openings (y ∷ [])), omega (arith, fits.1, sums, sums_too, size))

reported_visit : (before mid now : OutsideState) (visit : Visit) (number given : ℕ) →
    GrowsBy before mid (answered visit.what visit.opened ∷ []) → IsNext before.openings number → given ≡ number → GivesBack mid now given visit.back →
    (openings : List Opening) → before.openings ≡ Some openings → HasRoom before.room (openings ++ visited visit ∷ []) → now.openings ≡ Some (openings ++ visited visit ∷ [])
reported_visit before mid now visit number given grows next same gives openings reported fits =
    let then_reported = grows.reported openings reported (HasRoom-same before.room openings (visited visit) (answered visit.what visit.opened) refl fits) in
    let place : number ≡ length openings = subst (λ o. IsNext o number) reported next in
    gives.noted
    ∙ ap (λ o. option_map (with_back given visit.back) o) then_reported
    ∙ ap (λ n. Some (with_back n visit.back (openings ++ answered visit.what visit.opened ∷ []))) (same ∙ place)
    ∙ ap Some (back_last openings (answered visit.what visit.opened) visit.back)

pub grows_by_visit : (before mid now : OutsideState) (visit : Visit) (number given : ℕ) →
    GrowsBy before mid (answered visit.what visit.opened ∷ []) → IsNext before.openings number → given ≡ number → GivesBack mid now given visit.back →
    GrowsBy before now (visited visit ∷ [])
grows_by_visit before mid now visit number given grows next same gives = record {
  noted = adds_visit before.openings mid.openings now.openings visit number given grows.noted next same gives.noted;
  reported = reported_visit before mid now visit number given grows next same gives;
  same_room = gives.same_room ∙ grows.same_room;
}

-- one object, opened and given back
pub opened_once : (before mid now : OutsideState) (visit : Visit) (number given : ℕ) →
    GrowsBy before mid (answered visit.what visit.opened ∷ []) → IsNext before.openings number → mid.faults ≡ before.faults →
    given ≡ number → GivesBack mid now given visit.back → MakesOpenings (visit.what ∷ []) before now (visit ∷ []) None
opened_once before mid now visit number given grows next kept same gives = record {
  later = [];
  in_order = refl;
  noted = grows_by_visit before mid now visit number given grows next same gives;
  faults = gives.no_fault ∙ kept;
}

-- one object, which could not be opened
pub opening_failed : (before now : OutsideState) (what : Wanted) → GrowsBy before now (failed what ∷ []) → RoseByOne before.faults now.faults →
    MakesOpenings (what ∷ []) before now [] (Some what)
opening_failed before now what grows rose = record { later = []; in_order = refl; noted = grows; faults = rose }

-- nothing was opened
pub none_opened : (now : OutsideState) (needed : List Wanted) → MakesOpenings needed now now [] None
none_opened now needed = record { later = needed; in_order = refl; noted = GrowsBy-none now; faults = refl }

-- a first phase after which nothing more is opened
pub opens_prefix : (needed more : List Wanted) (before now : OutsideState) (visits : List Visit) (failing : Option Wanted) →
    MakesOpenings needed before now visits failing → MakesOpenings (needed ++ more) before now visits failing
opens_prefix needed more before now visits failing makes = record {
  later = makes.later ++ more;
  in_order = ap (λ l. l ++ more) makes.in_order
      ∙ append_assoc (map (λ (visit : Visit). visit.what) visits) (option_to_list failing ++ makes.later) more
      ∙ ap (λ l. map (λ (visit : Visit). visit.what) visits ++ l) (append_assoc (option_to_list failing) makes.later more);
  noted = makes.noted;
  faults = makes.faults;
}

none_later : (needed later : List Wanted) (visits : List Visit) → needed ≡ map (λ (visit : Visit). visit.what) visits ++ later → length visits ≡ length needed → later ≡ []
none_later [] [] [] order same = refl
none_later [] (b ∷ later) [] order same = absurd (let size = ap (λ (l : List Wanted). length l) order in omega (arith, size))
none_later [] later (v ∷ visits) order same = absurd (omega (arith, same))
none_later (w ∷ needed) later [] order same = absurd (omega (arith, same))
none_later (w ∷ needed) later (v ∷ visits) order same = none_later needed later visits (cc) (omega (arith, same))

faults_more : (before mid now : ℕ) (failing : Option Wanted) → mid ≡ before →
    MatchOption failing (now ≡ mid) (λ _. RoseByOne mid now) → MatchOption failing (now ≡ before) (λ _. RoseByOne before now)
faults_more before mid now failing same h = subst (λ n. MatchOption failing (now ≡ n) (λ _. RoseByOne n now)) same h

-- a first phase that opened all it needed, and a second one
pub opens_more : (needed more : List Wanted) (before mid now : OutsideState) (visits others : List Visit) (failing : Option Wanted) →
    MakesOpenings needed before mid visits None → length visits ≡ length needed → MakesOpenings more mid now others failing →
    MakesOpenings (needed ++ more) before now (visits ++ others) failing
opens_more needed more before mid now visits others failing first whole second = record {
  later = second.later;
  in_order =
      ap (λ l. l ++ more) (first.in_order ∙ ap (λ b. map (λ (visit : Visit). visit.what) visits ++ b) (none_later needed first.later visits first.in_order whole) ∙ append-nil _)
      ∙ ap (λ l. map (λ (visit : Visit). visit.what) visits ++ l) second.in_order
      ∙ sym (append_assoc (map (λ (visit : Visit). visit.what) visits) (map (λ (visit : Visit). visit.what) others) (option_to_list failing ++ second.later))
      ∙ ap (λ l. l ++ (option_to_list failing ++ second.later)) (sym (map-append (λ (visit : Visit). visit.what) visits others));
  noted = subst (λ l. GrowsBy before now l)
      (ap (λ l. l ++ (map visited others ++ map failed (option_to_list failing))) (append-nil (map visited visits))
      ∙ sym (append_assoc (map visited visits) (map visited others) (map failed (option_to_list failing)))
      ∙ ap (λ l. l ++ map failed (option_to_list failing)) (sym (map-append visited visits others)))
      (GrowsBy-more before mid now _ _ first.noted second.noted);
  faults = faults_more before.faults mid.faults now.faults failing first.faults second.faults;
}
