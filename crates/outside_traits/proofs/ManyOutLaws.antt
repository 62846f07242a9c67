-- Several objects that are out at once: over more openings, and over what is given back.
use Rattle.std.proofs.Common.{◌≡◌, ◌<◌, ◌+◌, ℕ, zero, suc, Option, Some, None, List, [], ◌∷◌, ◌++◌, length, map, refl, ap, sym, ◌∙◌, append_assoc, arith, subst}
use Rattle.std.specs.Prelude.{slice_get}
use Rattle.std.specs.Option.{option_map}
use Rattle.std.proofs.lemmas.List.{length-append}
use Rattle.std.proofs.lemmas.List.Sums.{sum_by-append, sum_by-cons}
use Rattle.outside_traits.specs.States.{Adds}
use Rattle.outside_traits.specs.Openings.{State, Opening, Room, HasRoom, OutsideState, GrowsBy, IsNext, IsOut, IsOutAt, GivesBack, visited, with_back, name_of, names_in}
use Rattle.outside_traits.specs.ManyOut.{Held, held_opening, returned, CountUp, AreNumbers, AreAbove, AreOutAt, AreOut, with_backs, GivesAllBack}

-- numbers, with one opening more, and over more openings and what comes back
CountUp-push : (first : ℕ) (numbers : List ℕ) (number : ℕ) → CountUp first numbers → number ≡ first + length numbers → CountUp first (numbers ++ number ∷ [])
CountUp-push first [] number up is = (omega (arith, is), tt)
CountUp-push first (n ∷ numbers) number up is = (up.0, CountUp-push (suc first) numbers number up.1 (omega (arith, is)))

pub AreNumbers-none : (openings : Option (List Opening)) → AreNumbers openings openings 0 []
AreNumbers-none None = tt
AreNumbers-none (Some openings) = tt

numbers_on : (before mid now : Option (List Opening)) (more : List Opening) (place : ℕ) (numbers : List ℕ) → Adds mid now more →
    AreNumbers before mid place numbers → AreNumbers before now place numbers
numbers_on before mid None more place numbers adds are = tt
numbers_on before None (Some now) more place numbers adds are = absurd adds
numbers_on None (Some mid) (Some now) more place numbers adds are = tt
numbers_on (Some before) (Some mid) (Some now) more place numbers adds are = are

pub AreNumbers-more : (before mid now : OutsideState) (more : List Opening) (place : ℕ) (numbers : List ℕ) → GrowsBy mid now more →
    AreNumbers before.openings mid.openings place numbers → AreNumbers before.openings now.openings place numbers
AreNumbers-more before mid now more place numbers grows are = numbers_on before.openings mid.openings now.openings more place numbers grows.noted are

numbers_push : (before mid now : Option (List Opening)) (more one : List Opening) (place number : ℕ) (numbers : List ℕ) → Adds before mid more →
    length more ≡ place + length numbers → Adds mid now one → AreNumbers before mid place numbers → IsNext mid number → AreNumbers before now place (numbers ++ number ∷ [])
numbers_push before mid None more one place number numbers adds size then_adds are next = tt
numbers_push before None (Some now) more one place number numbers adds size then_adds are next = absurd then_adds
numbers_push None (Some mid) (Some now) more one place number numbers adds size then_adds are next = absurd adds
numbers_push (Some before) (Some mid) (Some now) more one place number numbers adds size then_adds are next =
    CountUp-push (length before + place) numbers number are (omega (arith, next, size, ap (λ (l : List Opening). length l) adds, length-append before more))

pub AreNumbers-push : (before mid now : OutsideState) (more one : List Opening) (place number : ℕ) (numbers : List ℕ) → GrowsBy before mid more →
    length more ≡ place + length numbers → GrowsBy mid now one → AreNumbers before.openings mid.openings place numbers → IsNext mid.openings number →
    AreNumbers before.openings now.openings place (numbers ++ number ∷ [])
AreNumbers-push before mid now more one place number numbers grows size then_grows are next =
    numbers_push before.openings mid.openings now.openings more one place number numbers grows.noted size then_grows.noted are next

numbers_back : (before mid now : Option (List Opening)) (change : List Opening → List Opening) (place : ℕ) (numbers : List ℕ) → now ≡ option_map change mid →
    AreNumbers before mid place numbers → AreNumbers before now place numbers
numbers_back before mid None change place numbers is are = tt
numbers_back before None (Some now) change place numbers is are = absurd (let e : ◌≡◌ {A = Option (List Opening)} (Some now) None = is in cc)
numbers_back None (Some mid) (Some now) change place numbers is are = tt
numbers_back (Some before) (Some mid) (Some now) change place numbers is are = are

pub AreNumbers-back : (before mid now : OutsideState) (numbers others : List ℕ) (states : List State) (place : ℕ) → GivesAllBack mid now others states →
    AreNumbers before.openings mid.openings place numbers → AreNumbers before.openings now.openings place numbers
AreNumbers-back before mid now numbers others states place gives are = numbers_back before.openings mid.openings now.openings (with_backs others states) place numbers gives.noted are

-- what is out stays out over another one that comes back
out_back : (openings : List Opening) (number other : ℕ) (state : State) → number < other → IsOutAt openings other → IsOutAt (with_back number state openings) other
out_back [] number other state lt out = out
out_back (opening ∷ openings) zero zero state lt out = absurd (omega (arith, lt))
out_back (opening ∷ openings) zero (suc other) state lt out = out
out_back (opening ∷ openings) (suc number) zero state lt out = absurd (omega (arith, lt))
out_back (opening ∷ openings) (suc number) (suc other) state lt out = out_back openings number other state (omega (arith, lt)) out

all_out_back : (openings : List Opening) (number : ℕ) (numbers : List ℕ) (state : State) → AreAbove number numbers → AreOutAt openings numbers → AreOutAt (with_back number state openings) numbers
all_out_back openings number [] state above out = tt
all_out_back openings number (other ∷ numbers) state above out =
    (out_back openings number other state above.0 out.0, out.1, all_out_back openings number numbers state above.1 out.2)

are_out_back : (before now : Option (List Opening)) (number : ℕ) (numbers : List ℕ) (state : State) → AreOut before (number ∷ numbers) →
    now ≡ option_map (with_back number state) before → AreOut now numbers
are_out_back before None number numbers state out is = tt
are_out_back None (Some now) number numbers state out is = absurd (let e : ◌≡◌ {A = Option (List Opening)} (Some now) None = is in cc)
are_out_back (Some before) (Some now) number numbers state out is =
    let same : now ≡ with_back number state before = cc in
    subst (λ l. AreOutAt l numbers) (sym same) (all_out_back before number numbers state out.1 out.2)

pub AreOut-back : (before now : OutsideState) (number : ℕ) (numbers : List ℕ) (state : State) → AreOut before.openings (number ∷ numbers) →
    GivesBack before now number state → AreOut now.openings numbers
AreOut-back before now number numbers state out gives = are_out_back before.openings now.openings number numbers state out gives.noted

pub AreOut-first : (openings : Option (List Opening)) (number : ℕ) (numbers : List ℕ) → AreOut openings (number ∷ numbers) → IsOut openings number
AreOut-first None number numbers out = tt
AreOut-first (Some openings) number numbers out = out.0

-- giving back one after the other
same_option : (o : Option (List Opening)) → o ≡ option_map (with_backs [] []) o
same_option None = refl
same_option (Some openings) = refl

pub GivesAllBack-none : (now : OutsideState) → GivesAllBack now now [] []
GivesAllBack-none now = record { noted = same_option now.openings; same_room = refl; no_fault = refl }

then_all : (o : Option (List Opening)) (number : ℕ) (numbers : List ℕ) (state : State) (states : List State) →
    option_map (with_backs numbers states) (option_map (with_back number state) o) ≡ option_map (with_backs (number ∷ numbers) (state ∷ states)) o
then_all None number numbers state states = refl
then_all (Some openings) number numbers state states = refl

pub GivesAllBack-step : (before mid now : OutsideState) (number : ℕ) (numbers : List ℕ) (state : State) (states : List State) →
    GivesBack before mid number state → GivesAllBack mid now numbers states → GivesAllBack before now (number ∷ numbers) (state ∷ states)
GivesAllBack-step before mid now number numbers state states one all = record {
  noted = all.noted ∙ ap (λ o. option_map (with_backs numbers states) o) one.noted ∙ then_all before.openings number numbers state states;
  same_room = all.same_room ∙ one.same_room;
  no_fault = all.no_fault ∙ one.no_fault;
}

-- what was opened in order is out
get_held : (prefix : List Opening) (opening : Opening) (later : List Opening) → slice_get (prefix ++ opening ∷ later) (length prefix) ≡ Some opening
get_held [] opening later = refl
get_held (first ∷ prefix) opening later = get_held prefix opening later

above : (number first : ℕ) (numbers : List ℕ) → number < first → CountUp first numbers → AreAbove number numbers
above number first [] lt up = tt
above number first (other ∷ numbers) lt up = (omega (arith, lt, up.0), above number (suc first) numbers (omega (arith, lt)) up.1)

held_out : (prefix : List Opening) (outs : List Held) (tail : List Opening) (numbers : List ℕ) → CountUp (length prefix) numbers → length numbers ≡ length outs →
    AreOutAt (prefix ++ (map held_opening outs ++ tail)) numbers
held_out prefix outs tail [] up same = tt
held_out prefix [] tail (number ∷ numbers) up same = absurd (omega (arith, same))
held_out prefix (held ∷ outs) tail (number ∷ numbers) up same =
    let longer : length (prefix ++ held_opening held ∷ []) ≡ suc (length prefix) = omega (arith, length-append prefix (held_opening held ∷ [])) in (
      (held.what, held.opened, ap (slice_get (prefix ++ held_opening held ∷ (map held_opening outs ++ tail))) up.0 ∙ get_held prefix (held_opening held) (map held_opening outs ++ tail)),
      above number (suc (length prefix)) numbers (omega (arith, up.0)) up.1,
      subst (λ l. AreOutAt l numbers) (append_assoc prefix (held_opening held ∷ []) (map held_opening outs ++ tail))
          (held_out (prefix ++ held_opening held ∷ []) outs tail numbers (subst (λ n. CountUp n numbers) (sym longer) up.1) (omega (arith, same))),
    )

are_held : (before now : Option (List Opening)) (prefix : List Opening) (outs : List Held) (tail : List Opening) (numbers : List ℕ) →
    Adds before now (prefix ++ (map held_opening outs ++ tail)) → AreNumbers before now (length prefix) numbers → length numbers ≡ length outs → AreOut now numbers
are_held before None prefix outs tail numbers adds are same = tt
are_held None (Some now) prefix outs tail numbers adds are same = absurd adds
are_held (Some before) (Some now) prefix outs tail numbers adds are same =
    subst (λ l. AreOutAt l numbers) (append_assoc before prefix (map held_opening outs ++ tail) ∙ sym adds)
    (held_out (before ++ prefix) outs tail numbers (subst (λ n. CountUp n numbers) (sym (length-append before prefix)) are) same)

pub AreOut-held : (before now : OutsideState) (prefix : List Opening) (outs : List Held) (tail : List Opening) (numbers : List ℕ) →
    GrowsBy before now (prefix ++ (map held_opening outs ++ tail)) → AreNumbers before.openings now.openings (length prefix) numbers → length numbers ≡ length outs →
    AreOut now.openings numbers
AreOut-held before now prefix outs tail numbers grows are same = are_held before.openings now.openings prefix outs tail numbers grows.noted are same

-- and comes back in the same order: each is a visit
back_held : (prefix : List Opening) (held : Held) (later : List Opening) (state : State) →
    with_back (length prefix) state (prefix ++ held_opening held ∷ later) ≡ prefix ++ visited (record { what = held.what; opened = held.opened; back = state }) ∷ later
back_held [] held later state = refl
back_held (first ∷ prefix) held later state = ap (λ rest. first ∷ rest) (back_held prefix held later state)

backs_held : (prefix : List Opening) (outs : List Held) (tail : List Opening) (numbers : List ℕ) (states : List State) → CountUp (length prefix) numbers →
    length numbers ≡ length outs → length states ≡ length outs →
    with_backs numbers states (prefix ++ (map held_opening outs ++ tail)) ≡ prefix ++ (map visited (returned outs states) ++ tail)
backs_held prefix [] tail [] states up same sizes = refl
backs_held prefix [] tail (number ∷ numbers) states up same sizes = absurd (omega (arith, same))
backs_held prefix (held ∷ outs) tail [] states up same sizes = absurd (omega (arith, same))
backs_held prefix (held ∷ outs) tail (number ∷ numbers) [] up same sizes = absurd (omega (arith, sizes))
backs_held prefix (held ∷ outs) tail (number ∷ numbers) (state ∷ states) up same sizes =
    let is = visited (record { what = held.what; opened = held.opened; back = state }) in
    let longer : length (prefix ++ is ∷ []) ≡ suc (length prefix) = omega (arith, length-append prefix (is ∷ [])) in
    ap (λ n. with_backs numbers states (with_back n state (prefix ++ held_opening held ∷ (map held_opening outs ++ tail)))) up.0
    ∙ ap (with_backs numbers states) (back_held prefix held (map held_opening outs ++ tail) state ∙ sym (append_assoc prefix (is ∷ []) (map held_opening outs ++ tail)))
    ∙ backs_held (prefix ++ is ∷ []) outs tail numbers states (subst (λ n. CountUp n numbers) (sym longer) up.1) (omega (arith, same)) (omega (arith, sizes))
    ∙ append_assoc prefix (is ∷ []) (map visited (returned outs states) ++ tail)

adds_back : (before mid now : Option (List Opening)) (prefix : List Opening) (outs : List Held) (tail : List Opening) (numbers : List ℕ) (states : List State) →
    Adds before mid (prefix ++ (map held_opening outs ++ tail)) → AreNumbers before mid (length prefix) numbers → now ≡ option_map (with_backs numbers states) mid →
    length numbers ≡ length outs → length states ≡ length outs → Adds before now (prefix ++ (map visited (returned outs states) ++ tail))
adds_back before mid None prefix outs tail numbers states adds are is same sizes = tt
adds_back before None (Some now) prefix outs tail numbers states adds are is same sizes = absurd (let e : ◌≡◌ {A = Option (List Opening)} (Some now) None = is in cc)
adds_back None (Some mid) (Some now) prefix outs tail numbers states adds are is same sizes = absurd adds
adds_back (Some before) (Some mid) (Some now) prefix outs tail numbers states adds are is same sizes =
    let given : now ≡ with_backs numbers states mid = cc in
    given
    ∙ ap (with_backs numbers states) (adds ∙ sym (append_assoc before prefix (map held_opening outs ++ tail)))
    ∙ backs_held (before ++ prefix) outs tail numbers states (subst (λ n. CountUp n numbers) (sym (length-append before prefix)) are) same sizes
    ∙ append_assoc before prefix (map visited (returned outs states) ++ tail)

-- there is as much room for them
size_of : Opening → ℕ
size_of opening = length (name_of opening.what)

same_names : (outs : List Held) (states : List State) → length states ≡ length outs →
    (names_in (map visited (returned outs states)) ≡ names_in (map held_opening outs)) × (length (map visited (returned outs states)) ≡ length (map held_opening outs))
same_names [] states sizes = (refl, refl)
same_names (held ∷ outs) [] sizes = absurd (omega (arith, sizes))
same_names (held ∷ outs) (state ∷ states) sizes =
    let rest = same_names outs states (omega (arith, sizes)) in
    let is = visited (record { what = held.what; opened = held.opened; back = state }) in (
      sum_by-cons (λ (o : Opening). length (name_of o.what)) is (map visited (returned outs states))
          ∙ ap (λ n. length (name_of held.what) + n) rest.0
          ∙ sym (sum_by-cons (λ (o : Opening). length (name_of o.what)) (held_opening held) (map held_opening outs)),
      ap suc rest.1,
    )

names_parts : (a b c d : List Opening) → names_in (a ++ (b ++ (c ++ d))) ≡ names_in a + (names_in b + (names_in c + names_in d))
names_parts a b c d =
    let f = λ (o : Opening). length (name_of o.what) in
    sum_by-append f a (b ++ (c ++ d)) ∙ ap (λ n. names_in a + n) (sum_by-append f b (c ++ d) ∙ ap (λ n. names_in b + n) (sum_by-append f c d))

length_parts : (a b c d : List Opening) → length (a ++ (b ++ (c ++ d))) ≡ length a + (length b + (length c + length d))
length_parts a b c d = omega (arith, length-append a (b ++ (c ++ d)), length-append b (c ++ d), length-append c d)

room_held : (room : Room) (openings prefix : List Opening) (outs : List Held) (tail : List Opening) (states : List State) → length states ≡ length outs →
    HasRoom room (openings ++ (prefix ++ (map visited (returned outs states) ++ tail))) → HasRoom room (openings ++ (prefix ++ (map held_opening outs ++ tail)))
room_held room openings prefix outs tail states sizes fits =
    let same = same_names outs states sizes in
    let back = map visited (returned outs states) in (
      omega (arith, fits.0, same.1, length_parts openings prefix back tail, length_parts openings prefix (map held_opening outs) tail),
      omega (arith, fits.1, same.0, names_parts openings prefix back tail, names_parts openings prefix (map held_opening outs) tail),
    )

reported_back : (before mid now : OutsideState) (prefix : List Opening) (outs : List Held) (tail : List Opening) (numbers : List ℕ) (states : List State) →
    GrowsBy before mid (prefix ++ (map held_opening outs ++ tail)) → AreNumbers before.openings mid.openings (length prefix) numbers → GivesAllBack mid now numbers states →
    length numbers ≡ length outs → length states ≡ length outs →
    (openings : List Opening) → before.openings ≡ Some openings → HasRoom before.room (openings ++ (prefix ++ (map visited (returned outs states) ++ tail))) →
    now.openings ≡ Some (openings ++ (prefix ++ (map visited (returned outs states) ++ tail)))
reported_back before mid now prefix outs tail numbers states grows are gives same sizes openings reported fits =
    let then_reported = grows.reported openings reported (room_held before.room openings prefix outs tail states sizes fits) in
    let up : AreNumbers (Some openings) (Some (openings ++ (prefix ++ (map held_opening outs ++ tail)))) (length prefix) numbers =
    subst (λ o. AreNumbers (Some openings) o (length prefix) numbers) then_reported (subst (λ o. AreNumbers o mid.openings (length prefix) numbers) reported are) in
    gives.noted
    ∙ ap (λ o. option_map (with_backs numbers states) o) then_reported
    ∙ ap (λ l. Some (with_backs numbers states l)) (sym (append_assoc openings prefix (map held_opening outs ++ tail)))
    ∙ ap Some (backs_held (openings ++ prefix) outs tail numbers states (subst (λ n. CountUp n numbers) (sym (length-append openings prefix)) up) same sizes
    ∙ append_assoc openings prefix (map visited (returned outs states) ++ tail))

pub GrowsBy-back : (before mid now : OutsideState) (prefix : List Opening) (outs : List Held) (tail : List Opening) (numbers : List ℕ) (states : List State) →
    GrowsBy before mid (prefix ++ (map held_opening outs ++ tail)) → AreNumbers before.openings mid.openings (length prefix) numbers → GivesAllBack mid now numbers states →
    length numbers ≡ length outs → length states ≡ length outs → GrowsBy before now (prefix ++ (map visited (returned outs states) ++ tail))
GrowsBy-back before mid now prefix outs tail numbers states grows are gives same sizes = record {
  noted = adds_back before.openings mid.openings now.openings prefix outs tail numbers states grows.noted are gives.noted same sizes;
  reported = reported_back before mid now prefix outs tail numbers states grows are gives same sizes;
  same_room = gives.same_room ∙ grows.same_room;
}
