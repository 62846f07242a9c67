-- What is out in two parts, given back one part after the other.
use Rattle.std.proofs.Common.{◌≡◌, ℕ, Option, Some, None, List, [], ◌∷◌, ◌++◌, length, refl, ap, sym, ◌∙◌, arith, subst}
use Rattle.std.specs.Option.{option_map}
use Rattle.outside_traits.specs.Openings.{State, Opening, OutsideState, GivesBack, with_back}
use Rattle.outside_traits.specs.ManyOut.{AreAbove, AreOutAt, AreOut, with_backs, GivesAllBack}
use Rattle.outside_traits.proofs.ManyOutLaws.{AreOut-back}

-- the first part is out
above_prefix : (number : ℕ) (xs ys : List ℕ) → AreAbove number (xs ++ ys) → AreAbove number xs
above_prefix number [] ys above = tt
above_prefix number (x ∷ xs) ys above = (above.0, above_prefix number xs ys above.1)

out_prefix : (openings : List Opening) (xs ys : List ℕ) → AreOutAt openings (xs ++ ys) → AreOutAt openings xs
out_prefix openings [] ys out = tt
out_prefix openings (x ∷ xs) ys out = (out.0, above_prefix x xs ys out.1, out_prefix openings xs ys out.2)

pub AreOut-prefix : (openings : Option (List Opening)) (xs ys : List ℕ) → AreOut openings (xs ++ ys) → AreOut openings xs
AreOut-prefix None xs ys out = tt
AreOut-prefix (Some openings) xs ys out = out_prefix openings xs ys out

-- the second part is out once the first one is back
then_all : (o : Option (List Opening)) (number : ℕ) (numbers : List ℕ) (state : State) (states : List State) →
    option_map (with_backs (number ∷ numbers) (state ∷ states)) o ≡ option_map (with_backs numbers states) (option_map (with_back number state) o)
then_all None number numbers state states = refl
then_all (Some openings) number numbers state states = refl

same_option : (o : Option (List Opening)) → option_map (with_backs [] []) o ≡ o
same_option None = refl
same_option (Some openings) = refl

without_one : OutsideState → ℕ → State → OutsideState
without_one before number state = record { openings = option_map (with_back number state) before.openings; room = before.room; faults = before.faults }

pub AreOut-rest : (before now : OutsideState) (xs ys : List ℕ) (states : List State) → AreOut before.openings (xs ++ ys) → length states ≡ length xs →
    GivesAllBack before now xs states → AreOut now.openings ys
AreOut-rest before now [] ys [] out size gives = subst (λ o. AreOut o ys) (sym (gives.noted ∙ same_option before.openings)) out
AreOut-rest before now [] ys (state ∷ states) out size gives = absurd (omega (arith, size))
AreOut-rest before now (x ∷ xs) ys [] out size gives = absurd (omega (arith, size))
AreOut-rest before now (x ∷ xs) ys (state ∷ states) out size gives =
    let mid : OutsideState = record { openings = option_map (with_back x state) before.openings; room = before.room; faults = before.faults } in
    let one : GivesBack before mid x state = record { noted = refl; same_room = refl; no_fault = refl } in
    let rest : GivesAllBack mid now xs states = record { noted = gives.noted ∙ then_all before.openings x xs state states; same_room = gives.same_room; no_fault = gives.no_fault } in
    AreOut-rest mid now xs ys states (AreOut-back before mid x (xs ++ ys) state out one) (omega (arith, size)) rest

-- both parts came back
backs_both : (openings : List Opening) (xs ys : List ℕ) (states others : List State) → length states ≡ length xs →
    with_backs ys others (with_backs xs states openings) ≡ with_backs (xs ++ ys) (states ++ others) openings
backs_both openings [] ys [] others size = refl
backs_both openings [] ys (state ∷ states) others size = absurd (omega (arith, size))
backs_both openings (x ∷ xs) ys [] others size = absurd (omega (arith, size))
backs_both openings (x ∷ xs) ys (state ∷ states) others size = backs_both (with_back x state openings) xs ys states others (omega (arith, size))

option_both : (o : Option (List Opening)) (xs ys : List ℕ) (states others : List State) → length states ≡ length xs →
    option_map (with_backs ys others) (option_map (with_backs xs states) o) ≡ option_map (with_backs (xs ++ ys) (states ++ others)) o
option_both None xs ys states others size = refl
option_both (Some openings) xs ys states others size = ap Some (backs_both openings xs ys states others size)

pub GivesAllBack-append : (before mid now : OutsideState) (xs ys : List ℕ) (states others : List State) → length states ≡ length xs →
    GivesAllBack before mid xs states → GivesAllBack mid now ys others → GivesAllBack before now (xs ++ ys) (states ++ others)
GivesAllBack-append before mid now xs ys states others size first second = record {
  noted = second.noted ∙ ap (λ o. option_map (with_backs ys others) o) first.noted ∙ option_both before.openings xs ys states others size;
  same_room = second.same_room ∙ first.same_room;
  no_fault = second.no_fault ∙ first.no_fault;
}
