-- Which of the things that went wrong is reported, with one more of them.
use Rattle.std.proofs.Common.{◌≡◌, ℕ, ◌<◌, ◌≤◌, Bool, true, false, Option, Some, None, List, [], ◌∷◌, ◌++◌, if◌then◌else◌, refl, sym, ap, ◌∙◌, subst, inl, inr, arith, append_assoc}
use Rattle.std.specs.Prelude.{All, nat_lt, unwrap_or}
use Rattle.std.specs.Option.{option_to_list}
use Rattle.std.proofs.lemmas.Bool.Decides.{nat_tests}
use Rattle.std.proofs.lemmas.List.{append-nil}
use Rattle.std.proofs.lemmas.List.Elements.{All-nil, All-cons, All-push, All-head, All-tail}
use Rattle.station_report.specs.Crewing.{HasLeast}
use Rattle.station_report.specs.Headline.{IsFirstOfLeast, IsReported, number_at}
use Rattle.command_ends.specs.declared.ending.Ending.{Ending}
use Rattle.command_ends.specs.declared.ending.Ending.TheVariants.{Whole}

abbrev IsAbove : ℕ → Ending → Type 0
IsAbove n other = n < number_at other

-- one that is less than the least so far is less than all
all_above : (n : ℕ) (due : Ending) (before later : List Ending) → n < number_at due → All (λ other. number_at due < number_at other) before → All (λ other. number_at due ≤ number_at other) later →
    All (λ other. n < number_at other) (before ++ due ∷ later)
all_above n due [] later lt prefix back = All-cons (IsAbove n) due later lt (rest later back)
  where
    rest : (others : List Ending) → All (λ other. number_at due ≤ number_at other) others → All (IsAbove n) others
    rest [] h = All-nil (IsAbove n)
    rest (o ∷ others) h =
        let one = All-head (λ other. number_at due ≤ number_at other) o others h in
        All-cons (IsAbove n) o others (omega (arith, one, lt)) (rest others (All-tail (λ other. number_at due ≤ number_at other) o others h))
all_above n due (o ∷ before) later lt prefix back =
    let one = All-head (λ other. number_at due < number_at other) o before prefix in
    All-cons (IsAbove n) o (before ++ due ∷ later) (omega (arith, one, lt)) (all_above n due before later lt (All-tail (λ other. number_at due < number_at other) o before prefix) back)

one_more : (all : List Ending) (first next : Ending) (b : Bool) → nat_lt (number_at next) (number_at first) ≡ b → IsFirstOfLeast all first → IsFirstOfLeast (all ++ next ∷ []) (if b then next else first)
one_more all first next true less h = record {
  before = all;
  later = [];
  is = refl;
  greater = subst (All (IsAbove (number_at next))) (sym h.is) (all_above (number_at next) first h.before h.later (grind (arith, nat_tests)) h.greater h.no_less);
  no_less = All-nil (λ other. number_at next ≤ number_at other);
}
one_more all first next false less h = record {
  before = h.before;
  later = h.later ++ next ∷ [];
  is = ap (λ l. l ++ next ∷ []) h.is ∙ append_assoc h.before (first ∷ h.later) (next ∷ []);
  greater = h.greater;
  no_less = All-push (λ other. number_at first ≤ number_at other) h.later next h.no_less (grind (arith, nat_tests));
}

pub least_of_two : (all : List Ending) (first next : Ending) → IsFirstOfLeast all first → IsFirstOfLeast (all ++ next ∷ []) (if nat_lt (number_at next) (number_at first) then next else first)
least_of_two all first next h = one_more all first next (nat_lt (number_at next) (number_at first)) refl h

pub least_of_one : (all : List Ending) (next : Option Ending) → all ≡ [] → HasLeast (all ++ option_to_list next) next
least_of_one all None none = append-nil all ∙ none
least_of_one all (Some next) none = record {
  before = [];
  later = [];
  is = ap (λ l. l ++ next ∷ []) none;
  greater = All-nil (λ other. number_at next < number_at other);
  no_less = All-nil (λ other. number_at next ≤ number_at other);
}

pub least_of_same : (all : List Ending) (found : Option Ending) → HasLeast all found → HasLeast (all ++ []) found
least_of_same all found h = subst (λ l. HasLeast l found) (sym (append-nil all)) h

pub reported_or_whole : (all : List Ending) (found : Option Ending) → HasLeast all found → IsReported all (unwrap_or found Whole)
reported_or_whole all None none = inl (none, refl)
reported_or_whole all (Some due) h = inr h
