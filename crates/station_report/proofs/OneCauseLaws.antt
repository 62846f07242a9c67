-- The ending that a status line reports is determined: two that the same causes allow are one. No function rests on it. It is for the
-- reader, who sees by it that `IsReported` leaves no choice: of causes of one number the first is meant.
use Rattle.std.proofs.Common.{◌≡◌, ℕ, ◌<◌, ◌≤◌, List, [], ◌∷◌, ◌++◌, sym, ◌∙◌, subst, inl, inr, arith}
use Rattle.std.specs.Prelude.{All}
use Rattle.std.proofs.lemmas.List.Elements.{All-head, All-tail}
use Rattle.station_report.specs.Headline.{IsFirstOfLeast, IsReported, number_at}
use Rattle.command_ends.specs.declared.ending.Ending.{Ending}

abbrev IsAbove : ℕ → Ending → Type 0
IsAbove number other = number < number_at other

abbrev IsNoLess : ℕ → Ending → Type 0
IsNoLess number other = number ≤ number_at other

-- one that stands among others has what all of them have
no_less : (number : ℕ) (due : Ending) (before later : List Ending) → All (IsNoLess number) (before ++ due ∷ later) → number ≤ number_at due
no_less number due [] later all = All-head (IsNoLess number) due later all
no_less number due (other ∷ before) later all = no_less number due before later (All-tail (IsNoLess number) other (before ++ due ∷ later) all)

-- where the first is the one, the other does not come later
not_later : (one other next : Ending) (before later rest : List Ending) → one ∷ rest ≡ next ∷ (before ++ other ∷ later) → All (IsNoLess (number_at one)) rest →
    All (IsAbove (number_at other)) (next ∷ before) → one ≡ other
not_later one other next before later rest same after above =
    let first : number_at one ≡ number_at next = cc in
    let others : rest ≡ before ++ other ∷ later = cc in
    let less = All-head (IsAbove (number_at other)) next before above in
    let no_more = no_less (number_at one) other before later (subst (All (IsNoLess (number_at one))) others after) in
    absurd (omega (arith, first, less, no_more))

-- two that stand so in one list stand at one place
one_place : (a b : Ending) (prefix_a prefix_b back_a back_b : List Ending) → prefix_a ++ a ∷ back_a ≡ prefix_b ++ b ∷ back_b →
    All (IsAbove (number_at a)) prefix_a → All (IsNoLess (number_at a)) back_a → All (IsAbove (number_at b)) prefix_b → All (IsNoLess (number_at b)) back_b → a ≡ b
one_place a b [] [] back_a back_b same above_a after_a above_b after_b = cc
one_place a b [] (next ∷ prefix_b) back_a back_b same above_a after_a above_b after_b = not_later a b next prefix_b back_b back_a same after_a above_b
one_place a b (next ∷ prefix_a) [] back_a back_b same above_a after_a above_b after_b = sym (not_later b a next prefix_a back_a back_b (sym same) after_b above_a)
one_place a b (x ∷ prefix_a) (y ∷ prefix_b) back_a back_b same above_a after_a above_b after_b =
    let rest : prefix_a ++ a ∷ back_a ≡ prefix_b ++ b ∷ back_b = cc in
    one_place a b prefix_a prefix_b back_a back_b rest
    (All-tail (IsAbove (number_at a)) x prefix_a above_a) after_a (All-tail (IsAbove (number_at b)) y prefix_b above_b) after_b

-- a list with one of these is not empty
not_none : (due : Ending) (before later : List Ending) → [] ≡ before ++ due ∷ later → ⊥
not_none due [] later same = absurd (cc)
not_none due (other ∷ before) later same = absurd (cc)

none_or_one : (all : List Ending) (due : Ending) → all ≡ [] → IsFirstOfLeast all due → ⊥
none_or_one all due none is = not_none due is.before is.later (sym none ∙ is.is)

pub one_is_first : (all : List Ending) (a b : Ending) → IsFirstOfLeast all a → IsFirstOfLeast all b → a ≡ b
one_is_first all a b is_a is_b = one_place a b is_a.before is_b.before is_a.later is_b.later (sym is_a.is ∙ is_b.is) is_a.greater is_a.no_less is_b.greater is_b.no_less

pub one_is_reported : (all : List Ending) (a b : Ending) → IsReported all a → IsReported all b → a ≡ b
one_is_reported all a b (inl whole_a) (inl whole_b) = whole_a.1 ∙ sym whole_b.1
one_is_reported all a b (inl whole_a) (inr is_b) = absurd (none_or_one all b whole_a.0 is_b)
one_is_reported all a b (inr is_a) (inl whole_b) = absurd (none_or_one all a whole_b.0 is_a)
one_is_reported all a b (inr is_a) (inr is_b) = one_is_first all a b is_a is_b
