-- The reductions of lines, up to the first that is not valid, with one more line.
use Rattle.std.proofs.Common.{◌≡◌, ℕ, ◌+◌, ◌<◌, ◌≤◌, Bool, true, false, cond, ltb, leb, Option, Some, None, List, [], ◌∷◌, ◌++◌, length, refl, ap, sym, ◌∙◌, inl, inr, arith}
use Rattle.std.specs.Option.{option_to_list}
use Rattle.std.proofs.lemmas.Bool.{cases_Bool, ltb-true, ltb-false, le-leb, lt-leb}
use Rattle.tick_units.specs.Log.{valid}
use Rattle.tick_units.specs.declared.marks.Reduction.{Reduction}
use Rattle.pulse_log.specs.Reading.{least_after}

-- a reduction that may come after one, and starts at this least start or later
abbrev pub at_least : ℕ → Option Reduction → Option Reduction
at_least least None = None
at_least least (Some r) = cond (leb least r.at) (Some r) None

pub at_least_none : (least : ℕ) (says : Option Reduction) → says ≡ None → at_least least says ≡ None
at_least_none least says e = rw e refl

pub at_least_low : (least : ℕ) (r : Reduction) → r.at < least → at_least least (Some r) ≡ None
at_least_low least r lt = rw (lt-leb least r.at lt) refl

pub at_least_some : (least : ℕ) (r : Reduction) → least ≤ r.at → at_least least (Some r) ≡ Some r
at_least_some least r le = rw (le-leb least r.at le) refl

pub least_push : (rs : List Reduction) (r : Reduction) → least_after (rs ++ r ∷ []) ≡ r.at + 1
least_push [] r = refl
least_push (first ∷ []) r = refl
least_push (first ∷ next ∷ more) r = least_push (next ∷ more) r

-- what two lines say, one after the other
abbrev pair : Bool → Reduction → List Reduction → List Reduction
pair rises r more = cond rises (r ∷ more) (r ∷ [])

pair_add : (first next : Reduction) → pair (ltb first.at next.at) first (next ∷ []) ≡ first ∷ option_to_list (at_least (first.at + 1) (Some next))
pair_add first next = elim (cases_Bool (ltb first.at next.at)) [
  | inl lt ↦ (let le : first.at + 1 ≤ next.at = omega (arith, ltb-true first.at next.at lt) in rw (lt, le-leb (first.at + 1) next.at le) refl)
  | inr ge ↦ (let gt : next.at < first.at + 1 = omega (arith, ltb-false first.at next.at ge) in rw (ge, lt-leb (first.at + 1) next.at gt) refl)
]

least_of_more : (next : Reduction) (more : List (Option Reduction)) (first : Reduction) → least_after (first ∷ valid (Some next ∷ more)) ≡ least_after (valid (Some next ∷ more))
least_of_more next [] first = refl
least_of_more next (None ∷ more) first = refl
least_of_more next (Some r ∷ more) first = elim (ltb next.at r.at) as (λ rises. least_after (first ∷ pair rises next (valid (Some r ∷ more))) ≡ least_after (pair rises next (valid (Some r ∷ more)))) [ true ↦ refl | false ↦ refl ]

-- what one more line adds, after lines that are all valid
pub valid_push : (says : List (Option Reduction)) (last : Option Reduction) → length (valid says) ≡ length says →
    valid (says ++ last ∷ []) ≡ valid says ++ option_to_list (at_least (least_after (valid says)) last)
valid_push [] None all = refl
valid_push [] (Some r) all = rw (le-leb 0 r.at (omega arith)) refl
valid_push (None ∷ more) last all = absurd (omega arith)
valid_push (Some r ∷ []) None all = refl
valid_push (Some r ∷ []) (Some next) all = pair_add r next
valid_push (Some r ∷ None ∷ more) last all = absurd (omega arith)
valid_push (Some r ∷ Some next ∷ more) last all = elim (cases_Bool (ltb r.at next.at)) [
  | inl lt ↦ (let all' : length (r ∷ valid (Some next ∷ more)) ≡ length (Some r ∷ Some next ∷ more) = rw lt at all in
      let rest = valid_push (Some next ∷ more) last (omega arith) in
      rw lt (ap (λ rs. r ∷ rs) rest ∙ ap (λ n. (r ∷ valid (Some next ∷ more)) ++ option_to_list (at_least n last)) (sym (least_of_more next more r))))
  | inr ge ↦ (let all' : length (r ∷ []) ≡ length (Some r ∷ Some next ∷ more) = rw ge at all in absurd (omega arith))
]

-- no line adds anything after one that is not valid
pub valid_stop : (says : List (Option Reduction)) (last : Option Reduction) → length (valid says) < length says → valid (says ++ last ∷ []) ≡ valid says
valid_stop [] last lt = absurd (omega arith)
valid_stop (None ∷ more) last lt = refl
valid_stop (Some r ∷ []) last lt = absurd (omega arith)
valid_stop (Some r ∷ None ∷ more) last lt = refl
valid_stop (Some r ∷ Some next ∷ more) last lt = elim (cases_Bool (ltb r.at next.at)) [
  | inl rises ↦ (let lt' : length (r ∷ valid (Some next ∷ more)) < length (Some r ∷ Some next ∷ more) = rw rises at lt in
      rw rises (ap (λ rs. r ∷ rs) (valid_stop (Some next ∷ more) last (omega arith))))
  | inr ge ↦ rw ge refl
]

pub valid_le : (says : List (Option Reduction)) → length (valid says) ≤ length says
valid_le [] = omega arith
valid_le (None ∷ more) = omega arith
valid_le (Some r ∷ []) = omega arith
valid_le (Some r ∷ None ∷ more) = omega arith
valid_le (Some r ∷ Some next ∷ more) = elim (cases_Bool (ltb r.at next.at)) [
  | inl rises ↦ (let le = valid_le (Some next ∷ more) in rw rises (omega arith))
  | inr ge ↦ rw ge (omega arith)
]
