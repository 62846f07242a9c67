-- What a loop keeps that changes each item of a list in its place.
use Rattle.std.proofs.Common.{◌≡◌, ℕ, ◌+◌, ◌<◌, ◌≤◌, ◌⊎◌, inl, inr, List, length, refl, sym, ◌∙◌, subst, arith}
use Rattle.std.specs.Prelude.{get_or, slice_set}
use Rattle.std.proofs.lemmas.List.{get_or-set_same, get_or-set_other, get_or_default}
use Rattle.feed_workers.proofs.ListLaws.{below_or}
use Rattle.feed_workers.specs.Lists.{Each}

-- those before a place went to what they are now, and the others are as they were
pub record RanUpTo {J : Type 0} (ran : J → J → Type 0) (before now : List J) (i : ℕ) : Type 0 where
  pub done : (k : ℕ) (d : J) → k < i → ran (get_or before k d) (get_or now k d)
  pub rest : (k : ℕ) (d : J) → i ≤ k → get_or now k d ≡ get_or before k d

pub ran_none : {J : Type 0} (ran : J → J → Type 0) (xs : List J) → RanUpTo ran xs xs 0
ran_none ran xs = record { done = (λ k d lt. absurd (omega (arith, lt))); rest = (λ k d le. refl) }

pub ran_more : {J : Type 0} (ran : J → J → Type 0) (before now : List J) (i : ℕ) (d x : J) → i < length now → ran (get_or now i d) x → RanUpTo ran before now i → RanUpTo ran before (slice_set now i x) (i + 1)
ran_more {J = J} ran before now i d x lt one so = record {
  done = (λ k e less. at k e less (below_or k i));
  rest = (λ k e le. get_or-set_other now i k x e (λ same. absurd (omega (arith, same, le))) ∙ so.rest k e (omega (arith, le)));
}
  where
    here : (e : J) → ran (get_or before i e) (get_or (slice_set now i x) i e)
    here e = subst (ran (get_or before i e)) (sym (get_or-set_same now i x e lt)) (subst (λ z. ran z x) (get_or_default now i d e lt ∙ so.rest i e (omega arith)) one)

    at : (k : ℕ) (e : J) → k < i + 1 → (k < i) ⊎ (i ≤ k) → ran (get_or before k e) (get_or (slice_set now i x) k e)
    at k e less (inl lower) = subst (ran (get_or before k e)) (sym (get_or-set_other now i k x e (λ same. absurd (omega (arith, same, lower))))) (so.done k e lower)
    at k e less (inr above) =
        let same : i ≡ k = omega (arith, less, above) in
        subst (λ n. ran (get_or before n e) (get_or (slice_set now i x) n e)) same (here e)

pub ran_whole : {J : Type 0} (ran : J → J → Type 0) (before now : List J) (i : ℕ) → i ≡ length before → RanUpTo ran before now i → Each ran before now
ran_whole ran before now i whole so = record { at = (λ k d lt. so.done k d (omega (arith, lt, whole))) }
