-- The reductions of a log rise.
use Rattle.std.proofs.Common.{◌≡◌, ◌≤◌, ◌+◌, ℕ, ltb, Option, Some, None, List, [], ◌∷◌, ◌++◌, length, map, ap, sym, ◌∙◌, subst, inl, inr, arith}
use Rattle.std.specs.List.{last_or}
use Rattle.std.proofs.lemmas.Bool.{cases_Bool, ltb-true}
use Rattle.std.proofs.lemmas.List.{length-append}
use Rattle.tick_units.specs.Log.{valid, lines_of, pulses, reduction_of}
use Rattle.tick_units.specs.declared.marks.Reduction.{Reduction}
use Rattle.radio_receiver.specs.Histories.{least_after, least_beyond}

-- the first of valid reductions is the first
first_is : (first : Reduction) (more : List (Option Reduction)) (r : Reduction) (rest : List Reduction) → valid (Some first ∷ more) ≡ r ∷ rest → first ≡ r
first_is first [] r rest e = cc
first_is first (None ∷ more) r rest e = cc
first_is first (Some next ∷ more) r rest e = elim (cases_Bool (ltb first.at next.at)) [
  | inl rises ↦ (let f : first ∷ valid (Some next ∷ more) ≡ r ∷ rest = rw rises at e in cc)
  | inr stays ↦ (let f : first ∷ [] ≡ r ∷ rest = rw stays at e in cc)
]

alone : (first last : Reduction) (between : List Reduction) → first ∷ [] ≡ first ∷ (between ++ last ∷ []) → ⊥
alone first last between e = let size = ap (λ (l : List Reduction). length l) e in let more = length-append between (last ∷ []) in omega (arith, size, more)

rises_after : (first : Reduction) (more : List (Option Reduction)) (between : List Reduction) (last : Reduction) → valid (Some first ∷ more) ≡ first ∷ (between ++ last ∷ []) →
    least_beyond (last_or (Some first) between) ≤ last.at
rises_after first [] between last e = absurd (alone first last between e)
rises_after first (None ∷ more) between last e = absurd (alone first last between e)
rises_after first (Some next ∷ more) [] last e = elim (cases_Bool (ltb first.at next.at)) [
  | inl rises ↦ (let f : first ∷ valid (Some next ∷ more) ≡ first ∷ last ∷ [] = rw rises at e in
      let rest : valid (Some next ∷ more) ≡ last ∷ [] = cc in
      let same = first_is next more last [] rest in
      let lt = ltb-true first.at next.at rises in
      subst (λ (r : Reduction). first.at + 1 ≤ r.at) same (omega (arith, lt)))
  | inr stays ↦ (let f : first ∷ [] ≡ first ∷ last ∷ [] = rw stays at e in absurd (alone first last [] f))
]
rises_after first (Some next ∷ more) (second ∷ between) last e = elim (cases_Bool (ltb first.at next.at)) [
  | inl rises ↦ (let f : first ∷ valid (Some next ∷ more) ≡ first ∷ (second ∷ (between ++ last ∷ [])) = rw rises at e in
      let rest : valid (Some next ∷ more) ≡ second ∷ (between ++ last ∷ []) = cc in
      let same = first_is next more second (between ++ last ∷ []) rest in
      subst (λ (r : Reduction). least_beyond (last_or (Some r) between) ≤ last.at) same
      (rises_after next more between last (rest ∙ ap (λ (r : Reduction). r ∷ (between ++ last ∷ [])) (sym same))))
  | inr stays ↦ (let f : first ∷ [] ≡ first ∷ (second ∷ (between ++ last ∷ [])) = rw stays at e in absurd (alone first last (second ∷ between) f))
]

valid_rise : (says : List (Option Reduction)) (before : List Reduction) (last : Reduction) → valid says ≡ before ++ last ∷ [] → least_after before ≤ last.at
valid_rise says [] last e = omega arith
valid_rise [] (first ∷ before) last e = absurd (let size = ap (λ (l : List Reduction). length l) e in omega (arith, size))
valid_rise (None ∷ more) (first ∷ before) last e = absurd (let size = ap (λ (l : List Reduction). length l) e in omega (arith, size))
valid_rise (Some r ∷ more) (first ∷ before) last e =
    let same = first_is r more first (before ++ last ∷ []) e in
    subst (λ (x : Reduction). least_beyond (last_or (Some x) before) ≤ last.at) same
    (rises_after r more before last (e ∙ ap (λ (x : Reduction). x ∷ (before ++ last ∷ [])) (sym same)))

-- a reduction that a longer log adds starts after the last one
pub pulses_rise : (bytes longer : List ℕ) (r : Reduction) → pulses longer ≡ pulses bytes ++ r ∷ [] → least_after (pulses bytes) ≤ r.at
pulses_rise bytes longer r e = valid_rise (map reduction_of (lines_of longer).complete) (pulses bytes) r e
