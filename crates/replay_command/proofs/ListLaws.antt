-- Lists with one item more, or one item changed.
use Rattle.std.proofs.Common.{◌≡◌, ◌≢◌, ◌∙◌, ◌⊎◌, inl, inr, ℕ, zero, suc, Option, Some, None, List, [], ◌∷◌, ◌++◌, length, slice_set, refl, ap, arith}
use Rattle.std.proofs.lemmas.List.{append-nil}
use Rattle.std.proofs.lemmas.List.Elements.{filter_map-append}
use Rattle.std.specs.List.{cons_option, filter_map, last_or, slice_get}
use Rattle.std.specs.Option.{option_to_list}

pub filter_map-none : {X Y : Type 0} (h : X → Option Y) (xs : List X) (x : X) → h x ≡ None → filter_map h (xs ++ x ∷ []) ≡ filter_map h xs
filter_map-none h xs x none =
    filter_map-append h xs (x ∷ []) ∙ ap (λ o. filter_map h xs ++ cons_option o []) none ∙ append-nil (filter_map h xs)

pub filter_map-some : {X Y : Type 0} (h : X → Option Y) (xs : List X) (x : X) (y : Y) → h x ≡ Some y → filter_map h (xs ++ x ∷ []) ≡ filter_map h xs ++ y ∷ []
filter_map-some h xs x y some =
    filter_map-append h xs (x ∷ []) ∙ ap (λ o. filter_map h xs ++ cons_option o []) some

pub last_or-push : {X : Type 0} (o : Option X) (xs : List X) (x : X) → last_or o (xs ++ x ∷ []) ≡ Some x
last_or-push o [] x = refl
last_or-push o (y ∷ ys) x = last_or-push (Some y) ys x

-- what stands at a place after a place was set
pub slice_set-cases : {X : Type 0} (xs : List X) (i j : ℕ) (v x : X) → slice_get (slice_set xs i v) j ≡ Some x → ((j ≡ i) × (x ≡ v)) ⊎ ((j ≢ i) × (slice_get xs j ≡ Some x))
slice_set-cases [] i j v x h = absurd (cc)
slice_set-cases (y ∷ ys) zero zero v x h = inl (refl, cc)
slice_set-cases (y ∷ ys) zero (suc j) v x h = inr (λ e. absurd (omega arith), h)
slice_set-cases (y ∷ ys) (suc i) zero v x h = inr (λ e. absurd (omega arith), h)
slice_set-cases (y ∷ ys) (suc i) (suc j) v x h = onward (slice_set-cases ys i j v x h)
  where
    onward : ((j ≡ i) × (x ≡ v)) ⊎ ((j ≢ i) × (slice_get ys j ≡ Some x)) → ((suc j ≡ suc i) × (x ≡ v)) ⊎ ((suc j ≢ suc i) × (slice_get ys j ≡ Some x))
    onward (inl (e, f)) = inl (ap suc e, f)
    onward (inr (n, f)) = inr (λ e. n (omega arith), f)

-- the answer that is new stands after the old ones
pub slice_get-later : {X : Type 0} (xs : List X) (o : Option X) → slice_get (xs ++ option_to_list o) (length xs) ≡ o
slice_get-later [] None = refl
slice_get-later [] (Some x) = refl
slice_get-later (y ∷ ys) o = slice_get-later ys o
