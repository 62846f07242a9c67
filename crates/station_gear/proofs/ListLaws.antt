-- Counts, turned lists and beginnings of lists with one item more.
use Rattle.std.proofs.Common.{◌≡◌, ◌∙◌, ◌⊎◌, inl, inr, ℕ, zero, suc, ◌+◌, ◌<◌, ◌≤◌, ◌&&◌, Bool, true, false, Option, Some, None, IsSome, List, [], ◌∷◌, ◌++◌, length, get_or, reverse, take, refl, ap, arith, cond, rules, if◌then◌else◌}
use Rattle.std.proofs.lemmas.List.{reverse-append, take_more}
use Rattle.std.proofs.lemmas.List.Sums.{sum_by-append, sum_by-cons}
use Rattle.std.proofs.lemmas.Option.{slice_get_cases, slice_get_within, get_or_from_slice_get}
use Rattle.std.specs.List.{count_by, slice_get}
use Rattle.std.specs.Option.{option_map}

pub reverse-push : {X : Type 0} (xs : List X) (x : X) → reverse (xs ++ x ∷ []) ≡ x ∷ reverse xs
reverse-push xs x = reverse-append xs (x ∷ [])

-- 1 for what passes a test
abbrev pub weight : Bool → ℕ
weight b = cond b 1 0

pub and_true : (b : Bool) → weight (b && true) ≡ weight b
and_true true = refl
and_true false = refl

-- one more where a test passes, and as many as before where it does not
pub one-more : (b : Bool) (n : ℕ) → n + weight b ≡ (if b then n + 1 else n)
one-more true n = refl
one-more false n = omega arith

pub count_by-cons : {X : Type 0} (p : X → Bool) (x : X) (xs : List X) → count_by p (x ∷ xs) ≡ weight (p x) + count_by p xs
count_by-cons p x xs = sum_by-cons (λ y. cond (p y) 1 0) x xs

pub count_by-push : {X : Type 0} (p : X → Bool) (xs : List X) (x : X) → count_by p (xs ++ x ∷ []) ≡ count_by p xs + weight (p x)
count_by-push p xs x = let e : count_by p (xs ++ x ∷ []) ≡ count_by p xs + (0 + weight (p x)) = sum_by-append (λ y. cond (p y) 1 0) xs (x ∷ []) in omega arith

pub take-slice_get : {X : Type 0} (xs : List X) (n : ℕ) (x : X) → slice_get xs n ≡ Some x → take (n + 1) xs ≡ take n xs ++ x ∷ []
take-slice_get xs n x e = take_more xs n x (slice_get_within xs n x e) ∙ ap (λ y. take n xs ++ y ∷ []) (get_or_from_slice_get xs n x x e)

pub count_by-take : {X : Type 0} (p : X → Bool) (xs : List X) (n : ℕ) (x : X) → slice_get xs n ≡ Some x → p x ≡ true → count_by p (take n xs) < count_by p xs
count_by-take p [] n x e passes = absurd (cc)
count_by-take p (y ∷ more) zero x e passes =
    let same : y ≡ x = cc in
    let one : weight (p y) ≡ 1 = ap (λ z. weight (p z)) same ∙ ap weight passes in
    let first = count_by-cons p y more in
    let none : count_by p (take zero (y ∷ more)) ≡ 0 = refl in
    omega arith
count_by-take p (y ∷ more) (suc n) x e passes =
    let had = count_by-take p more n x e passes in
    let first = count_by-cons p y more in
    let prefix : count_by p (take (suc n) (y ∷ more)) ≡ weight (p y) + count_by p (take n more) = count_by-cons p y (take n more) in
    omega arith

-- a place within a list has an item
pub some-at : {X Y : Type 0} (f : X → Y) (o : Option X) (ys : List Y) (i : ℕ) → option_map f o ≡ slice_get ys i → i < length ys → IsSome o
some-at f (Some x) ys i e within = search rules
some-at {X} {Y} f None ys i e within = absurd (by (slice_get_cases ys i).1)
  where
    by : ((y : Y) × (i < length ys) × (slice_get ys i ≡ Some y) × (get_or ys i y ≡ y)) ⊎ ((length ys ≤ i) × (slice_get ys i ≡ None)) → ⊥
    by (inl (y, w, at, read)) = let both : None ≡ Some y = e ∙ at in cc
    by (inr (past, none)) = omega arith
