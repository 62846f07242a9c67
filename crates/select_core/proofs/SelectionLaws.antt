-- The ends of the intervals, one by one; the numbers that may stand outside; and how long an interval can be.
use Rattle.std.proofs.Common.{◌≡◌, ℕ, zero, suc, ◌*◌, ◌+◌, ◌-◌, ◌<◌, ◌≤◌, Bool, true, false, cond, List, [], ◌∷◌, ◌++◌, refl, sym, ap, ◌∙◌, arith, take, length, get_or, ℤ, le-ltb}
use Rattle.std.specs.Prelude.{Option, None, Some, map, filter, slice_get}
use Rattle.std.specs.List.{filter_map, range_with_len}
use Rattle.std.proofs.lemmas.List.{map-append, append-nil, take_more}
use Rattle.std.proofs.lemmas.List.Elements.{filter-append}
use Rattle.std.proofs.lemmas.List.Sums.{fold_push}
use Rattle.tick_units.specs.Orders.{better, best}
use Rattle.select_core.specs.Selection.{chime_allowing, chime_between, high_of, low_of}
use Rattle.select_core.specs.declared.chime.Candidate.{Candidate}

-- one end more: it counts where it passes the test
module _ {A B : Type 0} (beats : B → B → Bool) (test : B → Bool) (f : A → B) where
  end-more : (xs : List A) (i : ℕ) (d : A) → i < length xs
      → best beats (filter test (map f (take (i + 1) xs)))
      ≡ cond (test (f (get_or xs i d))) (better beats (best beats (filter test (map f (take i xs)))) (f (get_or xs i d))) (best beats (filter test (map f (take i xs))))
  end-more xs i d below =
      ap (λ (ys : List A). best beats (filter test (map f ys))) (take_more xs i d below)
      ∙ ap (λ (ys : List B). best beats (filter test ys)) (map-append f (take i xs) (get_or xs i d ∷ []))
      ∙ ap (best beats) (filter-append test (map f (take i xs)) (f (get_or xs i d) ∷ []))
      ∙ by_test (test (f (get_or xs i d))) (filter test (map f (take i xs))) (f (get_or xs i d))
    where
      by_test : (b : Bool) (prefix : List B) (y : B) → best beats (prefix ++ cond b (y ∷ []) []) ≡ cond b (better beats (best beats prefix) y) (best beats prefix)
      by_test true prefix y = fold_push (better beats) None prefix y
      by_test false prefix y = ap (best beats) (append-nil prefix)

  pub end-taken : (xs : List A) (i : ℕ) (d : A) (x : B) (before after : Option B) → i < length xs → x ≡ f (get_or xs i d) → test x ≡ true
      → before ≡ best beats (filter test (map f (take i xs))) → after ≡ better beats before x → after ≡ best beats (filter test (map f (take (i + 1) xs)))
  end-taken xs i d x before after below end passed prefix step =
      let more = end-more xs i d below in
      let is : test (f (get_or xs i d)) ≡ true = ap test (sym end) ∙ passed in
      step ∙ (λ j. better beats (prefix j) (end j)) ∙ sym (more ∙ ap (λ (b : Bool). cond b (better beats (best beats (filter test (map f (take i xs)))) (f (get_or xs i d))) (best beats (filter test (map f (take i xs))))) is)

  pub end-passed : (xs : List A) (i : ℕ) (d : A) (x : B) (before : Option B) → i < length xs → x ≡ f (get_or xs i d) → test x ≡ false
      → before ≡ best beats (filter test (map f (take i xs))) → before ≡ best beats (filter test (map f (take (i + 1) xs)))
  end-passed xs i d x before below end failed prefix =
      let more = end-more xs i d below in
      let is : test (f (get_or xs i d)) ≡ false = ap test (sym end) ∙ failed in
      prefix ∙ sym (more ∙ ap (λ (b : Bool). cond b (better beats (best beats (filter test (map f (take i xs)))) (f (get_or xs i d))) (best beats (filter test (map f (take i xs))))) is)

module _ {Y : Type 0} (f : ℕ → Option Y) where
  one_less : (i n : ℕ) → i < n → n - i ≡ suc (n - (i + 1))
  one_less i n below = omega arith

  -- nothing is found at this number, so what is first stands after
  pub first-none : (i n : ℕ) → i < n → f i ≡ None → slice_get (filter_map f (range_with_len i (n - i))) 0 ≡ slice_get (filter_map f (range_with_len (i + 1) (n - (i + 1)))) 0
  first-none i n below is = rw (one_less i n below) (rw is refl)

  -- what is found at this number is first
  pub first-some : (i n : ℕ) (y : Y) → i < n → f i ≡ Some y → slice_get (filter_map f (range_with_len i (n - i))) 0 ≡ Some y
  first-some i n y below is = rw (one_less i n below) (rw is refl)

  -- from here on nothing is found
  pub first-nowhere : (i count : ℕ) → ((k : ℕ) → i ≤ k → f k ≡ None) → slice_get (filter_map f (range_with_len i count)) 0 ≡ None
  first-nowhere i zero none = refl
  first-nowhere i (suc count) none = rw (none i (omega arith)) (first-nowhere (i + 1) count (λ k past. none k (omega arith)))

-- half of all may not stand outside
pub half-none : (cs : List Candidate) (allowed : ℕ) → length cs ≤ 2 * allowed → chime_allowing cs allowed ≡ None
half-none cs allowed half = by_ends (low_of cs allowed) (high_of cs allowed)
  where
    by_ends : (low high : Option ℤ) → chime_between cs allowed low high ≡ None
    by_ends None high = refl
    by_ends (Some low) None = refl
    by_ends (Some low) (Some high) = rw (le-ltb (2 * allowed) (length cs) half) refl
