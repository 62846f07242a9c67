-- Lists with the same items, each as often: what is counted in them and the best of them are the same.
use Rattle.std.proofs.Common.{◌≡◌, ℕ, suc, ◌+◌, ◌<◌, ◌≤◌, Bool, true, false, cond, List, [], ◌∷◌, ℤ, refl, sym, ap, ◌∙◌, arith, subst, length, get_or}
use Rattle.std.specs.Prelude.{Option, None, Some, ◌&&◌, map, filter, fold, count_by, int_le, reverse}
use Rattle.std.specs.List.Sorted.{IsPermutation}
use Rattle.std.proofs.lemmas.Bool.{and_from, and_left, and_right}
use Rattle.std.proofs.lemmas.Int.{ints}
use Rattle.std.proofs.lemmas.List.Sorted.{IsPermutation-reverse, sum_by-IsPermutation}
use Rattle.std.proofs.lemmas.List.Sums.{count_by-le-length, get_or-le-sum_by, sum_by-cons, sum_by-le-sum_by}
use Rattle.tick_units.specs.Orders.{better, best}
use Rattle.select_core.specs.Ends.{is_sooner}
use Rattle.select_core.specs.Points.{AreAlike}
use Rattle.select_core.specs.declared.ends.Side.{Side}
use Rattle.select_core.proofs.NarrowLaws.{count-yes, count-no}
use Rattle.select_core.proofs.SoonerLaws.{sooner-chain, sooner-never, sooner-one_way, sooner-same}

pub alike-permutation : {X : Type 0} (xs ys : List X) → IsPermutation xs ys → AreAlike xs ys
alike-permutation xs ys moved = λ test. sym (sum_by-IsPermutation (λ x. cond (test x) 1 0) xs ys moved)

pub alike-reverse : {X : Type 0} (xs : List X) → AreAlike (reverse xs) xs
alike-reverse xs = λ test. sum_by-IsPermutation (λ x. cond (test x) 1 0) xs (reverse xs) (IsPermutation-reverse xs)

-- what a test counts in a list that was made of another
pub count-map : {X Y : Type 0} (test : Y → Bool) (f : X → Y) (xs : List X) → count_by test (map f xs) ≡ count_by (λ x. test (f x)) xs
count-map test f [] = refl
count-map {X} test f (x ∷ xs) = by_test (test (f x)) refl (count-map test f xs)
  where
    by_test : (b : Bool) → test (f x) ≡ b → count_by test (map f xs) ≡ count_by (λ y. test (f y)) xs → count_by test (map f (x ∷ xs)) ≡ count_by (λ y. test (f y)) (x ∷ xs)
    by_test true passed following = count-yes test (f x) (map f xs) passed ∙ ap (λ n. 1 + n) following ∙ sym (count-yes (λ (y : X). test (f y)) x xs passed)
    by_test false failed following = count-no test (f x) (map f xs) failed ∙ following ∙ sym (count-no (λ (y : X). test (f y)) x xs failed)

pub count-filter : {X : Type 0} (test keeps : X → Bool) (xs : List X) → count_by test (filter keeps xs) ≡ count_by (λ x. keeps x && test x) xs
count-filter test keeps [] = refl
count-filter {X} test keeps (x ∷ xs) = by_tests (keeps x) (test x) refl refl (count-filter test keeps xs)
  where
    both : X → Bool
    both y = keeps y && test y

    by_tests : (b d : Bool) → keeps x ≡ b → test x ≡ d → count_by test (filter keeps xs) ≡ count_by (λ y. keeps y && test y) xs
        → count_by test (cond b (x ∷ filter keeps xs) (filter keeps xs)) ≡ count_by (λ y. keeps y && test y) (x ∷ xs)
    by_tests true true kept passed following =
        count-yes test x (filter keeps xs) passed ∙ ap (λ n. 1 + n) following ∙ sym (count-yes (λ (y : X). keeps y && test y) x xs (λ i. kept i && passed i))
    by_tests true false kept passed following =
        count-no test x (filter keeps xs) passed ∙ following ∙ sym (count-no (λ (y : X). keeps y && test y) x xs (λ i. kept i && passed i))
    by_tests false true kept passed following = following ∙ sym (count-no (λ (y : X). keeps y && test y) x xs (λ i. kept i && passed i))
    by_tests false false kept passed following = following ∙ sym (count-no (λ (y : X). keeps y && test y) x xs (λ i. kept i && passed i))

pub alike-map : {X Y : Type 0} (f : X → Y) (xs ys : List X) → AreAlike xs ys → AreAlike (map f xs) (map f ys)
alike-map f xs ys same = λ test. count-map test f xs ∙ same (λ x. test (f x)) ∙ sym (count-map test f ys)

pub alike-filter : {X : Type 0} (keeps : X → Bool) (xs ys : List X) → AreAlike xs ys → AreAlike (filter keeps xs) (filter keeps ys)
alike-filter keeps xs ys same = λ test. count-filter test keeps xs ∙ same (λ x. keeps x && test x) ∙ sym (count-filter test keeps ys)

pub length-alike : {X : Type 0} (xs ys : List X) → AreAlike xs ys → length xs ≡ length ys
length-alike {X} xs ys same = sym (all-counted xs) ∙ same (λ _. true) ∙ all-counted ys
  where
    all-counted : (zs : List X) → count_by (λ _. true) zs ≡ length zs
    all-counted [] = refl
    all-counted (z ∷ zs) = omega (arith, count-yes (λ (_ : X). true) z zs refl, all-counted zs)

-- what is there is counted
pub count-at : {X : Type 0} (p : X → Bool) (xs : List X) (i : ℕ) (x : X) → i < length xs → x ≡ get_or xs i x → cond {A = ℕ} (p x) 1 0 ≤ count_by p xs
count-at p xs i x below is = subst (λ y. cond {A = ℕ} (p y) 1 0 ≤ count_by p xs) (sym is) (get_or-le-sum_by (λ y. cond (p y) 1 0) xs i x below)

count-zero : {X : Type 0} (p : X → Bool) (xs : List X) → ((k : ℕ) (d : X) → k < length xs → p (get_or xs k d) ≡ false) → count_by p xs ≡ 0
count-zero p [] none = refl
count-zero p (x ∷ xs) none = count-no p x xs (none 0 x (omega arith)) ∙ count-zero p xs (λ k d below. none (suc k) d (omega arith))

-- where none passes a test
pub filter-none : {X : Type 0} (p : X → Bool) (xs : List X) → ((k : ℕ) (d : X) → k < length xs → p (get_or xs k d) ≡ false) → filter p xs ≡ []
filter-none p [] none = refl
filter-none p (x ∷ xs) none = ap (λ (b : Bool). cond b (x ∷ filter p xs) (filter p xs)) (none 0 x (omega arith)) ∙ filter-none p xs (λ k d below. none (suc k) d (omega arith))

-- a test that is passed where another is, is passed as often or more
pub count-le : {X : Type 0} (p q : X → Bool) (xs : List X) → ((x : X) → p x ≡ true → q x ≡ true) → count_by p xs ≤ count_by q xs
count-le {X} p q xs more = sum_by-le-sum_by (λ x. cond (p x) 1 0) (λ x. cond (q x) 1 0) xs (λ x. by_test x (p x) refl)
  where
    weight : (t b : Bool) → t ≡ b → cond {A = ℕ} t 1 0 ≡ cond b 1 0
    weight t b is = λ i. cond (is i) 1 0

    by_test : (x : X) (b : Bool) → p x ≡ b → cond (p x) 1 0 ≤ cond (q x) 1 0
    by_test x true passed = omega (arith, weight (p x) true passed, weight (q x) true (more x passed))
    by_test x false failed = omega (arith, weight (p x) false failed)

count-more : {X : Type 0} (p : X → Bool) (x : X) (xs : List X) → count_by p xs ≤ count_by p (x ∷ xs)
count-more p x xs = omega (arith, sum_by-cons (λ y. cond (p y) 1 0) x xs)

count-skip : {X : Type 0} (p : X → Bool) (x y : X) (xs : List X) → count_by p (x ∷ xs) ≤ count_by p (x ∷ y ∷ xs)
count-skip p x y xs = omega (arith, sum_by-cons (λ z. cond (p z) 1 0) x xs, sum_by-cons (λ z. cond (p z) 1 0) x (y ∷ xs), count-more p y xs)

-- where none is counted, the first is not
none-first : {X : Type 0} (p : X → Bool) (x : X) (xs : List X) → count_by p (x ∷ xs) ≡ 0 → p x ≡ false
none-first {X} p x xs none = by_test (p x) refl
  where
    by_test : (b : Bool) → p x ≡ b → p x ≡ false
    by_test false failed = failed
    by_test true passed = absurd (omega (arith, count-yes p x xs passed))

-- two points are the same
abbrev is_at : ℤ → ℤ → Bool
is_at x y = int_le x y && int_le y x

is_at-itself : (x : ℤ) → is_at x x ≡ true
is_at-itself x = grind (arith, ints)

is_at-same : (x y : ℤ) → is_at x y ≡ true → x ≡ y
is_at-same x y h = grind (arith, ints)

module _ (from : Side) where
  -- a point is the best of a list: it is there, and none is sooner
  record IsBest (y : ℤ) (xs : List ℤ) : Type 0 where
    there : 1 ≤ count_by (λ x. is_at x y) xs
    none : count_by (λ x. is_sooner from x y) xs ≡ 0

  abbrev FindsBest : Option ℤ → List ℤ → Type 0
  FindsBest None xs = length xs ≡ 0
  FindsBest (Some y) xs = IsBest y xs

  best-of-more : (a : ℤ) (xs : List ℤ) → FindsBest (fold (better (is_sooner from)) (Some a) xs) (a ∷ xs)
  best-of-more a [] = record {
    there = omega (arith, count-yes (λ x. is_at x a) a [] (is_at-itself a));
    none = count-no (λ x. is_sooner from x a) a [] (sooner-never from a);
  }
  best-of-more a (x ∷ xs) = by_test (is_sooner from x a) refl (λ best. best-of-more best xs)
    where
      past-later : (o : Option ℤ) → is_sooner from x a ≡ true → FindsBest o (x ∷ xs) → FindsBest o (a ∷ x ∷ xs)
      past-later None is finds = absurd (omega arith)
      past-later (Some y) is finds =
          let following = sooner-chain from a x y (sooner-one_way from x a is) (none-first (λ z. is_sooner from z y) x xs finds.none) in
          record {
            there = omega (arith, finds.there, count-more (λ z. is_at z y) a (x ∷ xs));
            none = count-no (λ z. is_sooner from z y) a (x ∷ xs) following ∙ finds.none;
          }

      past-same : (o : Option ℤ) → is_sooner from x a ≡ false → FindsBest o (a ∷ xs) → FindsBest o (a ∷ x ∷ xs)
      past-same None is finds = absurd (omega arith)
      past-same (Some y) is finds =
          let first = none-first (λ z. is_sooner from z y) a xs finds.none in
          let following = sooner-chain from x a y is first in
          record {
            there = omega (arith, finds.there, count-skip (λ z. is_at z y) a x xs);
            none = count-no (λ z. is_sooner from z y) a (x ∷ xs) first ∙ count-no (λ z. is_sooner from z y) x xs following ∙ sym (count-no (λ z. is_sooner from z y) a xs first) ∙ finds.none;
          }

      by_test : (b : Bool) → is_sooner from x a ≡ b → ((best : ℤ) → FindsBest (fold (better (is_sooner from)) (Some best) xs) (best ∷ xs))
          → FindsBest (fold (better (is_sooner from)) (cond b (Some x) (Some a)) xs) (a ∷ x ∷ xs)
      by_test true is following = past-later (fold (better (is_sooner from)) (Some x) xs) is (following x)
      by_test false is following = past-same (fold (better (is_sooner from)) (Some a) xs) is (following a)

  best-finds : (xs : List ℤ) → FindsBest (best (is_sooner from) xs) xs
  best-finds [] = refl
  best-finds (x ∷ xs) = best-of-more x xs

  same-best : (o p : Option ℤ) (xs ys : List ℤ) → AreAlike xs ys → FindsBest o xs → FindsBest p ys → o ≡ p
  same-best None None xs ys same first second = refl
  same-best None (Some y) xs ys same first second = absurd (omega (arith, second.there, same (λ x. is_at x y), count_by-le-length (λ x. is_at x y) xs))
  same-best (Some y) None xs ys same first second = absurd (omega (arith, first.there, same (λ x. is_at x y), count_by-le-length (λ x. is_at x y) ys))
  same-best (Some y) (Some z) xs ys same first second = ap Some (sooner-same from y z (by_order y z ys xs second.none first.there (sym (same (λ x. is_at x y)))) (by_order z y xs ys first.none second.there (same (λ x. is_at x z))))
    where
      by_order : (y z : ℤ) (xs ys : List ℤ) → count_by (λ x. is_sooner from x z) xs ≡ 0 → 1 ≤ count_by (λ x. is_at x y) ys → count_by (λ x. is_at x y) xs ≡ count_by (λ x. is_at x y) ys → is_sooner from y z ≡ false
      by_order y z xs ys none there same = by_test (is_sooner from y z) refl
        where
          by_test : (b : Bool) → is_sooner from y z ≡ b → is_sooner from y z ≡ false
          by_test false is = is
          by_test true is = absurd (omega (arith, none, there, same, count-le (λ x. is_at x y) (λ x. is_sooner from x z) xs (λ x at. ap (λ (w : ℤ). is_sooner from w z) (is_at-same x y at) ∙ is)))

  pub best-alike : (xs ys : List ℤ) → AreAlike xs ys → best (is_sooner from) xs ≡ best (is_sooner from) ys
  best-alike xs ys same = same-best (best (is_sooner from) xs) (best (is_sooner from) ys) xs ys same (best-finds xs) (best-finds ys)

  -- a point that is there is the best where none is sooner
  pub best-at : (xs : List ℤ) (k : ℕ) (y : ℤ) → k < length xs → y ≡ get_or xs k y → ((j : ℕ) (d : ℤ) → j < length xs → is_sooner from (get_or xs j d) y ≡ false) → best (is_sooner from) xs ≡ Some y
  best-at xs k y below is none = same-best (best (is_sooner from) xs) (Some y) xs xs (λ test. refl) (best-finds xs) (record {
    there = omega (arith, count-at (λ x. is_at x y) xs k y below is, ap (λ (b : Bool). cond {A = ℕ} b 1 0) (is_at-itself y));
    none = count-zero (λ x. is_sooner from x y) xs none;
  })

  -- so it is among those that pass a test
  pub best-passing : (p : ℤ → Bool) (xs : List ℤ) (k : ℕ) (y : ℤ) → k < length xs → y ≡ get_or xs k y → p y ≡ true → ((j : ℕ) (d : ℤ) → j < length xs → p (get_or xs j d) ≡ true → is_sooner from (get_or xs j d) y ≡ false)
      → best (is_sooner from) (filter p xs) ≡ Some y
  best-passing p xs k y below is passed none = same-best (best (is_sooner from) (filter p xs)) (Some y) (filter p xs) (filter p xs) (λ test. refl) (best-finds (filter p xs)) (record {
    there = omega (arith, count-filter (λ x. is_at x y) p xs, count-at (λ x. p x && is_at x y) xs k y below is, ap (λ (b : Bool). cond {A = ℕ} b 1 0) (and_from (p y) (is_at y y) passed (is_at-itself y)));
    none = count-filter (λ x. is_sooner from x y) p xs ∙ count-zero (λ x. p x && is_sooner from x y) xs (λ j d less. by_test j d less (p (get_or xs j d)) refl);
  })
    where
      by_test : (j : ℕ) (d : ℤ) → j < length xs → (b : Bool) → p (get_or xs j d) ≡ b → (p (get_or xs j d) && is_sooner from (get_or xs j d) y) ≡ false
      by_test j d less true here = and_right (p (get_or xs j d)) (is_sooner from (get_or xs j d) y) (none j d less here)
      by_test j d less false here = and_left (p (get_or xs j d)) (is_sooner from (get_or xs j d) y) here

  pub best-nowhere : (p : ℤ → Bool) (xs : List ℤ) → ((j : ℕ) (d : ℤ) → j < length xs → p (get_or xs j d) ≡ false) → best (is_sooner from) (filter p xs) ≡ None
  best-nowhere p xs none = ap (best (is_sooner from)) (filter-none p xs none)
