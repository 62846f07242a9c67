-- How long an interval can be: two points that more than half of the intervals contain lie in one of them.
use Rattle.std.proofs.Common.{◌≡◌, ℕ, ◌+◌, ◌*◌, ◌^◌, ◌<◌, Bool, true, false, cond, List, [], ◌∷◌, ℤ, pos, ◌-ℤ◌, ◌≤ℤ◌, refl, sym, ap, ◌∙◌, arith, length, subst}
use Rattle.std.specs.Prelude.{Option, None, Some, map, filter, count_by, fold, int_le, int_lt, nat_lt, nat_le, unsigned_abs, ◌&&◌}
use Rattle.std.specs.List.{list_all}
use Rattle.std.proofs.lemmas.Bool.{and_parts, leb-true, ltb-true}
use Rattle.std.proofs.lemmas.Int.{ints}
use Rattle.std.proofs.lemmas.List.Sums.{sum_by-cons}
use Rattle.tick_units.specs.Orders.{better, best}
use Rattle.select_core.specs.Selection.{are_measured, contains, cover, high_of, is_held, is_measured, low_of, lower, outside, serves, upper}
use Rattle.select_core.specs.declared.chime.Candidate.{Candidate}

pub in_order : (x y : ℤ) → int_le x y ≡ true → x ≤ℤ y
in_order x y h = grind (arith, ints)

-- a count over one item more
pub count-yes : {X : Type 0} (p : X → Bool) (x : X) (xs : List X) → p x ≡ true → count_by p (x ∷ xs) ≡ 1 + count_by p xs
count-yes p x xs passed = sum_by-cons (λ y. cond (p y) 1 0) x xs ∙ ap (λ (b : Bool). cond b 1 0 + count_by p xs) passed

pub count-no : {X : Type 0} (p : X → Bool) (x : X) (xs : List X) → p x ≡ false → count_by p (x ∷ xs) ≡ count_by p xs
count-no p x xs failed = omega (arith, sum_by-cons (λ y. cond (p y) 1 0) x xs ∙ ap (λ (b : Bool). cond b 1 0 + count_by p xs) failed)

-- where two tests are passed more often than there are items, one item passes both
pub both_pass : {X P : Type 0} (p q r : X → Bool) (xs : List X) → list_all r xs ≡ true → length xs < count_by p xs + count_by q xs
    → ((x : X) → r x ≡ true → p x ≡ true → q x ≡ true → P) → P
both_pass p q r [] all many found = absurd (omega arith)
both_pass {X} {P} p q r (x ∷ xs) all many found =
    by_tests (p x) (q x) refl refl (λ more. both_pass p q r xs (and_parts (r x) (list_all r xs) all).1 more found)
  where
    by_tests : (b d : Bool) → p x ≡ b → q x ≡ d → (length xs < count_by p xs + count_by q xs → P) → P
    by_tests true true one other following = found x (and_parts (r x) (list_all r xs) all).0 one other
    by_tests true false one other following = following (omega (arith, count-yes p x xs one, count-no q x xs other))
    by_tests false true one other following = following (omega (arith, count-no p x xs one, count-yes q x xs other))
    by_tests false false one other following = following (omega (arith, count-no p x xs one, count-no q x xs other))

-- the best of those that pass a test passes it
module _ {X : Type 0} (beats : X → X → Bool) (test : X → Bool) where
  abbrev Passes : Option X → Type 0
  Passes None = Unit {0}
  Passes (Some x) = test x ≡ true

  better-passes : (o : Option X) (y : X) → Passes o → test y ≡ true → Passes (better beats o y)
  better-passes None y before passed = passed
  better-passes (Some x) y before passed = by_test (beats y x)
    where
      by_test : (b : Bool) → Passes (cond b (Some y) (Some x))
      by_test true = passed
      by_test false = before

  fold-passes : (o : Option X) (xs : List X) → Passes o → Passes (fold (better beats) o (filter test xs))
  fold-passes o [] before = before
  fold-passes o (y ∷ ys) before = by_test (test y) refl (λ next. fold-passes next ys)
    where
      by_test : (b : Bool) → test y ≡ b → ((next : Option X) → Passes next → Passes (fold (better beats) next (filter test ys)))
          → Passes (fold (better beats) o (cond b (y ∷ filter test ys) (filter test ys)))
      by_test true passed following = following (better beats o y) (better-passes o y before passed)
      by_test false failed following = following o before

  pub best-passes : (xs : List X) (x : X) → Some x ≡ best beats (filter test xs) → test x ≡ true
  best-passes xs x is = subst Passes (sym is) (fold-passes None xs tt)

measured-most : (c : Candidate) → is_measured c ≡ true → int_le c.distance (pos (2 ^ 32)) ≡ true
measured-most c measured =
    let of_distance = and_parts (int_le (pos 1) c.distance && int_le c.distance (pos (2 ^ 32))) (nat_le (unsigned_abs c.offset) (2 ^ 68)) measured in
    (and_parts (int_le (pos 1) c.distance) (int_le c.distance (pos (2 ^ 32))) of_distance.0).1

pub measured-least : (c : Candidate) → is_measured c ≡ true → int_le (pos 1) c.distance ≡ true
measured-least c measured =
    let of_distance = and_parts (int_le (pos 1) c.distance && int_le c.distance (pos (2 ^ 32))) (nat_le (unsigned_abs c.offset) (2 ^ 68)) measured in
    (and_parts (int_le (pos 1) c.distance) (int_le c.distance (pos (2 ^ 32))) of_distance.0).0

-- two points of one interval
points-narrow : (c : Candidate) (low high : ℤ) → is_measured c ≡ true → contains low c ≡ true → contains high c ≡ true → (high -ℤ low) ≤ℤ pos (2 ^ 33)
points-narrow c low high measured first second =
    let most = in_order c.distance (pos (2 ^ 32)) (measured-most c measured) in
    let above = in_order (lower c) low (and_parts (int_le (lower c) low) (int_le low (upper c)) first).0 in
    let below = in_order high (upper c) (and_parts (int_le (lower c) high) (int_le high (upper c)) second).1 in
    omega (arith, ints)

-- so few may stand outside that both ends lie in more than half of the intervals
pub chime-narrow : (cs : List Candidate) (allowed : ℕ) (low high : ℤ) → are_measured cs ≡ true → serves cs allowed low high ≡ true
    → Some low ≡ low_of cs allowed → Some high ≡ high_of cs allowed → (high -ℤ low) ≤ℤ pos (2 ^ 33)
chime-narrow cs allowed low high measured good is_low is_high =
    let few = ltb-true (2 * allowed) (length cs) (and_parts (nat_lt (2 * allowed) (length cs)) (int_lt low high) (and_parts (nat_lt (2 * allowed) (length cs) && int_lt low high) (nat_le (outside cs low high) allowed) good).0).0 in
    let at_low = leb-true (length cs) (cover cs low + allowed) (best-passes int_lt (is_held cs allowed) (map lower cs) low is_low) in
    let at_high = leb-true (length cs) (cover cs high + allowed) (best-passes (λ x y. int_lt y x) (is_held cs allowed) (map upper cs) high is_high) in
    both_pass (contains low) (contains high) is_measured cs measured (omega arith) (λ c fit first second. points-narrow c low high fit first second)
