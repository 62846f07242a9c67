-- The sum of the squared distances from one survivor, by the sums over all.
use Rattle.std.proofs.Common.{◌≡◌, ℕ, suc, ◌+◌, ◌*◌, ◌-◌, ◌^◌, ◌≤◌, ◌<◌, List, [], ◌∷◌, ◌++◌, ℤ, ◌-ℤ◌, ◌≤ℤ◌, unsigned_abs, min, sym, ap, ◌∙◌, subst, arith, mul-le-mul, length, take, get_or, ◌⊎◌, inl, inr}
use Rattle.std.specs.Prelude.{All, Contains, sum_by}
use Rattle.std.proofs.lemmas.Bool.{cases_lt}
use Rattle.std.proofs.lemmas.Int.{ints}
use Rattle.std.specs.Int.{int_min}
use Rattle.std.proofs.lemmas.Int.{clamps}
use Rattle.std.proofs.lemmas.List.{length-append, take_all, take_more}
use Rattle.std.proofs.lemmas.List.Elements.{All-contains, All-head, All-push, All-tail, All-weaker}
use Rattle.std.proofs.lemmas.List.Sums.{sum_by-cons, sum_by_push}
use Rattle.tick_units.specs.Units.{square}
use Rattle.cluster_core.specs.Sums.{AreSums, apart}
use Rattle.cluster_core.specs.declared.spread.Sums.{Sums}
use Rattle.cluster_core.specs.declared.survivor.Survivor.{Survivor}

-- the square of a difference
difference : (a b : ℕ) → a ≤ b → (b - a) * (b - a) + 2 * (a * b) ≡ a * a + b * b
difference a b below = subst (λ (n : ℕ). (n - a) * (n - a) + 2 * (a * n) ≡ a * a + n * n) (let whole : a + (b - a) ≡ b = omega arith in whole) (by_rest (b - a))
  where
    by_rest : (k : ℕ) → ((a + k) - a) * ((a + k) - a) + 2 * (a * (a + k)) ≡ a * a + (a + k) * (a + k)
    by_rest k = let rest : (a + k) - a ≡ k = omega arith in rw rest (omega arith)

-- two offsets that are no less than a base, and near to it
square-by : (k m : ℕ) → k ≡ m → m ≤ 2 ^ 40 → min k (2 ^ 40) * min k (2 ^ 40) ≡ m * m
square-by k m same small = let least : min k (2 ^ 40) ≡ m = omega arith in λ i. least i * least i

square-parts : (base y x : ℤ) → base ≤ℤ y → base ≤ℤ x → unsigned_abs (y -ℤ base) ≤ 2 ^ 40 → unsigned_abs (x -ℤ base) ≤ 2 ^ 40
    → square y x + 2 * (unsigned_abs (x -ℤ base) * unsigned_abs (y -ℤ base)) ≡ unsigned_abs (x -ℤ base) * unsigned_abs (x -ℤ base) + unsigned_abs (y -ℤ base) * unsigned_abs (y -ℤ base)
square-parts base y x above_y above_x near_y near_x = by_order (cases_lt (unsigned_abs (y -ℤ base)) (unsigned_abs (x -ℤ base)))
  where
    a : ℕ
    a = unsigned_abs (x -ℤ base)

    b : ℕ
    b = unsigned_abs (y -ℤ base)

    by_order : (unsigned_abs (y -ℤ base) < unsigned_abs (x -ℤ base)) ⊎ (unsigned_abs (x -ℤ base) ≤ unsigned_abs (y -ℤ base)) → square y x + 2 * (a * b) ≡ a * a + b * b
    by_order (inl less) =
        let far : unsigned_abs (y -ℤ x) ≡ a - b = omega (arith, ints) in
        let is = square-by (unsigned_abs (y -ℤ x)) (a - b) far (omega arith) in
        let whole = difference b a (omega arith) in
        omega (arith, is, whole)
    by_order (inr upto) =
        let far : unsigned_abs (y -ℤ x) ≡ b - a = omega (arith, ints) in
        let is = square-by (unsigned_abs (y -ℤ x)) (b - a) far (omega arith) in
        let whole = difference a b upto in
        omega (arith, is, whole)

-- over a list
spread-parts : (base x : ℤ) (ys : List Survivor) → base ≤ℤ x → unsigned_abs (x -ℤ base) ≤ 2 ^ 40 → All (λ y. base ≤ℤ y.offset) ys → All (λ y. apart base y ≤ 2 ^ 40) ys
    → sum_by (λ y. square y.offset x) ys + 2 * (unsigned_abs (x -ℤ base) * sum_by (apart base) ys) ≡ length ys * (unsigned_abs (x -ℤ base) * unsigned_abs (x -ℤ base)) + sum_by (λ y. apart base y * apart base y) ys
spread-parts base x [] above_x near_x above near = omega arith
spread-parts base x (y ∷ ys) above_x near_x above near =
    let here = square-parts base y.offset x (All-head (λ z. base ≤ℤ z.offset) y ys above) above_x (All-head (λ z. apart base z ≤ 2 ^ 40) y ys near) near_x in
    let further = spread-parts base x ys above_x near_x (All-tail (λ z. base ≤ℤ z.offset) y ys above) (All-tail (λ z. apart base z ≤ 2 ^ 40) y ys near) in
    by_sums _ _ _ _ _ _ _ _ (sum_by-cons (λ z. square z.offset x) y ys) (sum_by-cons (apart base) y ys) (sum_by-cons (λ z. apart base z * apart base z) y ys) here further
  where
    by_sums : (s d q a t e r n : ℕ) → {whole dists squares : ℕ} → whole ≡ s + t → dists ≡ d + e → squares ≡ q + r → s + 2 * (a * d) ≡ a * a + q → t + 2 * (a * e) ≡ n * (a * a) + r → whole + 2 * (a * dists) ≡ suc n * (a * a) + squares
    by_sums s d q a t e r n w v u g h = rw (w, v, u) (omega arith)

-- the sum from one of them
pub spread-is : (s : Sums) (all : List Survivor) (x : Survivor) → AreSums s all → Contains all x
    → sum_by (λ y. square y.offset x.offset) all + 2 * (apart s.base x * s.sum) ≡ length all * (apart s.base x * apart s.base x) + s.squares
spread-is s all x kept member =
    rw (kept.sum, kept.squares) (spread-parts s.base x.offset all (All-contains (λ y. s.base ≤ℤ y.offset) all x kept.above member) (All-contains (λ y. apart s.base y ≤ 2 ^ 40) all x kept.near member) kept.above kept.near)

pub member-near : (s : Sums) (all : List Survivor) (x : Survivor) → AreSums s all → Contains all x → apart s.base x ≤ 2 ^ 40
member-near s all x kept member = All-contains (λ y. apart s.base y ≤ 2 ^ 40) all x kept.near member

-- one survivor more
prefix-more : (all : List Survivor) (i : ℕ) (x : Survivor) → i < length all → x ≡ get_or all i x → take (i + 1) all ≡ take i all ++ x ∷ []
prefix-more all i x below here = take_more all i x below ∙ ap (λ (y : Survivor). take i all ++ y ∷ []) (sym here)

min-below : (least more z : ℤ) → more ≡ int_min least z → more ≤ℤ least
min-below least more z is = omega (arith, ints, clamps)

min-least : (least more z : ℤ) → more ≡ int_min least z → more ≤ℤ z
min-least least more z is = omega (arith, ints, clamps)

less-than : (x y z : ℤ) → x ≤ℤ y → y ≤ℤ z → x ≤ℤ z
less-than x y z g h = omega (arith, ints)

pub least-more : (all : List Survivor) (i : ℕ) (x : Survivor) (least more : ℤ) → i < length all → x ≡ get_or all i x → All (λ y. least ≤ℤ y.offset) (take i all) → more ≡ int_min least x.offset → All (λ y. more ≤ℤ y.offset) (take (i + 1) all)
least-more all i x least more below here before is =
    subst (All (λ y. more ≤ℤ y.offset)) (sym (prefix-more all i x below here))
    (All-push (λ y. more ≤ℤ y.offset) (take i all) x (All-weaker (λ y. least ≤ℤ y.offset) (λ y. more ≤ℤ y.offset) (λ y h. less-than more least y.offset (min-below least more x.offset is) h) (take i all) before) (min-least least more x.offset is))

pub least-all : (all : List Survivor) (i : ℕ) (least : ℤ) → length all ≤ i → All (λ y. least ≤ℤ y.offset) (take i all) → All (λ y. least ≤ℤ y.offset) all
least-all all i least past before = subst (All (λ y. least ≤ℤ y.offset)) (take_all i all past) before

abbrev with : Sums → ℕ → Sums
with s away = record { base = s.base; sum = s.sum + away; squares = s.squares + away * away }

square-small : (away : ℕ) → away ≤ 2 ^ 40 → away * away ≤ 2 ^ 80
square-small away small = mul-le-mul small small

sums-push : (s : Sums) (xs : List Survivor) (x : Survivor) → s.base ≤ℤ x.offset → apart s.base x ≤ 2 ^ 40 → AreSums s xs → AreSums (with s (apart s.base x)) (xs ++ x ∷ [])
sums-push s xs x above near kept = record {
  above = All-push (λ y. s.base ≤ℤ y.offset) xs x kept.above above;
  near = All-push (λ y. apart s.base y ≤ 2 ^ 40) xs x kept.near near;
  sum = omega (arith, kept.sum, sum_by_push (apart s.base) xs x);
  squares = omega (arith, kept.squares, sum_by_push (λ y. apart s.base y * apart s.base y) xs x);
  sum_small = omega (arith, kept.sum_small, length-append xs (x ∷ []));
  squares_small = omega (arith, kept.squares_small, length-append xs (x ∷ []), square-small (apart s.base x) near);
}

pub sums-more : (s new : Sums) (all : List Survivor) (i : ℕ) (x : Survivor) (away : ℕ) → i < length all → x ≡ get_or all i x → All (λ y. s.base ≤ℤ y.offset) all → AreSums s (take i all) → away ≡ apart s.base x → away ≤ 2 ^ 40 → new ≡ with s away
    → All (λ y. new.base ≤ℤ y.offset) all × AreSums new (take (i + 1) all)
sums-more s new all i x away below here least kept away_is near is =
    let above : s.base ≤ℤ x.offset = subst (λ (y : Survivor). s.base ≤ℤ y.offset) (sym here) (least i x below) in
    let same = is ∙ ap (with s) away_is in (
      subst (λ (t : Sums). All (λ y. t.base ≤ℤ y.offset) all) (sym same) least,
      subst (λ (t : Sums). AreSums t (take (i + 1) all)) (sym same) (subst (AreSums (with s (apart s.base x))) (sym (prefix-more all i x below here)) (sums-push s (take i all) x above (subst (λ (n : ℕ). n ≤ 2 ^ 40) away_is near) kept)),
    )
