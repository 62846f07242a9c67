-- The mean by weight, computed from a base, so that no product passes 128 bits.
use Rattle.std.proofs.Common.{◌≡◌, ℕ, ◌+◌, ◌*◌, ◌/◌, ◌^◌, ◌<◌, ◌≤◌, ℤ, pos, negsuc, zero, suc, ◌+ℤ◌, ◌-ℤ◌, ◌*ℤ◌, ◌≤ℤ◌, neg_ℤ, unsigned_abs, sym, ap, ◌∙◌, arith, List, [], ◌∷◌, ◌++◌, length, get_or, ◌-◌, refl, subst, ◌⊎◌, inl, inr}
use Rattle.std.specs.Prelude.{All, fold, sum_by}
use Rattle.std.proofs.lemmas.Bool.{cases_lt}
use Rattle.std.proofs.lemmas.Int.{ints}
use Rattle.std.proofs.lemmas.List.Elements.{All-head, All-nil, All-push, All-tail, All-weaker}
use Rattle.std.proofs.lemmas.List.Sums.{fold_push, sum_by_push}
use Rattle.std.proofs.Math.Nat.{div-eq_of_lt, mul-le-mul_left}
use borrow.Author.Differences.{up, down, product_is, sum_is_lem, neg_is}
use Rattle.tick_units.specs.Units.{floor_div}
use Rattle.cluster_core.specs.Bounds.{AreNear}
use Rattle.cluster_core.specs.Mean.{weight, mean}
use Rattle.cluster_core.specs.declared.survivor.Survivor.{Survivor}

-- the sum of the offsets' distances from a base, each times its weight
abbrev pub weighted_from : ℤ → List Survivor → ℤ
weighted_from base survivors = fold (λ sum x. sum +ℤ pos (weight x) *ℤ (x.offset -ℤ base)) (pos 0) survivors

-- the quotient q that rounds down has n * q ≤ z < n * q + n
floor_div-parts : (z : ℤ) (n : ℕ) → 0 < n → (up (floor_div z n) * n + down z ≤ down (floor_div z n) * n + up z) × (down (floor_div z n) * n + up z < up (floor_div z n) * n + down z + n)
floor_div-parts (pos a) n h = omega arith
floor_div-parts (negsuc a) n h = omega arith

-- two numbers whose multiples lie less than the factor apart are the same
close : (a b n : ℕ) → a * n < b * n + n → b * n < a * n + n → a ≡ b
close a b n over under = by_order (cases_lt a b) (cases_lt b a)
  where
    by_order : (a < b) ⊎ (b ≤ a) → (b < a) ⊎ (a ≤ b) → a ≡ b
    by_order (inl less) other = let least : a + 1 ≤ b = omega arith in let far : n * (a + 1) ≤ n * b = mul-le-mul_left n least in absurd (omega arith)
    by_order (inr most) (inl more) = let least : b + 1 ≤ a = omega arith in let far : n * (b + 1) ≤ n * a = mul-le-mul_left n least in absurd (omega arith)
    by_order (inr most) (inr least) = omega arith

parts_add : (qu qd pu pd bu bd zu zd yu yd n : ℕ) → qu * n + yd ≤ qd * n + yu → qd * n + yu < qu * n + yd + n → pu * n + zd ≤ pd * n + zu → pd * n + zu < pu * n + zd + n
    → yu + zd + n * bd ≡ yd + zu + n * bu → (qu + pd) + bd ≡ (qd + pu) + bu
parts_add qu qd pu pd bu bd zu zd yu yd n a b c d e = close ((qu + pd) + bd) ((qd + pu) + bu) n (omega arith) (omega arith)

-- a multiple of the divisor adds to the quotient
pub floor_div-shift : (z b : ℤ) (n : ℕ) → 0 < n → floor_div (z +ℤ pos n *ℤ b) n ≡ b +ℤ floor_div z n
floor_div-shift z b n h =
    let p = floor_div-parts z n h in
    let q = floor_div-parts (z +ℤ pos n *ℤ b) n h in
    let m = product_is (pos n) b in
    let s = sum_is_lem z (pos n *ℤ b) in
    let e : (up (floor_div (z +ℤ pos n *ℤ b) n) + down (floor_div z n)) + down b ≡ (down (floor_div (z +ℤ pos n *ℤ b) n) + up (floor_div z n)) + up b =
    parts_add _ _ _ _ _ _ (up z) (down z) (up (z +ℤ pos n *ℤ b)) (down (z +ℤ pos n *ℤ b)) n q.0 q.1 p.0 p.1 (omega arith) in
    omega (arith, ints)

-- one term more
term_more : (s t c b : ℤ) (n w : ℕ) → s ≡ t +ℤ pos n *ℤ b → s +ℤ pos w *ℤ c ≡ (t +ℤ pos w *ℤ (c -ℤ b)) +ℤ pos (n + w) *ℤ b
term_more s t c b n w h =
    let apart = ap (λ (k : ℕ). w * k) (sum_is_lem c (neg_ℤ b)) in
    let signs = neg_is b in
    let up_b = ap (λ (k : ℕ). w * k) signs.0 in
    let down_b = ap (λ (k : ℕ). w * k) signs.1 in
    omega (arith, ints, product_is (pos w) c, product_is (pos w) (c -ℤ b), product_is (pos n) b, product_is (pos (n + w)) b)

-- a weighted sum, computed from b
weighted-shift : {X : Type 0} (w : X → ℕ) (o : X → ℤ) (b : ℤ) (xs : List X) (s t : ℤ) (n : ℕ) → s ≡ t +ℤ pos n *ℤ b
    → fold (λ sum x. sum +ℤ pos (w x) *ℤ o x) s xs ≡ fold (λ sum x. sum +ℤ pos (w x) *ℤ (o x -ℤ b)) t xs +ℤ pos (fold (λ sum x. sum + w x) n xs) *ℤ b
weighted-shift w o b [] s t n h = h
weighted-shift w o b (x ∷ xs) s t n h = weighted-shift w o b xs (s +ℤ pos (w x) *ℤ o x) (t +ℤ pos (w x) *ℤ (o x -ℤ b)) (n + w x) (term_more s t (o x) b n (w x) h)

-- the mean, computed from a base
pub mean-from : (base : ℤ) (survivors : List Survivor) → 0 < sum_by weight survivors → base +ℤ floor_div (weighted_from base survivors) (sum_by weight survivors) ≡ mean survivors
mean-from base survivors some =
    sym (floor_div-shift (weighted_from base survivors) base (sum_by weight survivors) some)
    ∙ ap (λ (z : ℤ). floor_div z (sum_by weight survivors)) (sym (weighted-shift weight (λ (x : Survivor). x.offset) base survivors (pos 0) (pos 0) 0 (none base)))
  where
    none : (b : ℤ) → pos 0 ≡ pos 0 +ℤ pos 0 *ℤ b
    none b = let m = product_is (pos 0) b in omega (arith, ints)

-- the weighted distances from a bound have one sign
term-least : (sum z : ℤ) (w : ℕ) → pos 0 ≤ℤ sum → pos 0 ≤ℤ z → pos 0 ≤ℤ (sum +ℤ pos w *ℤ z)
term-least sum (pos n) w least above = omega (arith, ints)
term-least sum (negsuc n) w least above = absurd (omega (arith, ints))

weighted-least : (low : ℤ) (survivors : List Survivor) (sum : ℤ) → pos 0 ≤ℤ sum → All (λ x. low ≤ℤ x.offset) survivors → pos 0 ≤ℤ fold (λ sum x. sum +ℤ pos (weight x) *ℤ (x.offset -ℤ low)) sum survivors
weighted-least low [] sum least all = least
weighted-least low (x ∷ xs) sum least all =
    let above = All-head (λ y. low ≤ℤ y.offset) x xs all in
    weighted-least low xs (sum +ℤ pos (weight x) *ℤ (x.offset -ℤ low)) (term-least sum (x.offset -ℤ low) (weight x) least (omega (arith, ints))) (All-tail (λ y. low ≤ℤ y.offset) x xs all)

term-most : (sum z : ℤ) (w : ℕ) → sum ≤ℤ pos 0 → z ≤ℤ pos 0 → (sum +ℤ pos w *ℤ z) ≤ℤ pos 0
term-most sum (pos zero) w most below = omega (arith, ints)
term-most sum (pos (suc n)) w most below = absurd (omega (arith, ints))
term-most sum (negsuc n) w most below = omega (arith, ints)

weighted-most : (high : ℤ) (survivors : List Survivor) (sum : ℤ) → sum ≤ℤ pos 0 → All (λ x. x.offset ≤ℤ high) survivors → fold (λ sum x. sum +ℤ pos (weight x) *ℤ (x.offset -ℤ high)) sum survivors ≤ℤ pos 0
weighted-most high [] sum most all = most
weighted-most high (x ∷ xs) sum most all =
    let below = All-head (λ y. y.offset ≤ℤ high) x xs all in
    weighted-most high xs (sum +ℤ pos (weight x) *ℤ (x.offset -ℤ high)) (term-most sum (x.offset -ℤ high) (weight x) most (omega (arith, ints))) (All-tail (λ y. y.offset ≤ℤ high) x xs all)

floor-least : (z : ℤ) (n : ℕ) → 0 < n → pos 0 ≤ℤ z → pos 0 ≤ℤ floor_div z n
floor-least (pos a) n some least = omega (arith, ints)
floor-least (negsuc a) n some least = absurd (omega (arith, ints))

floor-most : (z : ℤ) (n : ℕ) → 0 < n → z ≤ℤ pos 0 → floor_div z n ≤ℤ pos 0
floor-most (pos zero) n some most = let none : 0 / n ≡ 0 = div-eq_of_lt some in omega (arith, ints)
floor-most (pos (suc a)) n some most = absurd (omega (arith, ints))
floor-most (negsuc a) n some most = omega (arith, ints)

-- the mean is no less than the least offset, and no greater than the greatest
pub mean-least : (low : ℤ) (survivors : List Survivor) → 0 < sum_by weight survivors → All (λ x. low ≤ℤ x.offset) survivors → low ≤ℤ mean survivors
mean-least low survivors some all =
    let above = floor-least (weighted_from low survivors) (sum_by weight survivors) some (weighted-least low survivors (pos 0) (omega (arith, ints)) all) in
    subst (λ z. low ≤ℤ z) (mean-from low survivors some) (least-by low (floor_div (weighted_from low survivors) (sum_by weight survivors)) above)
  where
    least-by : (x y : ℤ) → pos 0 ≤ℤ y → x ≤ℤ (x +ℤ y)
    least-by x y above = omega (arith, ints)

pub mean-most : (high : ℤ) (survivors : List Survivor) → 0 < sum_by weight survivors → All (λ x. x.offset ≤ℤ high) survivors → mean survivors ≤ℤ high
mean-most high survivors some all =
    let below = floor-most (weighted_from high survivors) (sum_by weight survivors) some (weighted-most high survivors (pos 0) (omega (arith, ints)) all) in
    subst (λ z. z ≤ℤ high) (mean-from high survivors some) (most-by high (floor_div (weighted_from high survivors) (sum_by weight survivors)) below)
  where
    most-by : (x y : ℤ) → y ≤ℤ pos 0 → (x +ℤ y) ≤ℤ x
    most-by x y below = omega (arith, ints)

-- so it is a span where the offsets are
span-least : (z : ℤ) → unsigned_abs z < 2 ^ 70 → neg_ℤ (pos (2 ^ 70 - 1)) ≤ℤ z
span-least z small = omega (arith, ints)

span-most : (z : ℤ) → unsigned_abs z < 2 ^ 70 → z ≤ℤ pos (2 ^ 70 - 1)
span-most z small = omega (arith, ints)

span-small : (z : ℤ) → neg_ℤ (pos (2 ^ 70 - 1)) ≤ℤ z → z ≤ℤ pos (2 ^ 70 - 1) → unsigned_abs z < 2 ^ 70
span-small z least most = omega (arith, ints)

pub mean-small : (survivors : List Survivor) → 0 < sum_by weight survivors → All (λ x. unsigned_abs x.offset < 2 ^ 70) survivors → unsigned_abs (mean survivors) < 2 ^ 70
mean-small survivors some spans =
    span-small (mean survivors)
    (mean-least (neg_ℤ (pos (2 ^ 70 - 1))) survivors some (All-weaker (λ x. unsigned_abs x.offset < 2 ^ 70) (λ x. neg_ℤ (pos (2 ^ 70 - 1)) ≤ℤ x.offset) (λ x small. span-least x.offset small) survivors spans))
    (mean-most (pos (2 ^ 70 - 1)) survivors some (All-weaker (λ x. unsigned_abs x.offset < 2 ^ 70) (λ x. x.offset ≤ℤ pos (2 ^ 70 - 1)) (λ x small. span-most x.offset small) survivors spans))

-- offsets between two bounds are as near as these
between : (low high x y : ℤ) → unsigned_abs (high -ℤ low) ≤ 2 ^ 33 → low ≤ℤ x → x ≤ℤ high → low ≤ℤ y → y ≤ℤ high → unsigned_abs (x -ℤ y) ≤ 2 ^ 33
between low high x y apart a b c d = omega (arith, ints)

pub near-to : (all : List Survivor) (i : ℕ) (e : Survivor) → i < length all → AreNear all → All (λ x. unsigned_abs (x.offset -ℤ (get_or all i e).offset) ≤ 2 ^ 33) all
near-to all i e within near = λ k d inside. between near.low near.high _ _ near.apart (near.from k d inside) (near.upto k d inside) (near.from i e within) (near.upto i e within)

-- this many survivors are summed
pub record AreSummed (base : ℤ) (seen : List Survivor) (count : ℕ) (sum : ℤ) (weights : ℕ) : Type 0 where
  pub summed : sum ≡ weighted_from base seen
  pub weighed : weights ≡ sum_by weight seen
  pub small : unsigned_abs sum ≤ weights * 2 ^ 33
  pub some : count ≤ weights
  pub most : weights ≤ count * 2 ^ 62
  pub offsets : All (λ x. unsigned_abs x.offset < 2 ^ 70) seen

pub summed-none : (base : ℤ) → AreSummed base [] 0 (pos 0) 0
summed-none base = record { summed = refl; weighed = refl; small = omega arith; some = omega arith; most = omega arith; offsets = All-nil (λ x. unsigned_abs x.offset < 2 ^ 70) }

term-small : (sum z : ℤ) (w n : ℕ) → unsigned_abs z ≤ 2 ^ 33 → unsigned_abs sum ≤ n * 2 ^ 33 → unsigned_abs (sum +ℤ pos w *ℤ z) ≤ (n + w) * 2 ^ 33
term-small sum (pos a) w n near small = let term : w * a ≤ w * 2 ^ 33 = mul-le-mul_left w near in omega (arith, ints)
term-small sum (negsuc a) w n near small = let term : w * suc a ≤ w * 2 ^ 33 = mul-le-mul_left w near in omega (arith, ints)

pub summed-more : (base : ℤ) (seen : List Survivor) (count : ℕ) (sum : ℤ) (weights : ℕ) (x : Survivor) → AreSummed base seen count sum weights → 0 < weight x → weight x ≤ 2 ^ 62 → unsigned_abs (x.offset -ℤ base) ≤ 2 ^ 33 → unsigned_abs x.offset < 2 ^ 70
    → AreSummed base (seen ++ x ∷ []) (count + 1) (sum +ℤ pos (weight x) *ℤ (x.offset -ℤ base)) (weights + weight x)
summed-more base seen count sum weights x before some most near offset = record {
  summed = ap (λ z. z +ℤ pos (weight x) *ℤ (x.offset -ℤ base)) before.summed ∙ sym (fold_push (λ sum y. sum +ℤ pos (weight y) *ℤ (y.offset -ℤ base)) (pos 0) seen x);
  weighed = ap (λ n. n + weight x) before.weighed ∙ sym (sum_by_push weight seen x);
  small = term-small sum (x.offset -ℤ base) (weight x) weights near before.small;
  some = let was = before.some in omega arith;
  most = let was = before.most in omega arith;
  offsets = All-push (λ y. unsigned_abs y.offset < 2 ^ 70) seen x before.offsets offset;
}

-- the same, from what the steps of a loop gave
pub summed-by : (base : ℤ) (seen : List Survivor) (count : ℕ) (sum sum_now : ℤ) (weights w : ℕ) (z : ℤ) (x : Survivor) → AreSummed base seen count sum weights → w ≡ weight x → z ≡ x.offset -ℤ base → sum_now ≡ sum +ℤ pos w *ℤ z
    → 0 < w → w ≤ 2 ^ 62 → unsigned_abs (x.offset -ℤ base) ≤ 2 ^ 33 → unsigned_abs x.offset < 2 ^ 70 → AreSummed base (seen ++ x ∷ []) (count + 1) sum_now (weights + w)
summed-by base seen count sum sum_now weights w z x before weighs lies summed some most near offset =
    let more = summed-more base seen count sum weights x before (subst (λ n. 0 < n) weighs some) (subst (λ n. n ≤ 2 ^ 62) weighs most) near offset in
    let is : sum_now ≡ sum +ℤ pos (weight x) *ℤ (x.offset -ℤ base) = summed ∙ ap (λ n. sum +ℤ pos n *ℤ z) weighs ∙ ap (λ y. sum +ℤ pos (weight x) *ℤ y) lies in
    subst (λ s. AreSummed base (seen ++ x ∷ []) (count + 1) s (weights + w)) (sym is) (subst (λ n. AreSummed base (seen ++ x ∷ []) (count + 1) (sum +ℤ pos (weight x) *ℤ (x.offset -ℤ base)) (weights + n)) (sym weighs) more)

-- the mean from those sums
pub mean-by : (base : ℤ) (survivors : List Survivor) (count : ℕ) (sum q : ℤ) (weights : ℕ) → AreSummed base survivors count sum weights → 0 < count → q ≡ floor_div sum weights → base +ℤ q ≡ mean survivors
mean-by base survivors count sum q weights sums members is =
    let some : 0 < sum_by weight survivors = subst (λ n. 0 < n) sums.weighed (omega (arith, sums.some)) in
    ap (λ z. base +ℤ z) (is ∙ ap (λ z. floor_div z weights) sums.summed ∙ ap (λ n. floor_div (weighted_from base survivors) n) sums.weighed) ∙ mean-from base survivors some
