-- The stages of the clock filter, one by one.
use Rattle.std.proofs.Common.{◌≡◌, ℕ, ◌+◌, ◌-◌, ◌*◌, ◌/◌, ◌^◌, ◌<◌, ◌≤◌, zero, suc, List, [], ◌∷◌, ◌++◌, ℤ, pos, negsuc, ◌+ℤ◌, ◌≤ℤ◌, neg_ℤ, unsigned_abs, sym, ap, ◌∙◌, arith}
use Rattle.std.specs.Prelude.{slice_get, fold}
use Rattle.std.specs.List.{range_with_len}
use Rattle.std.proofs.Math.Nat.{div-lt_iff_lt-mul}
use Rattle.std.proofs.lemmas.Int.{ints}
use Rattle.std.proofs.lemmas.Nat.{pow-add, pow_pos}
use Rattle.std.proofs.lemmas.List.{map-id}
use Rattle.std.proofs.lemmas.List.FromFn.{map-range_with_len_more}
use Rattle.std.proofs.lemmas.List.Sums.{fold_push}
use Rattle.tick_units.specs.Units.{ceil_div}
use Rattle.clock_filter.specs.Figures.{aged, staged}
use Rattle.clock_filter.specs.declared.taken.Taken.{Taken}

-- what this many stages can add up to
pub record Within (stages : ℕ) (sum : ℤ) : Type 0 where
  pub least : pos (2 ^ (70 - stages)) ≤ℤ (sum +ℤ pos (2 ^ 70))
  pub most : (sum +ℤ pos (2 ^ (36 - stages))) ≤ℤ pos (2 ^ 36)

quotient-below : (a n y : ℕ) → 0 < n → a < y * n → a / n < y
quotient-below a n y some below = (div-lt_iff_lt-mul some).1 below

half-within : (n m p : ℕ) (age : ℤ) → 0 < n → n * m ≡ 2 ^ 70 → n * p ≡ 2 ^ 36 → unsigned_abs age < 2 ^ 70 → age ≤ℤ pos (2 ^ 36) → (neg_ℤ (pos m) ≤ℤ ceil_div age n) × (ceil_div age n ≤ℤ pos p)
half-within n m p (pos zero) some low high small most =
    let none : 0 / n < 1 = quotient-below 0 n 1 some (omega arith) in
    (omega (arith, ints), omega (arith, ints))
half-within n m p (pos (suc a)) some low high small most =
    let upto : a < p * n = omega (arith, ints) in
    let below : a / n < p = quotient-below a n p some upto in
    (omega (arith, ints), omega (arith, ints))
half-within n m p (negsuc a) some low high small most =
    let upto : suc a < (m + 1) * n = omega (arith, ints) in
    let below : suc a / n < m + 1 = quotient-below (suc a) n (m + 1) some upto in
    (omega (arith, ints), omega (arith, ints))

-- what is left, and twice what is left after one stage more
left-double : (all i : ℕ) → i < all → 2 ^ (all - i) ≡ 2 * 2 ^ (all - (i + 1))
left-double all i more = let step : all - i ≡ 1 + (all - (i + 1)) = omega arith in ap (λ k. 2 ^ k) step ∙ pow-add 2 1 (all - (i + 1))

left-whole : (all i : ℕ) → i < all → 2 ^ (i + 1) * 2 ^ (all - (i + 1)) ≡ 2 ^ all
left-whole all i more = let whole : (i + 1) + (all - (i + 1)) ≡ all = omega arith in sym (pow-add 2 (i + 1) (all - (i + 1))) ∙ ap (λ k. 2 ^ k) whole

within-by : (i : ℕ) (sum half : ℤ) → i < 8 → neg_ℤ (pos (2 ^ (70 - (i + 1)))) ≤ℤ half → half ≤ℤ pos (2 ^ (36 - (i + 1))) → Within i sum → Within (i + 1) (sum +ℤ half)
within-by i sum half few low high within =
    let low_left = left-double 70 i (omega arith) in
    let high_left = left-double 36 i (omega arith) in
    record { least = omega (arith, ints); most = omega (arith, ints) }

-- one stage more
pub within-more : (i : ℕ) (sum age : ℤ) → i < 8 → unsigned_abs age < 2 ^ 70 → age ≤ℤ pos (2 ^ 36) → Within i sum → Within (i + 1) (sum +ℤ ceil_div age (2 ^ (i + 1)))
within-more i sum age few small most within =
    let half = half-within (2 ^ (i + 1)) (2 ^ (70 - (i + 1))) (2 ^ (36 - (i + 1))) age (pow_pos (i + 1)) (left-whole 70 i (omega arith)) (left-whole 36 i (omega arith)) small most in
    within-by i sum (ceil_div age (2 ^ (i + 1))) few half.0 half.1 within

pub within-none : Within 0 (pos 0)
within-none = record { least = omega (arith, ints); most = omega (arith, ints) }

pub within-small : (i : ℕ) (sum : ℤ) → i ≤ 8 → Within i sum → unsigned_abs sum < 2 ^ 70
within-small i sum few within =
    let low_left = pow_pos (70 - i) in
    let high_left = pow_pos (36 - i) in
    omega (arith, ints)

range-push : (n : ℕ) → range_with_len 0 (n + 1) ≡ range_with_len 0 n ++ n ∷ []
range-push n = sym (map-id (range_with_len 0 (n + 1))) ∙ map-range_with_len_more (λ i. i) 0 n n (omega arith) ∙ ap (λ (xs : List ℕ). xs ++ n ∷ []) (map-id (range_with_len 0 n))

pub staged-more : (i now : ℕ) (taken : List Taken) → staged (i + 1) now taken ≡ staged i now taken +ℤ ceil_div (aged now (slice_get taken i)) (2 ^ (i + 1))
unfolding staged
staged-more i now taken =
    ap (fold (λ sum k. sum +ℤ ceil_div (aged now (slice_get taken k)) (2 ^ (k + 1))) (pos 0)) (range-push i)
    ∙ fold_push (λ sum k. sum +ℤ ceil_div (aged now (slice_get taken k)) (2 ^ (k + 1))) (pos 0) (range_with_len 0 i) i
