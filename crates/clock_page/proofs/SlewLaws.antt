-- How much an offset grows at a rate: whole seconds and the rest.
use Rattle.std.proofs.Common.{◌≡◌, ℕ, zero, suc, ◌+◌, ◌*◌, ◌/◌, ◌%◌, ◌^◌, ◌<◌, ℤ, pos, negsuc, neg_ℤ, ◌+ℤ◌, ◌*ℤ◌, unsigned_abs, sym, ap, ◌∙◌, arith}
use Rattle.std.proofs.Math.Nat.{mul-add, mul_assoc}
use Rattle.std.proofs.lemmas.Int.{ints}
use Rattle.tick_units.specs.Units.{floor_div}

-- a product by the millions of a factor, and by what is left
parts : (a e : ℕ) → a * e ≡ a * (e / 10 ^ 6) * 10 ^ 6 + a * (e % 10 ^ 6)
parts a e =
    let whole : e ≡ e / 10 ^ 6 * 10 ^ 6 + e % 10 ^ 6 = omega arith in
    ap (λ n. a * n) whole
    ∙ mul-add a (e / 10 ^ 6 * 10 ^ 6) (e % 10 ^ 6)
    ∙ ap (λ n. n + a * (e % 10 ^ 6)) (sym (mul_assoc a (e / 10 ^ 6) (10 ^ 6)))

above : (n q r : ℕ) → n ≡ q * 10 ^ 6 + r → floor_div (pos n) (10 ^ 6) ≡ pos q +ℤ floor_div (pos r) (10 ^ 6)
above n q r whole = omega (arith, ints)

below : (n q r : ℕ) → n ≡ q * 10 ^ 6 + r → floor_div (neg_ℤ (pos n)) (10 ^ 6) ≡ neg_ℤ (pos q) +ℤ floor_div (neg_ℤ (pos r)) (10 ^ 6)
below zero q zero whole = omega (arith, ints)
below zero q (suc r) whole = absurd (omega arith)
below (suc n) q zero whole = omega (arith, ints)
below (suc n) q (suc r) whole = omega (arith, ints)

pub grown-parts : (rate : ℤ) (e : ℕ) → floor_div (rate *ℤ pos e) (10 ^ 6) ≡ rate *ℤ pos (e / 10 ^ 6) +ℤ floor_div (rate *ℤ pos (e % 10 ^ 6)) (10 ^ 6)
grown-parts (pos a) e = above (a * e) (a * (e / 10 ^ 6)) (a * (e % 10 ^ 6)) (parts a e)
grown-parts (negsuc a) e = below (suc a * e) (suc a * (e / 10 ^ 6)) (suc a * (e % 10 ^ 6)) (parts (suc a) e)

pub rest_small : (z : ℤ) → unsigned_abs z < 2 ^ 62 → unsigned_abs (floor_div z (10 ^ 6)) < 2 ^ 62
rest_small (pos n) small = omega (arith, ints)
rest_small (negsuc n) small = omega (arith, ints)
