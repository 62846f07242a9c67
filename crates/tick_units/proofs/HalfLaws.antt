-- Halves that are rounded up.
use Rattle.std.proofs.Common.{◌≡◌, ℕ, zero, suc, ◌+◌, ◌-◌, ◌/◌, ◌<◌, pos, ap, ◌∙◌, arith}
use Rattle.std.proofs.lemmas.Int.{ints}
use Rattle.tick_units.specs.Units.{ceil_div}

-- a quotient of a number above 0, rounded up, by that of one less, rounded down
pub half_above : (a n : ℕ) → 0 < a → pos ((a - 1) / n + 1) ≡ ceil_div (pos a) n
half_above zero n some = absurd (omega arith)
half_above (suc a) n some = let less : suc a - 1 ≡ a = omega arith in ap (λ k. pos (k / n + 1)) less ∙ omega (arith, ints)
