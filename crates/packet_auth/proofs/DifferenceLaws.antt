-- A byte that gathers in which bits two lists of bytes differ is 0 just where they are the same.
use Rattle.std.proofs.Common.{◌≡◌, ℕ, ◌==◌, ◌&&◌, Bool, List, ◌∷◌, length, bytes_eq, bit_or, ap, ◌∙◌, arith}
use Rattle.std.specs.Int.Bits.{bit_xor, xor_add_and, xor_self, or_zero_r}
use Rattle.std.proofs.lemmas.Bool.Decides.{nat_tests}
use Rattle.std.proofs.Math.Bool.{and_assoc}
use Rattle.std.proofs.lemmas.Nat.{and_le_l, and_le_r, le_or_l, le_or_r}

-- two numbers whose bits differ nowhere
same-from_xor : (own other : ℕ) → bit_xor own other ≡ 0 → own ≡ other
same-from_xor own other none = omega (arith, none, xor_add_and own other, and_le_l own other, and_le_r own other)

none_differs : (differing own other : ℕ) → (bit_or differing (bit_xor own other) == 0) ≡ (differing == 0 && own == other)
none_differs differing own other =
    let first = le_or_l differing (bit_xor own other) in
    let second = le_or_r differing (bit_xor own other) in
    let same = same-from_xor own other in
    let self = xor_self own in
    let none = or_zero_r differing in
    grind (arith, nat_tests)

-- one byte more of each list
pub one_more : (differing own other : ℕ) (owns others all all_others : List ℕ) (same : Bool) → all ≡ own ∷ owns → all_others ≡ other ∷ others → (length all ≡ length all_others) × ((differing == 0 && bytes_eq all all_others) ≡ same) → (length owns ≡ length others) × ((bit_or differing (bit_xor own other) == 0 && bytes_eq owns others) ≡ same)
one_more differing own other owns others all all_others same first second so_far =
    let prefix : (differing == 0 && (own == other && bytes_eq owns others)) ≡ same = rw (first, second) at so_far.1 in
    (omega (arith, so_far.0, ap length first, ap length second), ap (λ b. b && bytes_eq owns others) (none_differs differing own other) ∙ and_assoc (differing == 0) (own == other) (bytes_eq owns others) ∙ prefix)
