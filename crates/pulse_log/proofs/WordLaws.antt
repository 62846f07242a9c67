-- Eight bytes as one word, and the digits at their beginning.
use Rattle.std.proofs.Common.{◌≡◌, ℕ, zero, suc, ◌+◌, ◌<◌, ◌≤◌, Bool, true, false, cond, List, [], ◌∷◌, length, take, get_or, refl, arith}
use Rattle.std.specs.Str.Parse.{AllDigits}
use Rattle.core.specs.Char.{is_ascii_digit}
use Rattle.core.specs.Float.Numeral.{digits_len}
use Rattle.core.proofs.dec2flt.DigitsLemmas.{digit_range}
use Rattle.core.proofs.dec2flt.Eight.{bytes_of}
use Rattle.std.specs.Int.{w64, from_le_bytes}
use Rattle.pulse_log.specs.Words.{IsWordOf}
use Rattle.std.proofs.lemmas.Str.{digit_value_digit}

-- the digits at the beginning are digits
pub are_digits : (bytes : List ℕ) (n : ℕ) → n ≤ digits_len bytes → AllDigits 10 (take n bytes)
are_digits bytes zero h = tt
are_digits [] (suc n) h = tt
are_digits (x ∷ xs) (suc n) h = go (are_digits xs n) (is_ascii_digit x) refl h
  where
    go : (n ≤ digits_len xs → AllDigits 10 (take n xs)) → (b : Bool) → is_ascii_digit x ≡ b → suc n ≤ cond b (1 + digits_len xs) 0 → AllDigits 10 (take (suc n) (x ∷ xs))
    go rest true e k =
        let range = digit_range x e in
        let worth = digit_value_digit x (omega arith) in
        (omega arith, rest (omega arith))
    go rest false e k = absurd (omega arith)

-- eight bytes, as `u64::from_le_bytes` reads them
pub le_word : (bytes : List ℕ) → length bytes ≡ 8 → ((i : ℕ) → get_or bytes i 0 < 256) → IsWordOf bytes (from_le_bytes w64 bytes)
le_word [] long fit = absurd (omega arith)
le_word (a ∷ []) long fit = absurd (omega arith)
le_word (a ∷ b ∷ []) long fit = absurd (omega arith)
le_word (a ∷ b ∷ c ∷ []) long fit = absurd (omega arith)
le_word (a ∷ b ∷ c ∷ d ∷ []) long fit = absurd (omega arith)
le_word (a ∷ b ∷ c ∷ d ∷ e ∷ []) long fit = absurd (omega arith)
le_word (a ∷ b ∷ c ∷ d ∷ e ∷ f ∷ []) long fit = absurd (omega arith)
le_word (a ∷ b ∷ c ∷ d ∷ e ∷ f ∷ g ∷ []) long fit = absurd (omega arith)
le_word (a ∷ b ∷ c ∷ d ∷ e ∷ f ∷ g ∷ h ∷ i ∷ more) long fit = absurd (omega arith)
le_word (a ∷ b ∷ c ∷ d ∷ e ∷ f ∷ g ∷ h ∷ []) long fit = ((refl, bytes_of (a ∷ b ∷ c ∷ d ∷ e ∷ f ∷ g ∷ h ∷ []) fit), omega arith)
