-- The text of an address, and the way back.
use Rattle.std.proofs.Common.{◌≡◌, ℕ, zero, suc, ◌/◌, ◌%◌, false, eqb, List, [], ◌∷◌, get_or, refl, arith}
use Rattle.std.specs.Int.{w32, to_be_bytes}
use Rattle.std.proofs.lemmas.Bool.{or_from, or_parts}
use Rattle.hex.specs.Hex.{IsBytes, decode_sized, encode_with, lower_digits}
use Rattle.hex.proofs.HexLemmas.{decode_sized-encode_lower}
use Rattle.std.specs.Prelude.{Ok}
use Rattle.journal_entry.specs.Texts.{address_text}
use Rattle.journal_entry.specs.Reading.{has_space}

plain_at : (table : List ℕ) (i : ℕ) → has_space table ≡ false → eqb (get_or table i 0) 32 ≡ false
plain_at [] i none = refl
plain_at (c ∷ table) zero none = (or_parts (eqb c 32) (has_space table) none).0
plain_at (c ∷ table) (suc i) none = plain_at table i (or_parts (eqb c 32) (has_space table) none).1

plain : (table bytes : List ℕ) → has_space table ≡ false → has_space (encode_with table bytes) ≡ false
unfolding encode_with
plain table [] none = refl
plain table (byte ∷ bytes) none =
    or_from _ _ (plain_at table (byte / 16) none) (or_from _ _ (plain_at table (byte % 16) none) (plain table bytes none))

pub no_space_in_address : (n : ℕ) → has_space (address_text n) ≡ false
no_space_in_address n = plain lower_digits (to_be_bytes w32 n) refl

bytes_of : (n : ℕ) → IsBytes (to_be_bytes w32 n)
bytes_of n zero = omega arith
bytes_of n (suc zero) = omega arith
bytes_of n (suc (suc zero)) = omega arith
bytes_of n (suc (suc (suc zero))) = omega arith
bytes_of n (suc (suc (suc (suc i)))) = omega arith

-- the digits decode to the bytes
pub decodes : (text : List ℕ) (n : ℕ) → text ≡ address_text n → decode_sized text 4 ≡ Ok (to_be_bytes w32 n)
decodes text n e = rw e (decode_sized-encode_lower (to_be_bytes w32 n) 4 refl (bytes_of n))
