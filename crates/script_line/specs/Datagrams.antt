-- The bytes of a datagram, and their text: two lowercase hexadecimal digits each, the high four bits first.
use Rattle.std.specs.Prelude.{◌≡◌, ℕ, ◌+◌, ◌-◌, ◌*◌, ◌≤◌, nat_le, Bool, ◌&&◌, ◌||◌, ◌==◌, ◌%◌, List, [], ◌∷◌, length, if◌then◌else◌}
use Rattle.std.specs.List.{list_all}
use Rattle.hex.specs.Hex.{IsBytes, encode_lower}

-- 1 to 1024 bytes
pub record IsDatagram (bytes : List ℕ) : Type 0 where
  pub least : 1 ≤ length bytes
  pub most : length bytes ≤ 1024
  pub each : IsBytes bytes

-- digits are this datagram's text
pub record IsTextOfDatagram (digits bytes : List ℕ) : Type 0 where
  pub datagram : IsDatagram bytes
  pub is : digits ≡ encode_lower bytes

-- `0` to `9` are 48 to 57, and `a` to `f` are 97 to 102
abbrev pub is_small_digit : ℕ → Bool
is_small_digit c = (nat_le 48 c && nat_le c 57) || (nat_le 97 c && nat_le c 102)

abbrev pub small_digit_value : ℕ → ℕ
small_digit_value c = if nat_le 97 c then c - 87 else c - 48

-- this many digits are two for each of 1 to 1024 bytes
abbrev pub are_pairs : ℕ → Bool
are_pairs count = nat_le 2 count && nat_le count 2048 && (count % 2 == 0)

abbrev pub are_digits : List ℕ → Bool
are_digits text = are_pairs (length text) && list_all is_small_digit text

-- the bytes that pairs of digits say
abbrev pub bytes_said : List ℕ → List ℕ
bytes_said [] = []
bytes_said (digit ∷ []) = []
bytes_said (high ∷ low ∷ more) = (small_digit_value high * 16 + small_digit_value low) ∷ bytes_said more
