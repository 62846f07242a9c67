-- A pulse log: the lines of its bytes, and the reductions of the carrier that they spell. The format is this project's
-- own; the text of a number is that of Rust's and C's decimal output.
use Rattle.std.specs.Prelude.{◌≡◌, ℕ, ◌+◌, ◌^◌, ◌<◌, ◌≤◌, ◌&&◌, ◌||◌, ◌==◌, nat_lt, nat_le, Bool, not, Option, None, Some, List, [], ◌∷◌, ◌++◌, length, map, decimal, slice_index, if◌then◌else◌}
use Rattle.std.specs.List.{before_first, after_first}
use Rattle.std.specs.Str.{all_ascii_digits}
use Rattle.std.specs.Str.Parse.{digits_value}
use Rattle.tick_units.specs.declared.marks.Reduction.{Reduction}

-- the lines of a text that a line feed ends, each without it, and the bytes after the last line feed
pub record Lines : Type 0 where
  pub complete : List (List ℕ)
  pub unfinished : List ℕ

-- the lines with a byte put before the first of them
abbrev pub put_before : ℕ → List (List ℕ) → List ℕ → Lines
put_before byte [] unfinished = record { complete = []; unfinished = byte ∷ unfinished }
put_before byte (line ∷ more) unfinished = record { complete = (byte ∷ line) ∷ more; unfinished = unfinished }

abbrev pub with_byte : ℕ → Lines → Lines
with_byte byte lines = put_before byte lines.complete lines.unfinished

abbrev pub lines_of : List ℕ → Lines
lines_of [] = record { complete = []; unfinished = [] }
lines_of (byte ∷ bytes) = if byte == 10
    then record { complete = [] ∷ (lines_of bytes).complete; unfinished = (lines_of bytes).unfinished }
    else with_byte byte (lines_of bytes)

-- decimal digits with no leading zero
abbrev pub is_number : List ℕ → Bool
is_number text = all_ascii_digits text && nat_lt 0 (length text) && (not (slice_index text 0 == 48) || length text == 1)

abbrev pub number_of : List ℕ → Option ℕ
number_of text = if is_number text then Some (digits_value 10 text) else None

-- the reduction of these two numbers, where they are in range
abbrev pub reduction_from : Option ℕ → Option ℕ → Option Reduction
reduction_from None width = None
reduction_from (Some at) None = None
reduction_from (Some at) (Some width) = if nat_lt at (2 ^ 50) && nat_le 1 width && nat_le width 2000000
    then Some (record { at = at; width = width })
    else None

-- what a line says: its start, one space, and its width
abbrev pub reduction_of : List ℕ → Option Reduction
reduction_of line = reduction_from (number_of (before_first (λ byte. byte == 32) line)) (number_of (after_first (λ byte. byte == 32) line))

-- a line as a sentence: its two numbers in decimal, and one space between them
pub record Spells (line : List ℕ) (r : Reduction) : Type 0 where
  pub text : line ≡ decimal r.at ++ 32 ∷ decimal r.width
  pub at : r.at < 2 ^ 50
  pub least : 1 ≤ r.width
  pub most : r.width ≤ 2000000

-- of what lines say, the reductions before the first bad line. A bad line says none, or one that does not start after that of the
-- line before it.
abbrev pub valid : List (Option Reduction) → List Reduction
valid [] = []
valid (None ∷ more) = []
valid (Some r ∷ []) = r ∷ []
valid (Some r ∷ None ∷ more) = r ∷ []
valid (Some r ∷ Some next ∷ more) = if nat_lt r.at next.at then r ∷ valid (Some next ∷ more) else r ∷ []

-- the reductions of the complete lines before the first bad line
abbrev pub pulses : List ℕ → List Reduction
pulses bytes = valid (map reduction_of (lines_of bytes).complete)

-- the number, from 1, of the first bad line; an unfinished one counts only where it has 32 bytes or more
abbrev pub bad_line : List ℕ → Option ℕ
bad_line bytes = if nat_lt (length (pulses bytes)) (length (lines_of bytes).complete)
    then Some (length (pulses bytes) + 1)
    else if nat_le 32 (length (lines_of bytes).unfinished)
    then Some (length (lines_of bytes).complete + 1)
    else None

-- bytes stand after the last line feed
abbrev pub has_tail : List ℕ → Bool
has_tail bytes = nat_lt 0 (length (lines_of bytes).unfinished)

abbrev pub or_unfinished : Option ℕ → Lines → Option ℕ
or_unfinished (Some line) lines = Some line
or_unfinished None lines = if nat_lt 0 (length lines.unfinished) then Some (length lines.complete + 1) else None

-- the same of a log that has ended, where an unfinished line is a bad one
abbrev pub bad_at_end : List ℕ → Option ℕ
bad_at_end bytes = or_unfinished (bad_line bytes) (lines_of bytes)
