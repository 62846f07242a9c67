-- The state of a reader of a leap second file, by the bytes that it has taken. The form is that of `leap-seconds.list` of IERS
-- and NIST.
use Rattle.std.specs.Prelude.{◌≡◌, ℕ, Bool, true, false, ◌-◌, ◌^◌, min, Option, None, Some, List, [], ◌∷◌, ◌++◌, length, Result, MatchResult, is_some, if◌then◌else◌}
use Rattle.std.specs.List.{last_or}
use Rattle.std.specs.Option.{option_map, option_to_list}
use Rattle.std.specs.Str.Lines.{strip_carriage_return}
use Rattle.tick_units.specs.Log.{lines_of}
use Rattle.leap_file.specs.Parts.{part_of}
use Rattle.leap_file.specs.Rows.{bad_row, leap_seconds, may_stand, rows}
use Rattle.leap_file.specs.declared.line.Line.{Line}
use Rattle.leap_file.specs.declared.part.Part.{Part}
use Rattle.leap_file.specs.declared.reader.BadLeap.{BadLeap}
use Rattle.leap_file.specs.declared.reader.LeapReader.{LeapReader}
use Rattle.leap_file.specs.declared.row.Row.{Row}

-- how far a text has come; where it ends with a carriage return, how far it had come before that
abbrev pub EndsIn : (returned : Bool) → Part → List ℕ → Type 0
EndsIn true part text = (leading : List ℕ) × (text ≡ leading ++ 13 ∷ []) × (part ≡ part_of leading)
EndsIn false part text = (strip_carriage_return text ≡ text) × (part ≡ part_of text)

-- the parser's state within an unfinished line
abbrev pub IsLine : Line → List ℕ → Type 0
IsLine line text = EndsIn line.returned line.part text

-- a number of lines as it is counted; the greatest number of 64 bits stands for itself and all above it
abbrev pub counted : ℕ → ℕ
counted number = min number (2 ^ 64 - 1)

-- the reader has taken these bytes: it keeps their bad line, and what it needs of them while they have none
pub record HasRead (reader : LeapReader) (bytes : List ℕ) : Type 0 where
  pub bad : option_map (λ bad. bad.line) reader.bad ≡ option_map counted (bad_row false bytes)
  pub line : reader.bad ≡ None → IsLine reader.line (lines_of bytes).unfinished
  pub lines : reader.bad ≡ None → reader.lines ≡ counted (length (lines_of bytes).complete)
  pub before : reader.bad ≡ None → reader.before ≡ last_or None (rows false bytes)

-- one byte more is taken. The result says what it adds: a leap second, or the bad line that the file has from then on.
pub record Takes (new : LeapReader) (bytes : List ℕ) (byte : ℕ) (result : Result (Option ℕ) BadLeap) : Type 0 where
  pub read : HasRead new (bytes ++ byte ∷ [])
  pub found : MatchResult result
      (λ found. (bad_row false (bytes ++ byte ∷ []) ≡ None) × (leap_seconds false (bytes ++ byte ∷ []) ≡ leap_seconds false bytes ++ option_to_list found))
      (λ bad. (option_map counted (bad_row false (bytes ++ byte ∷ [])) ≡ Some bad.line) × (leap_seconds false (bytes ++ byte ∷ []) ≡ leap_seconds false bytes))

-- the same at the end of the file, where a last line without a line feed counts
pub record Finishes (new : LeapReader) (bytes : List ℕ) (result : Result (Option ℕ) BadLeap) : Type 0 where
  pub read : HasRead new (bytes ++ 10 ∷ [])
  pub found : MatchResult result
      (λ found. (bad_row true bytes ≡ None) × (leap_seconds true bytes ≡ leap_seconds false bytes ++ option_to_list found))
      (λ bad. (option_map counted (bad_row true bytes) ≡ Some bad.line) × (leap_seconds true bytes ≡ leap_seconds false bytes))

-- the reader with a bad line
abbrev pub stopped : LeapReader → BadLeap → LeapReader
stopped reader bad = record reader { bad = Some bad }

-- what a row does to a reader that has counted its line
abbrev pub AddsRow : LeapReader → LeapReader → Row → Result (Option ℕ) BadLeap → Type 0
AddsRow old new row result = MatchResult result
    (λ found. (may_stand old.before row ≡ true)
    × (found ≡ (if is_some old.before then Some row.second else None))
    × (new ≡ record old { before = Some row }))
    (λ bad. (may_stand old.before row ≡ false) × (bad.line ≡ old.lines) × (new ≡ stopped old bad))
