-- A line of the published list of leap seconds (`leap-seconds.list` of IERS and NIST): a second, TAI less UTC from then on, and a
-- remark. What counts as a row is this project's own reading of that form.
use Rattle.std.specs.Prelude.{◌≡◌, ℕ, ◌≤◌, ◌==◌, ◌&&◌, ◌||◌, ◌⊎◌, Bool, true, false, IsTrue, nat_le, List, [], ◌∷◌, ◌++◌, length, if◌then◌else◌}
use Rattle.std.specs.Char.{is_ascii_digit}
use Rattle.std.specs.List.{list_all}
use Rattle.std.specs.Str.Lines.{strip_carriage_return}
use Rattle.std.specs.Str.Parse.{digits_value}
use Rattle.leap_file.specs.declared.part.LeapLine.{LeapLine}
use Rattle.leap_file.specs.declared.part.LeapLine.TheVariants.{Nothing, Numbers, Bad}
use Rattle.leap_file.specs.declared.row.Row.{Row}

-- a space or a tab
abbrev pub is_blank : ℕ → Bool
is_blank byte = byte == 32 || byte == 9

abbrev pub is_hash : ℕ → Bool
is_hash byte = byte == 35

abbrev pub begins : (ℕ → Bool) → List ℕ → Bool
begins test [] = false
begins test (byte ∷ text) = test byte

-- a line that has only blanks, or nothing, or begins with `#`
abbrev pub says_nothing : List ℕ → Bool
says_nothing line = list_all is_blank line || begins is_hash line

-- a number in at most this many decimal digits
pub record IsNumber (longest : ℕ) (text : List ℕ) (number : ℕ) : Type 0 where
  pub digits : IsTrue (list_all is_ascii_digit text)
  pub least : 1 ≤ length text
  pub most : length text ≤ longest
  pub value : number ≡ digits_value 10 text

pub record IsBlanks (text : List ℕ) : Type 0 where
  pub blank : IsTrue (list_all is_blank text)
  pub least : 1 ≤ length text

-- blanks, at least one, and after them a remark
pub record IsRemark (text : List ℕ) : Type 0 where
  pub blanks : List ℕ
  pub remark : List ℕ
  pub parts : text ≡ blanks ++ 35 ∷ remark
  pub are_blanks : IsBlanks blanks

-- what may stand after the numbers of a row: blanks or nothing, or a remark
abbrev pub IsEnd : List ℕ → Type 0
IsEnd text = IsTrue (list_all is_blank text) ⊎ IsRemark text

-- a row: its two numbers, of at most 10 and 3 digits, blanks between them, and an end
pub record IsRow (line : List ℕ) (row : Row) : Type 0 where
  pub second : List ℕ
  pub gap : List ℕ
  pub dtai : List ℕ
  pub end : List ℕ
  pub parts : line ≡ second ++ (gap ++ (dtai ++ end))
  pub is_second : IsNumber 10 second row.second
  pub is_gap : IsBlanks gap
  pub is_dtai : IsNumber 3 dtai row.dtai
  pub is_end : IsEnd end

-- what a line says; a bad one is neither a line that says nothing nor a row
abbrev pub IsSaid : List ℕ → LeapLine → Type 0
IsSaid line Nothing = says_nothing line ≡ true
IsSaid line (Numbers row) = IsRow line row
IsSaid line Bad = (says_nothing line ≡ false) × ((row : Row) → IsRow line row → ⊥)

-- the longest prefix whose bytes pass, and the bytes after it
abbrev pub leading : (ℕ → Bool) → List ℕ → List ℕ
leading test [] = []
leading test (byte ∷ text) = if test byte then byte ∷ leading test text else []

abbrev pub past : (ℕ → Bool) → List ℕ → List ℕ
past test [] = []
past test (byte ∷ text) = if test byte then past test text else byte ∷ text

abbrev pub is_empty : List ℕ → Bool
is_empty [] = true
is_empty (byte ∷ text) = false

-- at least one byte, and at most this many
abbrev pub is_short : ℕ → List ℕ → Bool
is_short most text = nat_le 1 (length text) && nat_le (length text) most

abbrev pub is_end : List ℕ → Bool
is_end text = is_empty (past is_blank text) || (begins is_blank text && begins is_hash (past is_blank text))

-- a row from its second number on
abbrev pub row_from : ℕ → List ℕ → LeapLine
row_from second text = if is_short 3 (leading is_ascii_digit text) && is_end (past is_ascii_digit text)
    then Numbers (record { second = second; dtai = digits_value 10 (leading is_ascii_digit text) })
    else Bad

-- the one row that a line is, or Bad
abbrev pub row_of : List ℕ → LeapLine
row_of line = if is_short 10 (leading is_ascii_digit line) && begins is_blank (past is_ascii_digit line)
    then row_from (digits_value 10 (leading is_ascii_digit line)) (past is_blank (past is_ascii_digit line))
    else Bad

-- the one thing that a line says (`IsSaid`)
abbrev pub said : List ℕ → LeapLine
said line = if says_nothing line then Nothing else row_of line

-- a carriage return at the end of a line is not read
abbrev pub line_says : List ℕ → LeapLine
line_says line = said (strip_carriage_return line)
