-- The rows of a leap second file, the leap seconds that they name, and its first bad line. The form is that of
-- `leap-seconds.list` of IERS and NIST; which rows may stand in a file is this project's own.
use Rattle.std.specs.Prelude.{ℕ, ◌+◌, ◌==◌, ◌&&◌, Bool, true, nat_le, nat_lt, Option, None, Some, List, [], ◌∷◌, ◌++◌, map, drop, if◌then◌else◌}
use Rattle.civil_minute.specs.Months.{begins_month}
use Rattle.tick_units.specs.Log.{lines_of}
use Rattle.tick_units.specs.Years.{end_of_supported}
use Rattle.leap_file.specs.Lines.{line_says}
use Rattle.leap_file.specs.declared.part.LeapLine.{LeapLine}
use Rattle.leap_file.specs.declared.part.LeapLine.TheVariants.{Nothing, Numbers, Bad}
use Rattle.leap_file.specs.declared.row.Row.{Row}

-- its second lies in the supported years and begins a month of UTC, and its difference has one byte
abbrev pub is_valid : Row → Bool
is_valid row = nat_lt row.second end_of_supported && begins_month row.second && nat_le row.dtai 255

-- after the row before it, if there is one: its second is later, and its difference is one more
abbrev pub follows : Option Row → Row → Bool
follows None row = true
follows (Some before) row = nat_lt before.second row.second && row.dtai == before.dtai + 1

abbrev pub may_stand : Option Row → Row → Bool
may_stand before row = is_valid row && follows before row

-- of what lines say, the rows before the first bad line; they follow the row before them
abbrev pub rows_after : Option Row → List LeapLine → List Row
rows_after before [] = []
rows_after before (Nothing ∷ more) = rows_after before more
rows_after before (Bad ∷ more) = []
rows_after before (Numbers row ∷ more) = if may_stand before row then row ∷ rows_after (Some row) more else []

-- the number of the first bad line, where the first line has this number. A line is bad by itself, or as a row that may not stand
-- there.
abbrev pub bad_after : Option Row → ℕ → List LeapLine → Option ℕ
bad_after before number [] = None
bad_after before number (Nothing ∷ more) = bad_after before (number + 1) more
bad_after before number (Bad ∷ more) = Some number
bad_after before number (Numbers row ∷ more) = if may_stand before row then bad_after (Some row) (number + 1) more else Some number

-- the lines of a file of which these bytes were read: those that line feeds end. A last one without a line feed counts only where
-- the end of the file was read.
abbrev pub lines_read : (whole : Bool) → List ℕ → List (List ℕ)
lines_read whole bytes = if whole then (lines_of bytes).complete ++ (lines_of bytes).unfinished ∷ [] else (lines_of bytes).complete

abbrev pub rows : Bool → List ℕ → List Row
rows whole bytes = rows_after None (map line_says (lines_read whole bytes))

-- the number, from 1, of the first bad line
abbrev pub bad_row : Bool → List ℕ → Option ℕ
bad_row whole bytes = bad_after None 1 (map line_says (lines_read whole bytes))

-- the seconds at which leap seconds end: those of the rows except the first
abbrev pub leap_seconds : Bool → List ℕ → List ℕ
leap_seconds whole bytes = map (λ row. row.second) (drop 1 (rows whole bytes))
