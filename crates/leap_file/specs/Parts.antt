-- Scaffolding, which contracts use: how far a line has come, byte by byte. What lines say is defined in Lines.
use Rattle.std.specs.Prelude.{ℕ, ◌+◌, ◌*◌, ◌^◌, ◌&&◌, Bool, true, nat_lt, nat_le, List, if◌then◌else◌}
use Rattle.std.specs.Char.{is_ascii_digit, digit_value}
use Rattle.std.specs.List.{fold}
use Rattle.leap_file.specs.Lines.{is_blank, is_hash}
use Rattle.leap_file.specs.declared.part.LeapLine.{LeapLine}
use Rattle.leap_file.specs.declared.part.LeapLine.TheVariants.{Nothing, Numbers, Bad}
use Rattle.leap_file.specs.declared.part.Part.{Part}
use Rattle.leap_file.specs.declared.part.Part.TheVariants.{Start, Blank, Remark, Second, Gap, Dtai, After, Noted, Lost}
use Rattle.leap_file.specs.declared.row.Row.{Row}

abbrev pub starts : ℕ → Part
starts byte = if is_ascii_digit byte then Second 1 (digit_value byte) else if is_blank byte then Blank else if is_hash byte then Remark else Lost

abbrev pub after_second : ℕ → ℕ → ℕ → Part
after_second digits second byte = if is_ascii_digit byte
    then (if nat_lt digits 10 then Second (digits + 1) (second * 10 + digit_value byte) else Lost)
    else if is_blank byte then Gap second else Lost

abbrev pub after_gap : ℕ → ℕ → Part
after_gap second byte = if is_blank byte then Gap second else if is_ascii_digit byte then Dtai second 1 (digit_value byte) else Lost

abbrev pub after_dtai : ℕ → ℕ → ℕ → ℕ → Part
after_dtai second digits dtai byte = if is_ascii_digit byte
    then (if nat_lt digits 3 then Dtai second (digits + 1) (dtai * 10 + digit_value byte) else Lost)
    else if is_blank byte then After (record { second = second; dtai = dtai }) else Lost

abbrev pub after_row : Row → ℕ → Part
after_row row byte = if is_blank byte then After row else if is_hash byte then Noted row else Lost

abbrev pub next : Part → ℕ → Part
next Start byte = starts byte
next Blank byte = if is_blank byte then Blank else Lost
next Remark byte = Remark
next (Second digits second) byte = after_second digits second byte
next (Gap second) byte = after_gap second byte
next (Dtai second digits dtai) byte = after_dtai second digits dtai byte
next (After row) byte = after_row row byte
next (Noted row) byte = Noted row
next Lost byte = Lost

-- what a line says that ends in this part
abbrev pub ends : Part → LeapLine
ends Start = Nothing
ends Blank = Nothing
ends Remark = Nothing
ends (Second digits second) = Bad
ends (Gap second) = Bad
ends (Dtai second digits dtai) = Numbers (record { second = second; dtai = dtai })
ends (After row) = Numbers row
ends (Noted row) = Numbers row
ends Lost = Bad

-- how far a text has come
abbrev pub part_of : List ℕ → Part
part_of text = fold next Start text

-- the numbers fit their digits
abbrev pub is_small : Part → Bool
is_small Start = true
is_small Blank = true
is_small Remark = true
is_small (Second digits second) = nat_le digits 10 && nat_lt second (10 ^ digits)
is_small (Gap second) = true
is_small (Dtai second digits dtai) = nat_le digits 3 && nat_lt dtai (10 ^ digits)
is_small (After row) = true
is_small (Noted row) = true
is_small Lost = true
