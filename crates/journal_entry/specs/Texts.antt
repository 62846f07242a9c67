-- The text of an entry: its fields, with one space between each two. The form is this project's own; numbers are written as
-- Rust's and C's decimal output writes them.
use Rattle.std.specs.Prelude.{◌≡◌, ℕ, List, [], ◌∷◌, ◌++◌, codes, decimal}
use Rattle.std.specs.Fmt.{signed_decimal}
use Rattle.std.specs.Int.{w32, w64, to_be_bytes}
use Rattle.std.specs.List.{flat_map}
use Rattle.hex.specs.Hex.{encode_lower}
use Rattle.tick_units.specs.declared.verdicts.Kind.{Kind}
use Rattle.tick_units.specs.declared.verdicts.Kind.TheVariants.{Verdict, Lone, Differs, Refused}
use Rattle.tick_units.specs.declared.sample.Sample.{Sample as TimeSample}
use Rattle.journal_entry.specs.Entries.{IsEntry}
use Rattle.journal_entry.specs.declared.entry.Entry.{Entry}
use Rattle.journal_entry.specs.declared.entry.What.{What}
use Rattle.journal_entry.specs.declared.entry.What.TheVariants.{Heard, Sample, Declined, Notice}

-- the four bytes of an IPv4 address, each in two hexadecimal digits
abbrev pub address_text : ℕ → List ℕ
address_text address = encode_lower (to_be_bytes w32 address)

-- the eight bytes of a stamp, in the same way
abbrev pub stamp_text : ℕ → List ℕ
stamp_text stamp = encode_lower (to_be_bytes w64 stamp)

-- the numbers of a sample
abbrev pub sample_fields : TimeSample → List (List ℕ)
sample_fields s =
    signed_decimal s.offset
    ∷ signed_decimal s.delay
    ∷ signed_decimal s.dispersion
    ∷ decimal s.stratum
    ∷ address_text s.address
    ∷ decimal s.root_delay.0
    ∷ decimal s.root_disp.0
    ∷ []

-- a word, and the numbers that go with it
abbrev pub kind_fields : Kind → List (List ℕ)
kind_fields (Verdict second leap_at) = codes "verdict" ∷ decimal second ∷ decimal leap_at ∷ []
kind_fields (Lone second) = codes "lone" ∷ decimal second ∷ []
kind_fields (Differs before now apart) = codes "differs" ∷ decimal before ∷ decimal now ∷ decimal apart ∷ []
kind_fields (Refused rule) = codes "refused" ∷ decimal rule ∷ []

abbrev pub what_fields : What → List (List ℕ)
what_fields (Heard kind) = kind_fields kind
what_fields (Sample s) = codes "sample" ∷ sample_fields s
what_fields (Declined code) = codes "declined" ∷ decimal code ∷ []
what_fields (Notice leap_at) = codes "notice" ∷ decimal leap_at ∷ []

-- fields, each after a space
abbrev pub spaced : List (List ℕ) → List ℕ
spaced fields = flat_map (λ field. 32 ∷ field) fields

-- its feed, its moment, and what was reported
abbrev pub text_of : Entry → List ℕ
text_of e = decimal e.feed ++ spaced (decimal e.at ∷ what_fields e.what)

-- a text is this entry's
pub record IsTextOf (text : List ℕ) (e : Entry) : Type 0 where
  pub entry : IsEntry e
  pub is : text ≡ text_of e
