-- The text of a page: its fields, separated by one space. The form is this project's own. Numbers are written as in the decimal
-- output of Rust and C, an identifier and a stamp by their bytes.
use Rattle.std.specs.Prelude.{ℕ, List, [], ◌∷◌, ◌++◌, codes, decimal}
use Rattle.std.specs.Fmt.{signed_decimal}
use Rattle.std.specs.Int.{from_bool}
use Rattle.clock_page.specs.Page.{PageFields}
use Rattle.journal_entry.specs.Texts.{address_text, spaced, stamp_text}

-- its fields in the order in which they stand in the page; the field for synchronised is 0 or 1
abbrev pub page_fields : PageFields → List (List ℕ)
page_fields p =
    decimal p.length
    ∷ decimal (from_bool p.sync)
    ∷ decimal p.stratum
    ∷ address_text p.refid
    ∷ signed_decimal p.offset
    ∷ decimal p.anchor
    ∷ decimal p.until
    ∷ decimal p.root_delay.0
    ∷ decimal p.root_disp.0
    ∷ stamp_text p.reftime.0
    ∷ decimal p.leap_at
    ∷ signed_decimal p.rate
    ∷ []

-- a keyword, and its fields
abbrev pub page_line : PageFields → List ℕ
page_line p = codes "page" ++ spaced (page_fields p)
