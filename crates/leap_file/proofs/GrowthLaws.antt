-- The leap seconds of more bytes of a file begin with those of fewer, and its bad line stays: for whoever counts bytes as read that
-- stand after the bad line, or keeps a beginning of what is due.
use Rattle.std.proofs.Common.{◌≡◌, ℕ, true, false, Option, Some, None, List, [], ◌∷◌, ◌++◌, map, eqb, refl, sym, ap, ◌∙◌, inl, inr, append_assoc}
use Rattle.std.specs.List.{last_or}
use Rattle.std.proofs.lemmas.Bool.{cases_Bool, eqb-true}
use Rattle.std.proofs.lemmas.List.{append-nil, map-append}
use Rattle.tick_units.specs.Log.{lines_of}
use Rattle.leap_file.specs.declared.row.Row.{Row}
use Rattle.leap_file.specs.Lines.{line_says}
use Rattle.leap_file.specs.Rows.{bad_after, bad_row, leap_seconds, rows, rows_after}
use Rattle.leap_file.proofs.RowLaws.{goes_on}
use Rattle.leap_file.proofs.ReaderLaws.{says, seconds_of, says_more, says_end, says_whole, kept}

-- the bad line of a file stays whatever comes after it, and nothing more is due
pub record StaysBad (bytes more : List ℕ) (line : ℕ) : Type 0 where
  pub bad : bad_row false (bytes ++ more) ≡ Some line
  pub seconds : leap_seconds false (bytes ++ more) ≡ leap_seconds false bytes

pub stays_bad : (bytes more : List ℕ) (line : ℕ) → bad_row false bytes ≡ Some line → StaysBad bytes more line
stays_bad bytes [] line h = record { bad = ap (bad_row false) (append-nil bytes) ∙ h; seconds = ap (leap_seconds false) (append-nil bytes) }
stays_bad bytes (byte ∷ more) line h =
    let one = kept bytes byte line h in
    let rest = stays_bad (bytes ++ byte ∷ []) more line one.bad in
    let regroup : (bytes ++ byte ∷ []) ++ more ≡ bytes ++ byte ∷ more = append_assoc bytes (byte ∷ []) more in
    record { bad = ap (bad_row false) (sym regroup) ∙ rest.bad; seconds = ap (leap_seconds false) (sym regroup) ∙ rest.seconds ∙ one.seconds }

-- seconds of a longer list of rows
seconds_longer : (some more : List Row) → (rest : List ℕ) × (seconds_of (some ++ more) ≡ seconds_of some ++ rest)
seconds_longer [] more = (seconds_of more, refl)
seconds_longer (first ∷ some) more = (map (λ r. r.second) more, map-append (λ r. r.second) some more)

-- the leap seconds of more bytes begin with those of fewer
abbrev pub Grows : List ℕ → List ℕ → Type 0
Grows longer shorter = (rest : List ℕ) × (longer ≡ shorter ++ rest)

grows_end : (bytes : List ℕ) (bad : Option ℕ) → bad_row false bytes ≡ bad → Grows (leap_seconds false (bytes ++ 10 ∷ [])) (leap_seconds false bytes)
grows_end bytes (Some line) h = ([], (kept bytes 10 line h).seconds ∙ sym (append-nil (leap_seconds false bytes)))
grows_end bytes None h =
    let on = goes_on None 1 (says bytes) (line_says (lines_of bytes).unfinished) h in
    let longer = seconds_longer (rows false bytes) (rows_after (last_or None (rows false bytes)) (line_says (lines_of bytes).unfinished ∷ [])) in
    (longer.0, ap (λ l. seconds_of (rows_after None l)) (says_end bytes) ∙ ap seconds_of on.rows ∙ longer.1)

grows_one : (bytes : List ℕ) (byte : ℕ) → Grows (leap_seconds false (bytes ++ byte ∷ [])) (leap_seconds false bytes)
grows_one bytes byte = elim (cases_Bool (eqb byte 10)) [
  | inl feed ↦
      let end = grows_end bytes (bad_row false bytes) refl in
      (end.0, ap (λ (b : ℕ). leap_seconds false (bytes ++ b ∷ [])) (eqb-true byte 10 feed) ∙ end.1)
  | inr other ↦ ([], ap (λ l. seconds_of (rows_after None l)) (says_more bytes byte other) ∙ sym (append-nil (leap_seconds false bytes)))
]

pub grows : (bytes more : List ℕ) → Grows (leap_seconds false (bytes ++ more)) (leap_seconds false bytes)
grows bytes [] = ([], ap (leap_seconds false) (append-nil bytes) ∙ sym (append-nil (leap_seconds false bytes)))
grows bytes (byte ∷ more) =
    let one = grows_one bytes byte in
    let rest = grows (bytes ++ byte ∷ []) more in
    let regroup : (bytes ++ byte ∷ []) ++ more ≡ bytes ++ byte ∷ more = append_assoc bytes (byte ∷ []) more in
    (one.0 ++ rest.0, ap (leap_seconds false) (sym regroup) ∙ rest.1 ∙ ap (λ (l : List ℕ). l ++ rest.0) one.1 ∙ append_assoc (leap_seconds false bytes) one.0 rest.0)

-- at the end of the file it is as with a line feed more
pub whole_is : (bytes : List ℕ) → leap_seconds true bytes ≡ leap_seconds false (bytes ++ 10 ∷ [])
whole_is bytes = ap (λ l. seconds_of (rows_after None l)) (says_whole bytes)

pub bad_whole_is : (bytes : List ℕ) → bad_row true bytes ≡ bad_row false (bytes ++ 10 ∷ [])
bad_whole_is bytes = ap (bad_after None 1) (says_whole bytes)
