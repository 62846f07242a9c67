-- What a reader makes of one byte more.
use Rattle.std.proofs.Common.{◌≡◌, ℕ, ◌+◌, true, false, eqb, Option, Some, None, Result, Ok, Err, List, [], ◌∷◌, ◌++◌, length, map, drop, is_some, if◌then◌else◌, refl, sym, ap, subst, ◌∙◌, inl, inr, arith}
use Rattle.std.specs.List.{last_or}
use Rattle.std.specs.Option.{option_map, option_to_list}
use Rattle.std.proofs.lemmas.Bool.{cases_Bool, eqb-true}
use Rattle.std.proofs.lemmas.List.{append-nil, length_push, length-map, map_push}
use Rattle.tick_units.specs.Log.{Lines, lines_of}
use Rattle.pulse_log.proofs.LogLaws.{lines_more, lines_end}
use Rattle.leap_file.specs.declared.part.LeapLine.{LeapLine}
use Rattle.leap_file.specs.declared.part.LeapLine.TheVariants.{Nothing, Numbers}
use Rattle.leap_file.specs.declared.reader.BadLeap.{BadLeap}
use Rattle.leap_file.specs.declared.reader.LeapReader.{LeapReader}
use Rattle.leap_file.specs.declared.row.Row.{Row}
use Rattle.leap_file.specs.Lines.{line_says}
use Rattle.leap_file.specs.Rows.{bad_after, bad_row, leap_seconds, lines_read, may_stand, rows, rows_after}
use Rattle.leap_file.specs.Reading.{IsLine, HasRead, Takes, Finishes, AddsRow, counted}
use Rattle.leap_file.proofs.RowLaws.{bad_stays, goes_on, last_push, second_push}

-- what the lines say of which bytes were read
abbrev pub says : List ℕ → List LeapLine
says bytes = map line_says (lines_of bytes).complete

abbrev pub seconds_of : List Row → List ℕ
seconds_of some = map (λ r. r.second) (drop 1 some)

-- a line that goes on says nothing yet, and one that ends is said after the others; so it is at the end of the file
pub says_more : (bytes : List ℕ) (byte : ℕ) → eqb byte 10 ≡ false → says (bytes ++ byte ∷ []) ≡ says bytes
says_more bytes byte other = ap (λ (l : Lines). map line_says l.complete) (lines_more bytes byte other)

pub says_end : (bytes : List ℕ) → says (bytes ++ 10 ∷ []) ≡ says bytes ++ line_says (lines_of bytes).unfinished ∷ []
says_end bytes = ap (λ (l : Lines). map line_says l.complete) (lines_end bytes 10 refl) ∙ map_push line_says (lines_of bytes).complete (lines_of bytes).unfinished

pub says_whole : (bytes : List ℕ) → map line_says (lines_read true bytes) ≡ says (bytes ++ 10 ∷ [])
says_whole bytes = sym (ap (λ (l : Lines). map line_says l.complete) (lines_end bytes 10 refl))

none_from : (o : Option ℕ) → None ≡ option_map counted o → o ≡ None
none_from None h = refl
none_from (Some n) h = cc

record IsCounted (o : Option ℕ) (line : ℕ) : Type 0 where
  number : ℕ
  is : o ≡ Some number
  counts : counted number ≡ line

some_from : (o : Option ℕ) (line : ℕ) → Some line ≡ option_map counted o → IsCounted o line
some_from None line h = cc
some_from (Some n) line h = record { number = n; is = refl; counts = cc }

fine : (reader : LeapReader) (bytes : List ℕ) → HasRead reader bytes → reader.bad ≡ None → bad_row false bytes ≡ None
fine reader bytes h none = none_from (bad_row false bytes) (rw none at h.bad)

-- a bad line stays, with any byte more
pub record Kept (bytes : List ℕ) (byte number : ℕ) : Type 0 where
  pub bad : bad_row false (bytes ++ byte ∷ []) ≡ Some number
  pub seconds : leap_seconds false (bytes ++ byte ∷ []) ≡ leap_seconds false bytes

pub kept : (bytes : List ℕ) (byte number : ℕ) → bad_row false bytes ≡ Some number → Kept bytes byte number
kept bytes byte number h = elim (cases_Bool (eqb byte 10)) [
  | inl feed ↦
      let stays = bad_stays None 1 (says bytes) (line_says (lines_of bytes).unfinished) number h in
      subst (λ b. Kept bytes b number) (sym (eqb-true byte 10 feed))
      (record { bad = ap (bad_after None 1) (says_end bytes) ∙ stays.stays; seconds = ap (λ l. seconds_of (rows_after None l)) (says_end bytes) ∙ ap seconds_of stays.rows })
  | inr other ↦ record { bad = ap (bad_after None 1) (says_more bytes byte other) ∙ h; seconds = ap (λ l. seconds_of (rows_after None l)) (says_more bytes byte other) }
]

-- a reader of a file with a bad line
stopped_reader : (reader : LeapReader) (bytes : List ℕ) (bad : BadLeap) → reader.bad ≡ Some bad → option_map counted (bad_row false bytes) ≡ Some bad.line → HasRead reader bytes
stopped_reader reader bytes bad is number = record {
  bad = ap (option_map (λ b. b.line)) is ∙ sym number;
  line = λ none. absurd (let never : Some bad ≡ None = sym is ∙ none in cc);
  lines = λ none. absurd (let never : Some bad ≡ None = sym is ∙ none in cc);
  before = λ none. absurd (let never : Some bad ≡ None = sym is ∙ none in cc);
}

pub stays_bad : (reader : LeapReader) (bytes : List ℕ) (byte : ℕ) (bad : BadLeap) → HasRead reader bytes → reader.bad ≡ Some bad → Takes reader bytes byte (Err bad)
stays_bad reader bytes byte bad h is =
    let was = some_from (bad_row false bytes) bad.line (rw is at h.bad) in
    let on = kept bytes byte was.number was.is in
    let now : option_map counted (bad_row false (bytes ++ byte ∷ [])) ≡ Some bad.line = ap (option_map counted) on.bad ∙ ap (λ (n : ℕ). Some n) was.counts in
    record { read = stopped_reader reader (bytes ++ byte ∷ []) bad is now; found = (now, on.seconds) }

-- a line that goes on
pub line_on : (old new : LeapReader) (bytes : List ℕ) (byte : ℕ) → HasRead old bytes → old.bad ≡ None → eqb byte 10 ≡ false →
    ((text : List ℕ) → IsLine old.line text → IsLine new.line (text ++ byte ∷ [])) → new.lines ≡ old.lines → new.before ≡ old.before → new.bad ≡ None → Takes new bytes byte (Ok None)
line_on old new bytes byte h none other line lines before still =
    let same = says_more bytes byte other in
    let longer = lines_more bytes byte other in
    let next : bad_row false (bytes ++ byte ∷ []) ≡ None = ap (bad_after None 1) same ∙ fine old bytes h none in
    record {
      read = record {
        bad = ap (option_map (λ b. b.line)) still ∙ sym (ap (option_map counted) next);
        line = λ _. subst (IsLine new.line) (sym (ap (λ (l : Lines). l.unfinished) longer)) (line (lines_of bytes).unfinished (h.line none));
        lines = λ _. lines ∙ h.lines none ∙ sym (ap (λ (l : Lines). counted (length l.complete)) longer);
        before = λ _. before ∙ h.before none ∙ sym (ap (λ l. last_or None (rows_after None l)) same);
      };
      found = (next, ap (λ l. seconds_of (rows_after None l)) same ∙ sym (append-nil (leap_seconds false bytes)));
    }

-- what the end of a line adds
abbrev last_row : List ℕ → Option Row
last_row bytes = last_or None (rows false bytes)

record Ended (bytes : List ℕ) (line : LeapLine) : Type 0 where
  bad : bad_row false (bytes ++ 10 ∷ []) ≡ bad_after (last_row bytes) (1 + length (lines_of bytes).complete) (line ∷ [])
  rows_now : rows false (bytes ++ 10 ∷ []) ≡ rows false bytes ++ rows_after (last_row bytes) (line ∷ [])

ended : (bytes : List ℕ) (line : LeapLine) → bad_row false bytes ≡ None → line ≡ line_says (lines_of bytes).unfinished → Ended bytes line
ended bytes line good is =
    let on = goes_on None 1 (says bytes) (line_says (lines_of bytes).unfinished) good in
    let count : length (says bytes) ≡ length (lines_of bytes).complete = length-map (lines_of bytes).complete line_says in
    record {
      bad = subst (λ l. bad_row false (bytes ++ 10 ∷ []) ≡ bad_after (last_row bytes) (1 + length (lines_of bytes).complete) (l ∷ [])) (sym is) (ap (bad_after None 1) (says_end bytes) ∙ on.bad ∙ ap (λ (n : ℕ). bad_after (last_row bytes) (1 + n) (line_says (lines_of bytes).unfinished ∷ [])) count);
      rows_now = subst (λ l. rows false (bytes ++ 10 ∷ []) ≡ rows false bytes ++ rows_after (last_row bytes) (l ∷ [])) (sym is) (ap (rows_after None) (says_end bytes) ∙ on.rows);
    }

counted_more : (n m : ℕ) → n ≡ counted m → counted (n + 1) ≡ counted (m + 1)
counted_more n m h = omega arith

complete_more : (bytes : List ℕ) → length (lines_of (bytes ++ 10 ∷ [])).complete ≡ length (lines_of bytes).complete + 1
complete_more bytes = ap (λ (l : Lines). length l.complete) (lines_end bytes 10 refl) ∙ length_push (lines_of bytes).complete (lines_of bytes).unfinished

lines_counted : (old new : LeapReader) (bytes : List ℕ) → HasRead old bytes → old.bad ≡ None → new.lines ≡ counted (old.lines + 1) → new.lines ≡ counted (length (lines_of (bytes ++ 10 ∷ [])).complete)
lines_counted old new bytes h none lines = lines ∙ counted_more old.lines (length (lines_of bytes).complete) (h.lines none) ∙ sym (ap counted (complete_more bytes))

-- a line that ends and is no row
pub ends_nothing : (old new : LeapReader) (bytes : List ℕ) → HasRead old bytes → old.bad ≡ None → Nothing ≡ line_says (lines_of bytes).unfinished →
    IsLine new.line [] → new.lines ≡ counted (old.lines + 1) → new.before ≡ old.before → new.bad ≡ None → Takes new bytes 10 (Ok None)
ends_nothing old new bytes h none is line lines before still =
    let e = ended bytes Nothing (fine old bytes h none) is in
    let same : rows false (bytes ++ 10 ∷ []) ≡ rows false bytes = e.rows_now ∙ append-nil _ in
    record {
      read = record {
        bad = ap (option_map (λ b. b.line)) still ∙ sym (ap (option_map counted) e.bad);
        line = λ _. subst (IsLine new.line) (sym (ap (λ (l : Lines). l.unfinished) (lines_end bytes 10 refl))) line;
        lines = λ _. lines_counted old new bytes h none lines;
        before = λ _. before ∙ h.before none ∙ sym (ap (last_or None) same);
      };
      found = (e.bad, ap seconds_of same ∙ sym (append-nil (leap_seconds false bytes)));
    }

-- a line that ends and is bad
pub ends_badly : (old new : LeapReader) (bytes : List ℕ) (line : LeapLine) (bad : BadLeap) → HasRead old bytes → old.bad ≡ None → line ≡ line_says (lines_of bytes).unfinished →
    bad_after (last_row bytes) (1 + length (lines_of bytes).complete) (line ∷ []) ≡ Some (1 + length (lines_of bytes).complete) → rows_after (last_row bytes) (line ∷ []) ≡ [] →
    new.bad ≡ Some bad → bad.line ≡ counted (old.lines + 1) → Takes new bytes 10 (Err bad)
ends_badly old new bytes line bad h none is is_bad no_row was number =
    let e = ended bytes line (fine old bytes h none) is in
    let sum : 1 + length (lines_of bytes).complete ≡ length (lines_of bytes).complete + 1 = omega arith in
    let line_number : counted (1 + length (lines_of bytes).complete) ≡ bad.line = ap counted sum ∙ sym (number ∙ counted_more old.lines (length (lines_of bytes).complete) (h.lines none)) in
    let now : option_map counted (bad_row false (bytes ++ 10 ∷ [])) ≡ Some bad.line = ap (option_map counted) (e.bad ∙ is_bad) ∙ ap (λ (n : ℕ). Some n) line_number in
    let same : rows false (bytes ++ 10 ∷ []) ≡ rows false bytes = e.rows_now ∙ ap (λ l. rows false bytes ++ l) no_row ∙ append-nil _ in
    record { read = stopped_reader new (bytes ++ 10 ∷ []) bad was now; found = (now, ap seconds_of same) }

-- a line that ends and is a row that may stand there
ends_row : (old new : LeapReader) (bytes : List ℕ) (row : Row) (found : Option ℕ) → HasRead old bytes → old.bad ≡ None → Numbers row ≡ line_says (lines_of bytes).unfinished →
    may_stand old.before row ≡ true → found ≡ (if is_some old.before then Some row.second else None) →
    IsLine new.line [] → new.lines ≡ counted (old.lines + 1) → new.before ≡ Some row → new.bad ≡ None → Takes new bytes 10 (Ok found)
ends_row old new bytes row found h none is valid reported line lines before still =
    let e = ended bytes (Numbers row) (fine old bytes h none) is in
    let last = h.before none in
    let may : may_stand (last_row bytes) row ≡ true = subst (λ o. may_stand o row ≡ true) last valid in
    let more : rows false (bytes ++ 10 ∷ []) ≡ rows false bytes ++ row ∷ [] = e.rows_now ∙ rw may refl in
    let next : bad_row false (bytes ++ 10 ∷ []) ≡ None = e.bad ∙ rw may refl in
    record {
      read = record {
        bad = ap (option_map (λ b. b.line)) still ∙ sym (ap (option_map counted) next);
        line = λ _. subst (IsLine new.line) (sym (ap (λ (l : Lines). l.unfinished) (lines_end bytes 10 refl))) line;
        lines = λ _. lines_counted old new bytes h none lines;
        before = λ _. before ∙ sym (ap (last_or None) more ∙ last_push None (rows false bytes) row);
      };
      found = (next, ap seconds_of more ∙ second_push (rows false bytes) row ∙ ap (λ o. leap_seconds false bytes ++ option_to_list o) (sym (reported ∙ ap (λ (o : Option Row). if is_some o then Some row.second else None) last)));
    }

-- a line that ends and is a row
pub ends_numbers : (old counts new : LeapReader) (bytes : List ℕ) (row : Row) (result : Result (Option ℕ) BadLeap) → HasRead old bytes → old.bad ≡ None → Numbers row ≡ line_says (lines_of bytes).unfinished →
    IsLine counts.line [] → counts.lines ≡ counted (old.lines + 1) → counts.before ≡ old.before → counts.bad ≡ None → AddsRow counts new row result → Takes new bytes 10 result
ends_numbers old counts new bytes row (Ok found) h none is line lines before still a =
    let now = a.2 in
    ends_row old new bytes row found h none is (subst (λ o. may_stand o row ≡ true) before a.0) (a.1 ∙ ap (λ (o : Option Row). if is_some o then Some row.second else None) before)
    (subst (λ (r : LeapReader). IsLine r.line []) (sym now) line) (ap (λ (r : LeapReader). r.lines) now ∙ lines) (ap (λ (r : LeapReader). r.before) now) (ap (λ (r : LeapReader). r.bad) now ∙ still)
ends_numbers old counts new bytes row (Err bad) h none is line lines before still a =
    let not_so : may_stand (last_row bytes) row ≡ false = subst (λ o. may_stand o row ≡ false) (before ∙ h.before none) a.0 in
    ends_badly old new bytes (Numbers row) bad h none is (rw not_so refl) (rw not_so refl) (ap (λ (r : LeapReader). r.bad) a.2) (a.1 ∙ lines)

-- the end of the file
pub finishes : (new : LeapReader) (bytes : List ℕ) (result : Result (Option ℕ) BadLeap) → Takes new bytes 10 result → Finishes new bytes result
finishes new bytes (Ok found) t = record {
  read = t.read;
  found = (ap (bad_after None 1) (says_whole bytes) ∙ t.found.0, ap (λ l. seconds_of (rows_after None l)) (says_whole bytes) ∙ t.found.1);
}
finishes new bytes (Err bad) t = record {
  read = t.read;
  found = (ap (λ l. option_map counted (bad_after None 1 l)) (says_whole bytes) ∙ t.found.0, ap (λ l. seconds_of (rows_after None l)) (says_whole bytes) ∙ t.found.1);
}
