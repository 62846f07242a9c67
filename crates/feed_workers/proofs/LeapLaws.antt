-- The bytes of a leap second file, one by one and piece by piece.
use Rattle.std.proofs.Common.{◌≡◌, ℕ, suc, ◌+◌, ◌^◌, ◌<◌, ◌≤◌, Option, None, Some, Result, Ok, Err, Bool, true, false, inl, inr, List, [], ◌∷◌, ◌++◌, length, take, drop, refl, ap, sym, ◌∙◌, subst, append_assoc, arith, eqb}
use Rattle.std.specs.Prelude.{option_map, if◌then◌else◌}
use Rattle.std.specs.Option.{option_to_list}
use Rattle.std.proofs.Math.Seq.{take-suc}
use Rattle.std.specs.Prelude.{slice_index_or}
use Rattle.std.proofs.lemmas.Bool.{cases_Bool, eqb-true}
use Rattle.std.proofs.lemmas.List.{append-nil, length-append, map-append, take-append-drop}
use Rattle.atomic_table.specs.Seated.{TableId}
use Rattle.outside_traits.specs.States.{SourceState}
use Rattle.file_reader.specs.Ends.{EndsReading}
use Rattle.file_reader.specs.declared.reader.FileEnd.TheVariants as file
use Rattle.journal_entry.specs.declared.entry.Entry.{Entry}
use Rattle.leap_file.proofs.GrowthLaws.{stays_bad}
use Rattle.leap_file.proofs.ReaderLaws.{says, says_end, says_more, says_whole}
use Rattle.leap_file.specs.Lines.{line_says}
use Rattle.leap_file.specs.Reading.{Finishes, HasRead, Takes, counted}
use Rattle.tick_units.specs.Log.{lines_of}
use Rattle.leap_file.specs.Rows.{bad_after, bad_row, leap_seconds, may_stand}
use Rattle.leap_file.specs.declared.part.LeapLine.{LeapLine}
use Rattle.leap_file.specs.declared.part.LeapLine.TheVariants.{Nothing, Numbers, Bad}
use Rattle.leap_file.specs.declared.reader.BadLeap.{BadLeap}
use Rattle.leap_file.specs.declared.reader.LeapReader.{LeapReader}
use Rattle.leap_file.specs.declared.row.Row.{Row}
use Rattle.page_cell.specs.Passes.{Known, claim_of}
use Rattle.page_cell.specs.declared.view.Claim.{Claim}
use Rattle.feed_workers.specs.Keeping.{IsOfFeed, Keeps, Share}
use Rattle.feed_workers.specs.Leaps.{EndsLeap, due_leap, notices_of}
use Rattle.file_reader.specs.Ends.{EndsAt}
use Rattle.feed_workers.specs.Noticing.{EndsList, HasNoticed, HasPassed}
use Rattle.file_reader.specs.declared.log_end.LogEnd.{LogEnd}
use Rattle.file_reader.specs.declared.log_end.LogEnd.TheVariants.{Whole, BadLine, Fault, Long}
use Rattle.feed_workers.proofs.KeepLaws.{keeps_none}

-- a pass is of its own feed, and stays of it
pub own_feed : (table : TableId) (sources feed : ℕ) (pass : Known) → IsOfFeed table sources feed pass → IsOfFeed table sources (claim_of pass.view).number pass
own_feed table sources feed pass h = record { table_is = h.table_is; feed_is = refl; source = subst (λ n. n < sources) (sym h.feed_is) h.source }

pub same_feed : (table : TableId) (sources feed : ℕ) (pass now : Known) → IsOfFeed table sources feed pass → IsOfFeed table sources (claim_of pass.view).number now → IsOfFeed table sources feed now
same_feed table sources feed pass now h k = record { table_is = k.table_is; feed_is = k.feed_is ∙ h.feed_is; source = h.source }

-- ---- one byte more

-- nothing is read yet
pub noticed_none : (reader : LeapReader) (start : ℕ) (claim : Claim) (limit : ℕ) → HasRead reader [] → HasNoticed reader start (record { begun = claim; claim = claim; limit = limit; full = false }) []
noticed_none reader start claim limit h = record { read = h; kept = keeps_none claim limit; good = refl }

-- leap seconds more are notices more
due_more : (feed start : ℕ) (whole : Bool) (longer bytes seconds : List ℕ) → leap_seconds whole longer ≡ leap_seconds false bytes ++ seconds →
    due_leap feed start whole longer ≡ due_leap feed start false bytes ++ notices_of feed start seconds
due_more feed start whole longer bytes seconds is = ap (notices_of feed start) is ∙ map-append _ (leap_seconds false bytes) seconds

module _ (reader new : LeapReader) (start : ℕ) (share : Share) (bytes : List ℕ) (h : HasNoticed reader start share bytes) where
  -- what was due and these notices are kept
  kept_more : (whole : Bool) (longer : List ℕ) (found : Option ℕ) (now : Claim) (full_now : Bool) → leap_seconds whole longer ≡ leap_seconds false bytes ++ option_to_list found →
      ((due : List Entry) → Keeps share due → Keeps (record share { claim = now; full = full_now }) (due ++ notices_of share.claim.number start (option_to_list found))) →
      Keeps (record share { claim = now; full = full_now }) (due_leap share.begun.number start whole longer)
  kept_more whole longer found now full_now is keeps =
      subst (λ (due : List Entry). Keeps (record share { claim = now; full = full_now }) due) (sym (due_more share.begun.number start whole longer bytes (option_to_list found) is))
      (subst (λ n. Keeps (record share { claim = now; full = full_now }) (due_leap share.begun.number start false bytes ++ notices_of n start (option_to_list found))) h.kept.number (keeps (due_leap share.begun.number start false bytes) h.kept))

  -- nothing more was due
  kept_same : (whole : Bool) (longer : List ℕ) → leap_seconds whole longer ≡ leap_seconds false bytes → Keeps share (due_leap share.begun.number start whole longer)
  kept_same whole longer is = subst (λ seconds. Keeps share (notices_of share.begun.number start seconds)) (sym is) h.kept

  pub noticed_on : (byte : ℕ) (result : Result (Option ℕ) BadLeap) (found : Option ℕ) (now : Claim) (full_now : Bool) → Takes new bytes byte result → result ≡ Ok found →
      ((due : List Entry) → Keeps share due → Keeps (record share { claim = now; full = full_now }) (due ++ notices_of share.claim.number start (option_to_list found))) →
      HasNoticed new start (record share { claim = now; full = full_now }) (bytes ++ byte ∷ [])
  noticed_on byte result found now full_now any same keeps =
      let took = subst (λ r. Takes new bytes byte r) same any in
      record { read = took.read; kept = kept_more false (bytes ++ byte ∷ []) found now full_now took.found.1 keeps; good = took.found.0 }

  pub passed_on : (byte : ℕ) (result : Result (Option ℕ) BadLeap) (bad : BadLeap) → Takes new bytes byte result → result ≡ Err bad → HasPassed start share (bytes ++ byte ∷ []) bad.line
  passed_on byte result bad any same =
      let took = subst (λ r. Takes new bytes byte r) same any in
      record { kept = kept_same false (bytes ++ byte ∷ []) took.found.1; bad = took.found.0 }

  pub ends_well : (result : Result (Option ℕ) BadLeap) (found : Option ℕ) (now : Claim) (full_now : Bool) → Finishes new bytes result → result ≡ Ok found →
      ((due : List Entry) → Keeps share due → Keeps (record share { claim = now; full = full_now }) (due ++ notices_of share.claim.number start (option_to_list found))) →
      EndsList start (record share { claim = now; full = full_now }) bytes Whole
  ends_well result found now full_now any same keeps =
      let took = subst (λ r. Finishes new bytes r) same any in
      record { kept = kept_more true bytes found now full_now took.found.1 keeps; ends = ap (option_map counted) took.found.0 }

  pub ends_badly : (result : Result (Option ℕ) BadLeap) (bad : BadLeap) → Finishes new bytes result → result ≡ Err bad → EndsList start share bytes (BadLine bad.line)
  ends_badly result bad any same =
      let took = subst (λ r. Finishes new bytes r) same any in
      record { kept = kept_same true bytes took.found.1; ends = took.found.0 }

-- ---- a piece

-- bytes after a bad line change neither that line nor what is due
pub passed_stays : (start : ℕ) (share : Share) (prefix more : List ℕ) (line : ℕ) → HasPassed start share prefix line → HasPassed start share (prefix ++ more) line
passed_stays start share prefix more line h = by (bad_row false prefix) refl h.bad
  where
    by : (reported : Option ℕ) → bad_row false prefix ≡ reported → option_map counted reported ≡ Some line → HasPassed start share (prefix ++ more) line
    by None is counts = cc
    by (Some number) is counts =
        let stays = stays_bad prefix more number is in
        record {
          kept = subst (λ seconds. Keeps share (notices_of share.begun.number start seconds)) (sym stays.seconds) h.kept;
          bad = ap (option_map counted) stays.bad ∙ counts;
        }

-- ---- the number of a bad line is that of a line

bad_small : (before : Option Row) (number : ℕ) (lines : List LeapLine) (bad : ℕ) → bad_after before number lines ≡ Some bad → bad < number + length lines
bad_small before number [] bad is = cc
bad_small before number (Nothing ∷ more) bad is = let h = bad_small before (number + 1) more bad is in omega arith
bad_small before number (Bad ∷ more) bad is = let same : number ≡ bad = cc in omega arith
bad_small before number (Numbers row ∷ more) bad is = by (may_stand before row) is (λ h. bad_small (Some row) (number + 1) more bad h)
  where
    by : (stands : Bool) → (if stands then bad_after (Some row) (number + 1) more else Some number) ≡ Some bad → (bad_after (Some row) (number + 1) more ≡ Some bad → bad < number + 1 + length more) → bad < number + suc (length more)
    by true e rest = let h = rest e in omega arith
    by false e rest = let same : number ≡ bad = cc in omega arith

says_few : (bytes more : List ℕ) → length (says (bytes ++ more)) ≤ length (says bytes) + length more
says_few bytes [] = let same = ap (λ (b : List ℕ). length (says b)) (append-nil bytes) in omega arith
says_few bytes (byte ∷ more) =
    let rest = says_few (bytes ++ byte ∷ []) more in
    let regroup = ap (λ (b : List ℕ). length (says b)) (append_assoc bytes (byte ∷ []) more) in
    elim (cases_Bool (eqb byte 10)) [
      | inl feed ↦ (
          let one = ap length (ap (λ (b : ℕ). says (bytes ++ b ∷ [])) (eqb-true byte 10 feed) ∙ says_end bytes) in
          omega (arith, length-append (says bytes) (line_says (lines_of bytes).unfinished ∷ [])))
      | inr other ↦ (let one = ap length (says_more bytes byte other) in omega arith)
    ]

line_small : (whole : Bool) (bytes : List ℕ) (bad : ℕ) → bad_row whole bytes ≡ Some bad → bad ≤ length bytes + 1
line_small false bytes bad is =
    let few = says_few [] bytes in
    let small = bad_small None 1 (says bytes) bad is in
    omega arith
line_small true bytes bad is =
    let few = says_few [] (bytes ++ 10 ∷ []) in
    let small = bad_small None 1 (says (bytes ++ 10 ∷ [])) bad (sym (ap (bad_after None 1) (says_whole bytes)) ∙ is) in
    omega (arith, length-append bytes (10 ∷ []))

-- so it is reported as it is
pub exact : (whole : Bool) (bytes : List ℕ) (line : ℕ) → length bytes ≤ 2 ^ 16 → option_map counted (bad_row whole bytes) ≡ Some line → bad_row whole bytes ≡ Some line
exact whole bytes line most counts = by (bad_row whole bytes) refl counts
  where
    by : (reported : Option ℕ) → bad_row whole bytes ≡ reported → option_map counted reported ≡ Some line → bad_row whole bytes ≡ Some line
    by None is e = cc
    by (Some number) is e =
        let small = line_small whole bytes number is in
        let reported : counted number ≡ line = cc in
        let same : number ≡ line = omega (arith, reported) in
        is ∙ ap Some same

-- ---- the end of the file

uncounted : (reported : Option ℕ) → option_map counted reported ≡ None → reported ≡ None
uncounted None e = refl
uncounted (Some number) e = cc

pub list_ends : (log log_now : SourceState) (bytes : List ℕ) (end : LogEnd) → EndsAt end (option_map counted (bad_row true bytes)) → EndsReading file.Whole (2 ^ 16) log log_now bytes → bad_row false bytes ≡ None →
    EndsLeap (2 ^ 16) log log_now bytes true end
list_ends log log_now bytes Whole at read good = (refl, read, uncounted (bad_row true bytes) at)
list_ends log log_now bytes (BadLine line) at read good = inr (refl, read, good, exact true bytes line read.most at)
list_ends log log_now bytes Fault at read good = absurd at
list_ends log log_now bytes Long at read good = absurd at

-- ---- places of a piece

-- with the byte at a place the beginning up to it is one longer, and the rest stands after
pub up_to : (bytes piece : List ℕ) (place : ℕ) → place < length piece → (bytes ++ take place piece) ++ slice_index_or piece place 0 ∷ [] ≡ bytes ++ take (place + 1) piece
up_to bytes piece place within = append_assoc bytes (take place piece) (slice_index_or piece place 0 ∷ []) ∙ ap (λ (l : List ℕ). bytes ++ l) (sym (ap (λ n. take n piece) (one_on place) ∙ take-suc piece place 0 within))
  where
    one_on : (n : ℕ) → n + 1 ≡ suc n
    one_on n = omega arith

pub and_later : (bytes piece : List ℕ) (place : ℕ) → (bytes ++ take place piece) ++ drop place piece ≡ bytes ++ piece
and_later bytes piece place = append_assoc bytes (take place piece) (drop place piece) ∙ ap (λ (l : List ℕ). bytes ++ l) (take-append-drop place piece)
