-- The digits of a moment and of a span, and how long a line of a journal is at most.
use Rattle.std.proofs.Common.{◌≡◌, ℕ, suc, ◌+◌, ◌^◌, ◌<◌, ◌≤◌, List, [], ◌∷◌, length, codes, decimal, ℤ, pos, negsuc, unsigned_abs, ap, ◌∙◌, arith}
use Rattle.std.specs.Fmt.{signed_decimal}
use Rattle.std.proofs.lemmas.Fmt.{length-decimal-le, length-decimal-le_wide}
use Rattle.std.proofs.lemmas.List.{length-append}
use Rattle.hex.specs.Hex.{lower_digits}
use Rattle.hex.proofs.HexLemmas.{length-encode_with}
use Rattle.std.specs.Int.{w32, to_be_bytes}
use Rattle.tick_units.specs.declared.verdicts.Kind.TheVariants.{Verdict, Lone, Differs, Refused}
use Rattle.tick_units.specs.declared.sample.Sample.{Sample as TimeSample}
use Rattle.journal_entry.specs.Entries.{IsEntry, IsSample, IsWhat}
use Rattle.journal_entry.specs.Lines.{IsLineText}
use Rattle.journal_entry.specs.Reading.{entry_fields}
use Rattle.journal_entry.specs.Texts.{address_text, sample_fields, spaced, what_fields}
use Rattle.journal_entry.specs.declared.entry.Entry.{Entry}
use Rattle.journal_entry.specs.declared.entry.What.{What}
use Rattle.journal_entry.specs.declared.entry.What.TheVariants.{Heard, Sample, Declined, Notice}
use Rattle.journal_entry.specs.declared.line.JournalLine.{JournalLine}
use Rattle.journal_entry.specs.declared.line.JournalLine.TheVariants.{Bare, Numbered}
use Rattle.journal_entry.proofs.NumberLaws.{rate_fits, text_is}

pub moment_length : (n : ℕ) → n < 2 ^ 50 → length (decimal n) ≤ 16
moment_length n small = length-decimal-le 16 n (omega arith) (omega arith) (omega arith)

pub span_length : (z : ℤ) → unsigned_abs z < 2 ^ 70 → length (signed_decimal z) ≤ 23
span_length (pos n) small = omega (arith, length-decimal-le_wide 22 n (omega arith) (omega arith) (omega arith))
span_length (negsuc n) small = omega (arith, length-decimal-le_wide 22 (suc n) (omega arith) (omega arith) (omega arith))

-- a field, and those after it
pub spaced_more : (field : List ℕ) (fields : List (List ℕ)) → length (spaced (field ∷ fields)) ≡ 1 + length field + length (spaced fields)
spaced_more field fields = omega (arith, length-append field (spaced fields))

number_length : (n : ℕ) → n < 2 ^ 64 → length (decimal n) ≤ 20
number_length n small = length-decimal-le 20 n (omega arith) (omega arith) (omega arith)

address_length : (n : ℕ) → length (address_text n) ≡ 8
address_length n = length-encode_with lower_digits (to_be_bytes w32 n)

-- numbers of 64 bits one after the other
one_length : (n : ℕ) → n < 2 ^ 64 → length (spaced (decimal n ∷ [])) ≤ 21
one_length n a = let long = number_length n a in let all = spaced_more (decimal n) [] in omega arith

sample_length : (s : TimeSample) → IsSample s → length (spaced (sample_fields s)) ≤ 200
sample_length s h =
    let a = spaced_more (signed_decimal s.offset) (signed_decimal s.delay ∷ signed_decimal s.dispersion ∷ decimal s.stratum ∷ address_text s.address ∷ decimal s.root_delay.0 ∷ decimal s.root_disp.0 ∷ []) in
    let b = spaced_more (signed_decimal s.delay) (signed_decimal s.dispersion ∷ decimal s.stratum ∷ address_text s.address ∷ decimal s.root_delay.0 ∷ decimal s.root_disp.0 ∷ []) in
    let c = spaced_more (signed_decimal s.dispersion) (decimal s.stratum ∷ address_text s.address ∷ decimal s.root_delay.0 ∷ decimal s.root_disp.0 ∷ []) in
    let d = spaced_more (decimal s.stratum) (address_text s.address ∷ decimal s.root_delay.0 ∷ decimal s.root_disp.0 ∷ []) in
    let e = spaced_more (address_text s.address) (decimal s.root_delay.0 ∷ decimal s.root_disp.0 ∷ []) in
    let f = spaced_more (decimal s.root_delay.0) (decimal s.root_disp.0 ∷ []) in
    let offset = span_length s.offset h.offset in
    let delay = span_length s.delay h.delay in
    let dispersion = span_length s.dispersion h.dispersion in
    let small = h.stratum in
    let stratum = number_length s.stratum (omega arith) in
    let address = address_length s.address in
    let small_delay = h.root_delay in
    let root_delay = number_length s.root_delay.0 (omega arith) in
    let small_disp = h.root_disp in
    let root_disp = one_length s.root_disp.0 (omega arith) in
    omega arith

what_length : (w : What) → IsWhat w → length (spaced (what_fields w)) ≤ 210
what_length (Heard (Verdict second leap_at)) h =
    let a = spaced_more (codes "verdict") (decimal second ∷ decimal leap_at ∷ []) in
    let b = spaced_more (decimal second) (decimal leap_at ∷ []) in
    let x = number_length second h.0 in
    let y = one_length leap_at h.1 in
    omega arith
what_length (Heard (Lone second)) h = let a = spaced_more (codes "lone") (decimal second ∷ []) in let x = one_length second h in omega arith
what_length (Heard (Differs before now apart)) h =
    let a = spaced_more (codes "differs") (decimal before ∷ decimal now ∷ decimal apart ∷ []) in
    let b = spaced_more (decimal before) (decimal now ∷ decimal apart ∷ []) in
    let c = spaced_more (decimal now) (decimal apart ∷ []) in
    let x = number_length before h.0 in
    let y = number_length now h.1 in
    let z = one_length apart h.2 in
    omega arith
what_length (Heard (Refused rule)) h = let a = spaced_more (codes "refused") (decimal rule ∷ []) in let x = one_length rule (omega arith) in omega arith
what_length (Sample s) h = let a = spaced_more (codes "sample") (sample_fields s) in let x = sample_length s h in omega arith
what_length (Declined code) h = let a = spaced_more (codes "declined") (decimal code ∷ []) in let x = one_length code (omega arith) in omega arith
what_length (Notice leap_at) h = let a = spaced_more (codes "notice") (decimal leap_at ∷ []) in let x = one_length leap_at h in omega arith

entry_length : (e : Entry) → IsEntry e → length (spaced (entry_fields e)) ≤ 250
entry_length e h =
    let a = spaced_more (decimal e.feed) (decimal e.at ∷ what_fields e.what) in
    let b = spaced_more (decimal e.at) (what_fields e.what) in
    let small = h.feed in
    let x = number_length e.feed (omega arith) in
    let y = moment_length e.at h.at in
    let z = what_length e.what h.what in
    omega arith

-- a line of a journal has less than 300 bytes
pub short_text : (text : List ℕ) (line : JournalLine) → IsLineText text line → length text < 300
short_text text (Bare e) h = let all = ap length h.is in let most = entry_length e h.entry in let prefix = ap (λ (t : List ℕ). length t) h.is in omega arith
short_text text (Numbered n) h =
    let all = ap length (h.is ∙ text_is n) in
    let a = spaced_more (decimal n.length) (signed_decimal n.rate ∷ entry_fields n.entry) in
    let b = spaced_more (signed_decimal n.rate) (entry_fields n.entry) in
    let x = number_length n.length h.numbered.length in
    let small = rate_fits n.rate h.numbered.rate in
    let y = span_length n.rate (omega arith) in
    let z = entry_length n.entry h.numbered.entry in
    omega arith
