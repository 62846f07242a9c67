-- What a reader does with one byte more, by what becomes of its log.
use Rattle.std.proofs.Common.{◌≡◌, ℕ, ◌+◌, ◌<◌, ◌≤◌, false, eqb, Some, None, Ok, Err, List, [], ◌∷◌, ◌++◌, length, refl, ap, sym, ◌∙◌, subst, arith}
use Rattle.std.proofs.lemmas.List.{append-nil}
use Rattle.tick_units.specs.Log.{Lines, lines_of, reduction_of, pulses, bad_line}
use Rattle.tick_units.specs.declared.marks.Reduction.{Reduction}
use Rattle.pulse_log.specs.Lines.{IsLine}
use Rattle.pulse_log.specs.Reading.{HasRead, TakesByte, least_after, number_of_bad}
use Rattle.pulse_log.specs.declared.reader.LineReader.{LineReader}
use Rattle.pulse_log.specs.declared.reader.BadLine.{BadLine}
use Rattle.pulse_log.proofs.ValidLaws.{at_least, least_push}
use Rattle.pulse_log.proofs.LogLaws.{lines_more, lines_end, complete_end, pulses_more, bad_reach, bad_end, bad_stays_one, good_of, good_more, good_end}

fine : (reader : LineReader) (bytes : List ℕ) → HasRead reader bytes → reader.bad ≡ None → bad_line bytes ≡ None
fine reader bytes h none = sym h.bad ∙ ap number_of_bad none

-- a reader of a log with a bad line
stopped : (reader : LineReader) (bytes : List ℕ) (bad : BadLine) → reader.bad ≡ Some bad → bad_line bytes ≡ Some bad.line → HasRead reader bytes
stopped reader bytes bad kept is = record {
  bad = ap number_of_bad kept ∙ sym is;
  line = λ none. absurd (let never : Some bad.line ≡ None = sym is ∙ none in cc);
  lines = λ none. absurd (let never : Some bad.line ≡ None = sym is ∙ none in cc);
  least = λ none. absurd (let never : Some bad.line ≡ None = sym is ∙ none in cc);
}

-- the bad line stays
pub stays : (reader : LineReader) (bytes : List ℕ) (byte : ℕ) (bad : BadLine) → HasRead reader bytes → reader.bad ≡ Some bad → TakesByte reader bytes byte (Err bad)
stays reader bytes byte bad h kept =
    let next = bad_stays_one bytes byte bad.line (sym h.bad ∙ ap number_of_bad kept) in
    record { read = stopped reader (bytes ++ byte ∷ []) bad kept next.0; found = next }

-- a line that ends and is not valid
pub ends_badly : (old new : LineReader) (bytes : List ℕ) (bad : BadLine) → HasRead old bytes → old.bad ≡ None →
    at_least (least_after (pulses bytes)) (reduction_of (lines_of bytes).unfinished) ≡ None →
    new.bad ≡ Some bad → bad.line ≡ old.lines + 1 → TakesByte new bytes 10 (Err bad)
ends_badly old new bytes bad h none invalid kept number =
    let good = fine old bytes h none in
    let next = bad_end bytes 10 refl (good_of bytes good).lines invalid in
    let is : bad_line (bytes ++ 10 ∷ []) ≡ Some bad.line = next.0 ∙ ap (λ (n : ℕ). Some (n + 1)) (sym (h.lines good)) ∙ ap (λ (n : ℕ). Some n) (sym number) in
    record { read = stopped new (bytes ++ 10 ∷ []) bad kept is; found = (is, next.1) }

-- a line that reaches 32 bytes
pub reaches : (old new : LineReader) (bytes : List ℕ) (byte : ℕ) (bad : BadLine) → HasRead old bytes → old.bad ≡ None → eqb byte 10 ≡ false →
    old.line.length ≡ 31 → new.bad ≡ Some bad → bad.line ≡ old.lines + 1 → TakesByte new bytes byte (Err bad)
reaches old new bytes byte bad h none other long kept number =
    let good = fine old bytes h none in
    let line = h.line good in
    let len = line.length in
    let next = bad_reach bytes byte other (good_of bytes good).lines (omega arith) in
    let is : bad_line (bytes ++ byte ∷ []) ≡ Some bad.line = next.0 ∙ ap (λ (n : ℕ). Some (n + 1)) (sym (h.lines good)) ∙ ap (λ (n : ℕ). Some n) (sym number) in
    record { read = stopped new (bytes ++ byte ∷ []) bad kept is; found = (is, next.1) }

-- a line that goes on
pub goes_on : (old new : LineReader) (bytes : List ℕ) (byte : ℕ) → HasRead old bytes → old.bad ≡ None → eqb byte 10 ≡ false → old.line.length < 31 →
    ((text : List ℕ) → IsLine old.line text → IsLine new.line (text ++ byte ∷ [])) → new.lines ≡ old.lines → new.least ≡ old.least → new.bad ≡ None →
    TakesByte new bytes byte (Ok None)
goes_on old new bytes byte h none other short line lines least still =
    let good = fine old bytes h none in
    let kept = h.line good in
    let len = kept.length in
    let next = good_more bytes byte other (good_of bytes good) (omega arith) in
    let same = pulses_more bytes byte other in
    let longer = lines_more bytes byte other in
    record {
      read = record {
        bad = ap number_of_bad still ∙ sym next;
        line = λ _. subst (IsLine new.line) (sym (ap (λ (l : Lines). l.unfinished) longer)) (line (lines_of bytes).unfinished kept);
        lines = λ _. lines ∙ h.lines good ∙ sym (ap (λ (l : Lines). length l.complete) longer);
        least = λ _. least ∙ h.least good ∙ sym (ap least_after same);
      };
      found = (next, same ∙ sym (append-nil (pulses bytes)));
    }

-- a line that ends and is valid
pub ends_well : (old new : LineReader) (bytes : List ℕ) (r : Reduction) → HasRead old bytes → old.bad ≡ None →
    reduction_of (lines_of bytes).unfinished ≡ Some r → old.least ≤ r.at → IsLine new.line [] → new.lines ≡ old.lines + 1 → new.least ≡ r.at + 1 → new.bad ≡ None →
    TakesByte new bytes 10 (Ok (Some r))
ends_well old new bytes r h none says late line lines least still =
    let good = fine old bytes h none in
    let after = h.least good in
    let next = good_end bytes 10 r refl (good_of bytes good) says (omega arith) in
    let ended = lines_end bytes 10 refl in
    record {
      read = record {
        bad = ap number_of_bad still ∙ sym next.good;
        line = λ _. subst (IsLine new.line) (sym (ap (λ (l : Lines). l.unfinished) ended)) line;
        lines = λ _. lines ∙ ap (λ (n : ℕ). n + 1) (h.lines good) ∙ sym (complete_end bytes 10 refl);
        least = λ _. least ∙ sym (ap least_after next.pulses ∙ least_push (pulses bytes) r);
      };
      found = (next.good, next.pulses);
    }

-- what the reader's line says is what the log's unfinished line says
pub line_says : (reader : LineReader) (bytes : List ℕ) → HasRead reader bytes → reader.bad ≡ None → IsLine reader.line (lines_of bytes).unfinished
line_says reader bytes h none = h.line (fine reader bytes h none)

pub least_is : (reader : LineReader) (bytes : List ℕ) → HasRead reader bytes → reader.bad ≡ None → reader.least ≡ least_after (pulses bytes)
least_is reader bytes h none = h.least (fine reader bytes h none)
