-- A line that is taken at once, and a log with it at its end.
use Rattle.std.proofs.Common.{◌≡◌, ℕ, ◌+◌, ◌^◌, ◌<◌, ◌≤◌, true, false, eqb, None, Some, Ok, List, [], ◌∷◌, ◌++◌, length, take, drop, get_or, decimal, refl, ap, sym, ◌∙◌, subst, arith, append_assoc}
use Rattle.std.specs.Prelude.{⊤}
use Rattle.std.specs.Str.{all_ascii_digits}
use Rattle.std.proofs.Math.Seq.{take-add}
use Rattle.std.proofs.lemmas.Bool.{ne_eqb}
use Rattle.std.proofs.lemmas.Fmt.{digits_decimal, length-decimal-le}
use Rattle.std.proofs.lemmas.List.{length-append, length_push, append-nil, take_more, nil_from_length}
use Rattle.std.proofs.lemmas.Str.Parse.{tells_all_ascii_digits}
use Rattle.tick_units.specs.Log.{Lines, lines_of, reduction_of, pulses, bad_line}
use Rattle.tick_units.specs.declared.marks.Reduction.{Reduction}
use Rattle.pulse_log.specs.Lines.{IsLine}
use Rattle.pulse_log.specs.Reading.{HasRead, TakesPrefix, least_after, number_of_bad}
use Rattle.pulse_log.specs.Writing.{line_of}
use Rattle.pulse_log.specs.declared.reader.LineReader.{LineReader}
use Rattle.pulse_log.proofs.LineLaws.{own, says}
use Rattle.pulse_log.proofs.ValidLaws.{least_push}
use Rattle.pulse_log.proofs.LogLaws.{lines_more, lines_end, complete_end, pulses_more, good_of, good_more, good_end}

-- no byte of these is a line feed
abbrev HasNoFeed : List ℕ → Type 0
HasNoFeed [] = ⊤
HasNoFeed (byte ∷ bytes) = (eqb byte 10 ≡ false) × HasNoFeed bytes

digits_go_on : (digits more : List ℕ) → all_ascii_digits digits ≡ true → HasNoFeed more → HasNoFeed (digits ++ more)
digits_go_on [] more are no_feed = no_feed
digits_go_on (digit ∷ digits) more are no_feed =
    let parts = tells_all_ascii_digits.parts digit digits are in
    let range = parts.0 in
    (ne_eqb digit 10 (omega arith), digits_go_on digits more parts.1 no_feed)

line_goes_on : (r : Reduction) → r.at < 2 ^ 50 → r.width ≤ 2000000 → HasNoFeed (line_of r)
line_goes_on r below most =
    let back = digits_go_on (decimal r.width) [] (digits_decimal own r.width (omega arith)) tt in
    digits_go_on (decimal r.at) (32 ∷ decimal r.width) (digits_decimal own r.at (omega arith)) (refl, subst HasNoFeed (append-nil (decimal r.width)) back)

line_short : (r : Reduction) → r.at < 2 ^ 50 → r.width ≤ 2000000 → length (line_of r) < 32
line_short r below most =
    let prefix = length-decimal-le 16 r.at (omega arith) (omega arith) (omega arith) in
    let back = length-decimal-le 7 r.width (omega arith) (omega arith) (omega arith) in
    let all = length-append (decimal r.at) (32 ∷ decimal r.width) in
    omega arith

-- a log whose line goes on with these bytes
record Lengthens (bytes prefix : List ℕ) : Type 0 where
  good : bad_line (bytes ++ prefix) ≡ None
  same : pulses (bytes ++ prefix) ≡ pulses bytes
  lines : lines_of (bytes ++ prefix) ≡ record { complete = (lines_of bytes).complete; unfinished = (lines_of bytes).unfinished ++ prefix }

lengthens : (bytes prefix : List ℕ) → HasNoFeed prefix → bad_line bytes ≡ None → length (lines_of bytes).unfinished + length prefix < 32 → Lengthens bytes prefix
lengthens bytes [] no_feed good short = record {
  good = ap bad_line (append-nil bytes) ∙ good;
  same = ap pulses (append-nil bytes);
  lines = ap lines_of (append-nil bytes) ∙ ap (λ (text : List ℕ). record { complete = (lines_of bytes).complete; unfinished = text }) (sym (append-nil (lines_of bytes).unfinished));
}
lengthens bytes (byte ∷ prefix) no_feed good short =
    let next = good_more bytes byte no_feed.0 (good_of bytes good) (omega arith) in
    let longer = lines_more bytes byte no_feed.0 in
    let count = ap (λ (l : Lines). length l.unfinished) longer ∙ length_push (lines_of bytes).unfinished byte in
    let rest = lengthens (bytes ++ byte ∷ []) prefix no_feed.1 next (omega arith) in
    let regroup : (bytes ++ byte ∷ []) ++ prefix ≡ bytes ++ byte ∷ prefix = append_assoc bytes (byte ∷ []) prefix in
    record {
      good = ap bad_line (sym regroup) ∙ rest.good;
      same = ap pulses (sym regroup) ∙ rest.same ∙ pulses_more bytes byte no_feed.0;
      lines = ap lines_of (sym regroup) ∙ rest.lines
          ∙ ap (λ (l : Lines). record { complete = l.complete; unfinished = l.unfinished ++ prefix }) longer
          ∙ ap (λ (text : List ℕ). record { complete = (lines_of bytes).complete; unfinished = text }) (append_assoc (lines_of bytes).unfinished (byte ∷ []) prefix);
    }

-- a valid line that comes whole, after a log whose last line has ended
pub takes_whole : (old new : LineReader) (bytes : List ℕ) (r : Reduction) → HasRead old bytes → old.bad ≡ None → old.line.length ≡ 0 → old.least ≤ r.at →
    r.at < 2 ^ 50 → 1 ≤ r.width → r.width ≤ 2000000 → new.line ≡ old.line → new.lines ≡ old.lines + 1 → new.least ≡ r.at + 1 → new.bad ≡ None →
    TakesPrefix new bytes (line_of r ++ 10 ∷ []) (Ok (Some r))
takes_whole old new bytes r h none empty late below least most line lines start still =
    let text = line_of r in
    let good : bad_line bytes ≡ None = sym h.bad ∙ ap number_of_bad none in
    let kept = h.line good in
    let count = kept.length in
    let nothing : (lines_of bytes).unfinished ≡ [] = nil_from_length (lines_of bytes).unfinished (omega arith) in
    let longer = lengthens bytes text (line_goes_on r below most) good (omega (arith, line_short r below most)) in
    let unfinished : (lines_of (bytes ++ text)).unfinished ≡ text = ap (λ (l : Lines). l.unfinished) longer.lines ∙ ap (λ (prefix : List ℕ). prefix ++ text) nothing in
    let after = h.least good in
    let still_after = ap least_after longer.same in
    let ended = bytes ++ text in
    let next = good_end ended 10 r refl (good_of ended longer.good) (ap reduction_of unfinished ∙ says r.at r.width below least most) (omega arith) in
    let regroup : ended ++ 10 ∷ [] ≡ bytes ++ (text ++ 10 ∷ []) = append_assoc bytes text (10 ∷ []) in
    let bad_is : bad_line (bytes ++ (text ++ 10 ∷ [])) ≡ None = ap bad_line (sym regroup) ∙ next.good in
    let pulses_are : pulses (bytes ++ (text ++ 10 ∷ [])) ≡ pulses bytes ++ r ∷ [] = ap pulses (sym regroup) ∙ next.pulses ∙ ap (λ (rs : List Reduction). rs ++ r ∷ []) longer.same in
    let rest : [] ≡ (lines_of (bytes ++ (text ++ 10 ∷ []))).unfinished = sym (ap (λ (bs : List ℕ). (lines_of bs).unfinished) (sym regroup) ∙ ap (λ (l : Lines). l.unfinished) (lines_end ended 10 refl)) in
    let one = ap (λ (bs : List ℕ). length (lines_of bs).complete) regroup in
    let two = complete_end ended 10 refl in
    let three = ap (λ (l : Lines). length l.complete) longer.lines in
    let four = h.lines good in
    record {
      read = record {
        bad = ap number_of_bad still ∙ sym bad_is;
        line = λ _. subst (IsLine new.line) rest (subst (λ l. IsLine l []) (sym line) (subst (IsLine old.line) nothing kept));
        lines = λ _. omega arith;
        least = λ _. start ∙ sym (ap least_after pulses_are ∙ least_push (pulses bytes) r);
      };
      found = (bad_is, pulses_are);
    }

-- two numbers with a space and a line feed after them are a line and its end
pub line_is : (bytes rest : List ℕ) (space feed at width : ℕ) → rest ≡ drop (space + 1) bytes → take space bytes ≡ decimal at → space < length bytes → get_or bytes space 0 ≡ 32 →
    take feed rest ≡ decimal width → feed < length rest → get_or rest feed 0 ≡ 10 → take (space + feed + 2) bytes ≡ (decimal at ++ 32 ∷ decimal width) ++ 10 ∷ []
line_is bytes rest space feed at width rest_is start start_in space_is last last_in feed_is =
    let sum : space + feed + 2 ≡ (space + 1) + (feed + 1) = omega arith in
    let prefix : take (space + 1) bytes ≡ decimal at ++ 32 ∷ [] = take_more bytes space 0 start_in ∙ ap (λ (t : List ℕ). t ++ get_or bytes space 0 ∷ []) start ∙ ap (λ (byte : ℕ). decimal at ++ byte ∷ []) space_is in
    let back : take (feed + 1) rest ≡ decimal width ++ 10 ∷ [] = take_more rest feed 0 last_in ∙ ap (λ (t : List ℕ). t ++ get_or rest feed 0 ∷ []) last ∙ ap (λ (byte : ℕ). decimal width ++ byte ∷ []) feed_is in
    ap (λ (n : ℕ). take n bytes) sum ∙ take-add (space + 1) (feed + 1) bytes
    ∙ ap (λ (t : List ℕ). take (space + 1) bytes ++ take (feed + 1) t) (sym rest_is)
    ∙ ap (λ (t : List ℕ). t ++ take (feed + 1) rest) prefix
    ∙ ap (λ (t : List ℕ). (decimal at ++ 32 ∷ []) ++ t) back
    ∙ append_assoc (decimal at) (32 ∷ []) (decimal width ++ 10 ∷ [])
    ∙ sym (append_assoc (decimal at) (32 ∷ decimal width) (10 ∷ []))
