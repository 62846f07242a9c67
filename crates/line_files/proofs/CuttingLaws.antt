-- What a piece does to the lines of a file.
use Rattle.std.proofs.Common.{◌≡◌, ℕ, zero, suc, ◌+◌, ◌-◌, ◌<◌, ◌≤◌, Bool, true, false, cond, eqb, Some, None, List, [], ◌∷◌, ◌++◌, length, get_or, take, refl, ap, subst, sym, add-one, ◌∙◌, append_assoc, arith, inl, inr}
use Rattle.std.specs.List.{list_any, position, position_or_len}
use Rattle.std.proofs.lemmas.Bool.{cases_Bool, or_from, or_parts, eqb-true, ltb-true, ltb-false}
use Rattle.std.proofs.lemmas.Option.{cond_some}
use Rattle.std.proofs.lemmas.List.{length-append, length-take-le, append-nil}
use Rattle.std.proofs.Math.Seq.{take-suc, take-length}
use Rattle.std.proofs.lemmas.List.Sums.{passes_at_first}
use Rattle.tick_units.specs.Log.{Lines, lines_of}
use Rattle.pulse_log.proofs.LogLaws.{lines_more, lines_end}
use Rattle.line_files.specs.Cutting.{HasTaken, TakesPiece, line_in, unfinished_in}
use Rattle.line_files.specs.declared.cutter.Cut.TheVariants.{More, Line, TooLong}
use Rattle.line_files.specs.declared.cutter.LineCutter.{LineCutter}

abbrev pub is_feed : ℕ → Bool
is_feed byte = eqb byte 10

abbrev pub first_feed : List ℕ → ℕ
first_feed piece = position_or_len is_feed piece

-- before the first line feed there is none
prefix_plain : (piece : List ℕ) (count : ℕ) → count ≤ first_feed piece → list_any is_feed (take count piece) ≡ false
prefix_plain [] zero le = refl
prefix_plain [] (suc count) le = refl
prefix_plain (byte ∷ piece) zero le = refl
prefix_plain (byte ∷ piece) (suc count) le = elim (cases_Bool (eqb byte 10)) [
  | inl feed ↦ (let le' : suc count ≤ 0 = rw feed at le in absurd (omega arith))
  | inr other ↦ (let le' : suc count ≤ 1 + first_feed piece = rw other at le in or_from (eqb byte 10) (list_any is_feed (take count piece)) other (prefix_plain piece count (omega arith)))
]

abbrev longer : Lines → List ℕ → Lines
longer lines more = record { complete = lines.complete; unfinished = lines.unfinished ++ more }

-- bytes with no line feed go on with the line
lines_plain : (bytes piece : List ℕ) → list_any is_feed piece ≡ false → lines_of (bytes ++ piece) ≡ longer (lines_of bytes) piece
lines_plain bytes [] plain =
    ap lines_of (append-nil bytes) ∙ ap (λ (t : List ℕ). record { complete = (lines_of bytes).complete; unfinished = t }) (sym (append-nil (lines_of bytes).unfinished))
lines_plain bytes (byte ∷ piece) plain =
    let parts = or_parts (eqb byte 10) (list_any is_feed piece) plain in
    let one = lines_more bytes byte parts.0 in
    ap lines_of (sym (append_assoc bytes (byte ∷ []) piece))
    ∙ lines_plain (bytes ++ byte ∷ []) piece parts.1
    ∙ ap (λ (l : Lines). longer l piece) one
    ∙ ap (λ (t : List ℕ). record { complete = (lines_of bytes).complete; unfinished = t }) (append_assoc (lines_of bytes).unfinished (byte ∷ []) piece)

-- and a line feed after them ends it
lines_fed : (bytes piece : List ℕ) → list_any is_feed piece ≡ false →
    lines_of (bytes ++ piece ++ 10 ∷ []) ≡ record { complete = (lines_of bytes).complete ++ ((lines_of bytes).unfinished ++ piece) ∷ []; unfinished = [] }
lines_fed bytes piece plain =
    lines_end (bytes ++ piece) 10 refl
    ∙ ap (λ (l : Lines). record { complete = l.complete ++ l.unfinished ∷ []; unfinished = [] }) (lines_plain bytes piece plain)

not_found : (found : Bool) (n : ℕ) → cond found (Some n) None ≡ None → found ≡ false
not_found true n e = cc
not_found false n e = refl

-- where the first line feed was found, or wasn't
record IsFirst (piece : List ℕ) (place : ℕ) : Type 0 where
  first : first_feed piece ≡ place
  within : place < length piece

found_at : (piece : List ℕ) (place : ℕ) → position is_feed piece ≡ Some place → IsFirst piece place
found_at piece place e =
    let parts = cond_some _ _ _ e in
    let within = ltb-true (first_feed piece) (length piece) parts.0 in
    let same = parts.1 in
    record { first = same; within = omega arith }

none_at : (piece : List ℕ) → position is_feed piece ≡ None → length piece ≤ first_feed piece
none_at piece e = ltb-false (first_feed piece) (length piece) (not_found _ (first_feed piece) e)

-- the whole piece goes on with the line
pub takes_all : (old new : LineCutter) (too_long : ℕ) (bytes piece : List ℕ) → HasTaken old too_long bytes → position is_feed piece ≡ None →
    new.too_long ≡ old.too_long → line_in new ≡ unfinished_in old ++ piece → new.ended ≡ false → TakesPiece new too_long bytes piece (record { count = length piece; found = More })
takes_all old new too_long bytes piece h none same line going =
    let all = take-length piece in
    let plain = subst (λ (t : List ℕ). list_any is_feed t ≡ false) all (prefix_plain piece (length piece) (none_at piece none)) in
    let lines = lines_plain bytes piece plain in
    let now : unfinished_in new ≡ line_in new = rw going refl in
    let taken : HasTaken new too_long (bytes ++ piece) = record { limit = same ∙ h.limit; unfinished = now ∙ line ∙ ap (λ (t : List ℕ). t ++ piece) h.unfinished ∙ sym (ap (λ (l : Lines). l.unfinished) lines) } in
    record {
      within = omega arith;
      cut = (
        subst (λ (t : List ℕ). HasTaken new too_long (bytes ++ t)) (sym all) taken,
        all,
        ap (λ (t : List ℕ). (lines_of (bytes ++ t)).complete) all ∙ ap (λ (l : Lines). l.complete) lines,
      );
    }

-- the piece ends the line
pub takes_line : (old new : LineCutter) (too_long : ℕ) (bytes piece : List ℕ) (place : ℕ) → HasTaken old too_long bytes → position is_feed piece ≡ Some place →
    new.too_long ≡ old.too_long → line_in new ≡ unfinished_in old ++ take place piece → new.ended ≡ true → TakesPiece new too_long bytes piece (record { count = place + 1; found = Line })
takes_line old new too_long bytes piece place h some same line ended =
    let here = found_at piece place some in
    let first = here.first in
    let within = here.within in
    let plain = prefix_plain piece place (omega arith) in
    let feed : get_or piece place 0 ≡ 10 = eqb-true (get_or piece place 0) 10 (subst (λ k. eqb (get_or piece k 0) 10 ≡ true) first (passes_at_first is_feed piece 0 (omega arith))) in
    let prefix : take (place + 1) piece ≡ take place piece ++ 10 ∷ [] =
    ap (λ k. take k piece) (add-one place) ∙ take-suc piece place 0 within ∙ ap (λ b. take place piece ++ b ∷ []) feed in
    let all : bytes ++ take (place + 1) piece ≡ bytes ++ take place piece ++ 10 ∷ [] = ap (λ (t : List ℕ). bytes ++ t) prefix ∙ sym (append_assoc bytes (take place piece) (10 ∷ [])) in
    let lines = ap lines_of all ∙ lines_fed bytes (take place piece) plain in
    let now : unfinished_in new ≡ [] = rw ended refl in
    record {
      within = omega arith;
      cut = (
        record { limit = same ∙ h.limit; unfinished = now ∙ sym (ap (λ (l : Lines). l.unfinished) lines) },
        ap (λ (l : Lines). l.unfinished) lines,
        ap (λ (l : Lines). l.complete) lines ∙ ap (λ (t : List ℕ). (lines_of bytes).complete ++ t ∷ []) (ap (λ (t : List ℕ). t ++ take place piece) (sym h.unfinished) ∙ sym line),
      );
    }

-- the piece makes the line too long
too_much : (old : LineCutter) (bytes piece : List ℕ) (held : ℕ) → HasTaken old old.too_long bytes → held ≡ length (unfinished_in old) → held < old.too_long →
    old.too_long - held ≤ first_feed piece → old.too_long - held ≤ length piece → TakesPiece old old.too_long bytes piece (record { count = old.too_long - held; found = TooLong })
too_much old bytes piece held h is short before within =
    let prefix = take (old.too_long - held) piece in
    let plain = prefix_plain piece (old.too_long - held) before in
    let lines = lines_plain bytes prefix plain in
    let len = length-take-le (old.too_long - held) piece within in
    let kept = ap length h.unfinished in
    let all = ap (λ (l : Lines). length l.unfinished) lines ∙ length-append (lines_of bytes).unfinished prefix in
    record { within = within; cut = (h, omega arith, ap (λ (l : Lines). l.complete) lines) }

pub takes_too_much : (old : LineCutter) (too_long : ℕ) (bytes piece : List ℕ) (held : ℕ) → HasTaken old too_long bytes → held ≡ length (unfinished_in old) → held < old.too_long →
    old.too_long - held ≤ first_feed piece → old.too_long - held ≤ length piece → TakesPiece old too_long bytes piece (record { count = old.too_long - held; found = TooLong })
takes_too_much old too_long bytes piece held h is short before within =
    subst (λ t. TakesPiece old t bytes piece (record { count = old.too_long - held; found = TooLong })) h.limit
    (too_much old bytes piece held (record { limit = refl; unfinished = h.unfinished }) is short before within)

pub too_much_of_line : (piece : List ℕ) (too_long place held : ℕ) → position is_feed piece ≡ Some place → too_long - held ≤ place → (too_long - held ≤ first_feed piece) × (too_long - held ≤ length piece)
too_much_of_line piece too_long place held some le =
    let here = found_at piece place some in
    let first = here.first in
    let within = here.within in
    (omega arith, omega arith)

pub too_much_of_piece : (piece : List ℕ) (too_long held : ℕ) → position is_feed piece ≡ None → too_long - held ≤ length piece → (too_long - held ≤ first_feed piece) × (too_long - held ≤ length piece)
too_much_of_piece piece too_long held none le = (let last = none_at piece none in (omega arith, le))
