-- What a reader finds in the text of reductions whose starts rise.
use Rattle.std.proofs.Common.{◌≡◌, ℕ, ◌+◌, ◌^◌, ◌<◌, ◌≤◌, true, false, cond, eqb, ltb, Option, Some, None, List, [], ◌∷◌, ◌++◌, length, map, decimal, refl, sym, ap, ◌∙◌, subst, arith, append_assoc}
use Rattle.std.specs.Str.{all_ascii_digits}
use Rattle.std.proofs.lemmas.Bool.{lt-ltb, le-ltb, lt-leb, ne_eqb}
use Rattle.std.proofs.lemmas.Fmt.{digits_decimal}
use Rattle.std.proofs.lemmas.List.{append-nil, length-map}
use Rattle.std.proofs.lemmas.Str.Parse.{tells_all_ascii_digits}
use Rattle.tick_units.specs.Log.{Lines, lines_of, with_byte, reduction_of, valid, pulses, bad_line, or_unfinished}
use Rattle.tick_units.specs.declared.marks.Reduction.{Reduction}
use Rattle.pulse_log.specs.Writing.{line_of}
use Rattle.pulse_log.proofs.LineLaws.{own, says}
use Rattle.drill_day.specs.Made.{text_of, IsReadAs}

-- starts rise from this one on, and all numbers are in range
abbrev pub Rises : ℕ → List Reduction → Type 0
Rises least [] = Unit {0}
Rises least (r ∷ more) = (least ≤ r.at) × (r.at < 2 ^ 50) × (1 ≤ r.width) × (r.width ≤ 2000000) × Rises (r.at + 1) more

-- digits before the first line of a text
put_digits : (digits tail line : List ℕ) (lines : List (List ℕ)) (unfinished : List ℕ) → all_ascii_digits digits ≡ true
    → lines_of tail ≡ record { complete = line ∷ lines; unfinished = unfinished }
    → lines_of (digits ++ tail) ≡ record { complete = (digits ++ line) ∷ lines; unfinished = unfinished }
put_digits [] tail line lines unfinished are h = h
put_digits (d ∷ ds) tail line lines unfinished are h =
    let range = tells_all_ascii_digits.parts d ds are in
    let low = range.0 in
    let other : eqb d 10 ≡ false = ne_eqb d 10 (omega arith) in
    subst (λ t. cond t (record { complete = [] ∷ (lines_of (ds ++ tail)).complete; unfinished = (lines_of (ds ++ tail)).unfinished }) (with_byte d (lines_of (ds ++ tail))) ≡ record { complete = (d ∷ (ds ++ line)) ∷ lines; unfinished = unfinished })
    (sym other) (ap (with_byte d) (put_digits ds tail line lines unfinished range.1 h))

leading_line : (r : Reduction) (rest : List ℕ) → r.at < 2 ^ 50 → r.width ≤ 2000000
    → lines_of ((line_of r ++ 10 ∷ []) ++ rest) ≡ record { complete = line_of r ∷ (lines_of rest).complete; unfinished = (lines_of rest).unfinished }
leading_line r rest below most =
    let lines = (lines_of rest).complete in
    let unfinished = (lines_of rest).unfinished in
    let width = decimal r.width in
    let later : lines_of (width ++ 10 ∷ rest) ≡ record { complete = width ∷ lines; unfinished = unfinished } =
    put_digits width (10 ∷ rest) [] lines unfinished (digits_decimal own r.width (omega arith)) refl
    ∙ ap (λ (l : List ℕ). record { complete = l ∷ lines; unfinished = unfinished }) (append-nil width) in
    ap lines_of (append_assoc (line_of r) (10 ∷ []) rest ∙ append_assoc (decimal r.at) (32 ∷ width) (10 ∷ rest))
    ∙ put_digits (decimal r.at) (32 ∷ (width ++ 10 ∷ rest)) (32 ∷ width) lines unfinished (digits_decimal own r.at (omega arith)) (ap (with_byte 32) later)

text_lines : (least : ℕ) (rs : List Reduction) → Rises least rs → lines_of (text_of rs) ≡ record { complete = map line_of rs; unfinished = [] }
text_lines least [] h = refl
text_lines least (r ∷ more) h =
    leading_line r (text_of more) h.1 h.3
    ∙ ap (λ (l : Lines). record { complete = line_of r ∷ l.complete; unfinished = l.unfinished }) (text_lines (r.at + 1) more h.4)

lines_say : (least : ℕ) (rs : List Reduction) → Rises least rs → map reduction_of (map line_of rs) ≡ map Some rs
lines_say least [] h = refl
lines_say least (r ∷ more) h =
    ap (λ (o : Option Reduction). o ∷ map reduction_of (map line_of more)) (says r.at r.width h.1 h.2 h.3)
    ∙ ap (λ (l : List (Option Reduction)). Some r ∷ l) (lines_say (r.at + 1) more h.4)

all_valid : (least : ℕ) (rs : List Reduction) → Rises least rs → valid (map Some rs) ≡ rs
all_valid least [] h = refl
all_valid least (r ∷ []) h = refl
all_valid least (r ∷ next ∷ more) h =
    let above = h.4.0 in
    let test : ltb r.at next.at ≡ true = lt-ltb r.at next.at (omega arith) in
    subst (λ t. cond t (r ∷ valid (map Some (next ∷ more))) (r ∷ []) ≡ r ∷ next ∷ more) (sym test)
    (ap (λ (l : List Reduction). r ∷ l) (all_valid (r.at + 1) (next ∷ more) h.4))

pub is_read : (least : ℕ) (rs : List Reduction) → Rises least rs → IsReadAs (text_of rs) rs
is_read least rs h =
    let text = text_of rs in
    let lines = text_lines least rs h in
    let found : pulses text ≡ rs = ap (λ (l : Lines). valid (map reduction_of l.complete)) lines ∙ ap valid (lines_say least rs h) ∙ all_valid least rs h in
    let count : length (lines_of text).complete ≡ length rs = ap (λ (l : Lines). length l.complete) lines ∙ length-map rs line_of in
    let same : length (pulses text) ≡ length rs = ap length found in
    let empty : length (lines_of text).unfinished ≡ 0 = ap (λ (l : Lines). length l.unfinished) lines in
    let good : bad_line text ≡ None =
    rw (le-ltb (length (pulses text)) (length (lines_of text).complete) (omega arith), lt-leb 32 (length (lines_of text).unfinished) (omega arith)) refl in
    let end : or_unfinished None (lines_of text) ≡ None = rw (le-ltb 0 (length (lines_of text).unfinished) (omega arith)) refl in
    record { found = found; bad = ap (λ (o : Option ℕ). or_unfinished o (lines_of text)) good ∙ end }
