-- The pieces and segments of marks, with one more mark.
use Rattle.std.proofs.Common.{◌≡◌, ℕ, true, false, cond, Option, Some, None, List, [], ◌∷◌, ◌++◌, drop, refl, ap, sym, ◌∙◌, append_assoc}
use Rattle.std.specs.List.{onto_first, last_or}
use Rattle.minute_pair.specs.Segments.{cut, closed, start_of, segments_by}
use Rattle.tick_units.specs.declared.marks.Mark.{Mark}
use Rattle.frame_rules.specs.Codes.{Code}

-- the pieces with a mark at the end of the last
add_last : Mark → List (List Mark) → List (List Mark)
add_last mark [] = (mark ∷ []) ∷ []
add_last mark (piece ∷ []) = (piece ++ mark ∷ []) ∷ []
add_last mark (piece ∷ next ∷ pieces) = piece ∷ add_last mark (next ∷ pieces)

-- there is always a piece
some_piece : (code : Code) (before : Option Mark) (marks : List Mark) → (piece : List Mark) × (pieces : List (List Mark)) × (cut code before marks ≡ piece ∷ pieces)
some_piece code before [] = ([], [], refl)
some_piece code before (mark ∷ marks) =
    let rest = some_piece code (Some mark) marks in
    let more = cut code (Some mark) marks in
    elim (code.begins_minute before mark) as (λ b. (piece : List Mark) × (pieces : List (List Mark)) × (cond b ([] ∷ onto_first mark more) (onto_first mark more) ≡ piece ∷ pieces)) [
      | true ↦ ([], onto_first mark more, refl)
      | false ↦ (mark ∷ rest.0, rest.1, ap (onto_first mark) rest.2)
    ]

onto_some : (x : Mark) (pieces more : List (List Mark)) (piece : List Mark) (rest : List (List Mark)) → pieces ≡ piece ∷ rest → onto_first x (pieces ++ more) ≡ onto_first x pieces ++ more
onto_some x pieces more piece rest e = rw e refl

onto_add : (x mark : Mark) (piece : List Mark) (rest : List (List Mark)) → onto_first x (add_last mark (piece ∷ rest)) ≡ add_last mark (onto_first x (piece ∷ rest))
unfolding add_last
onto_add x mark piece [] = refl
onto_add x mark piece (next ∷ rest) = refl

cons_add : (mark : Mark) (first : List Mark) (pieces : List (List Mark)) (piece : List Mark) (rest : List (List Mark)) → pieces ≡ piece ∷ rest → add_last mark (first ∷ pieces) ≡ first ∷ add_last mark pieces
unfolding add_last
cons_add mark first pieces piece rest e = rw e refl

-- a boundary begins a piece
pub cut_boundary : (code : Code) (before : Option Mark) (marks : List Mark) (mark : Mark) → code.begins_minute (last_or before marks) mark ≡ true → cut code before (marks ++ mark ∷ []) ≡ cut code before marks ++ (mark ∷ []) ∷ []
cut_boundary code before [] mark b = rw b refl
cut_boundary code before (x ∷ xs) mark b =
    let more = cut_boundary code (Some x) xs mark b in
    let some = some_piece code (Some x) xs in
    let old = cut code (Some x) xs in
    let onto = ap (onto_first x) more ∙ onto_some x old ((mark ∷ []) ∷ []) some.0 some.1 some.2 in
    elim (code.begins_minute before x) as (λ t. cond t ([] ∷ onto_first x (cut code (Some x) (xs ++ mark ∷ []))) (onto_first x (cut code (Some x) (xs ++ mark ∷ [])))
    ≡ cond t ([] ∷ onto_first x old) (onto_first x old) ++ (mark ∷ []) ∷ []) [
      | true ↦ ap (λ pieces. [] ∷ pieces) onto
      | false ↦ onto
    ]

-- any other mark goes on with the last piece
cut_more : (code : Code) (before : Option Mark) (marks : List Mark) (mark : Mark) → code.begins_minute (last_or before marks) mark ≡ false → cut code before (marks ++ mark ∷ []) ≡ add_last mark (cut code before marks)
unfolding add_last
cut_more code before [] mark b = rw b refl
cut_more code before (x ∷ xs) mark b =
    let more = cut_more code (Some x) xs mark b in
    let some = some_piece code (Some x) xs in
    let old = cut code (Some x) xs in
    let onto = ap (onto_first x) more ∙ rw some.2 (onto_add x mark some.0 some.1) in
    elim (code.begins_minute before x) as (λ t. cond t ([] ∷ onto_first x (cut code (Some x) (xs ++ mark ∷ []))) (onto_first x (cut code (Some x) (xs ++ mark ∷ [])))
    ≡ add_last mark (cond t ([] ∷ onto_first x old) (onto_first x old))) [
      | true ↦ ap (λ pieces. [] ∷ pieces) onto ∙ sym (cons_add mark [] (onto_first x old) (x ∷ some.0) some.1 (ap (onto_first x) some.2))
      | false ↦ onto
    ]

add_last_is : (done : List (List Mark)) (current : List Mark) (mark : Mark) → add_last mark (done ++ current ∷ []) ≡ done ++ (current ++ mark ∷ []) ∷ []
unfolding add_last
add_last_is [] current mark = refl
add_last_is (piece ∷ []) current mark = refl
add_last_is (piece ∷ next ∷ done) current mark = ap (λ pieces. piece ∷ pieces) (add_last_is (next ∷ done) current mark)

pub cut_goes_on : (code : Code) (marks : List Mark) (mark : Mark) (done : List (List Mark)) (current : List Mark) → code.begins_minute (last_or None marks) mark ≡ false → cut code None marks ≡ done ++ current ∷ [] →
    cut code None (marks ++ mark ∷ []) ≡ done ++ (current ++ mark ∷ []) ∷ []
cut_goes_on code marks mark done current b pieces = cut_more code None marks mark b ∙ ap (add_last mark) pieces ∙ add_last_is done current mark

closed_push : (done : List (List Mark)) (current : List Mark) (mark : Mark) → closed (done ++ current ∷ (mark ∷ []) ∷ []) ≡ closed (done ++ current ∷ []) ++ record { marks = current; close = mark.at } ∷ []
closed_push [] current mark = refl
closed_push (piece ∷ []) current mark = refl
closed_push (piece ∷ next ∷ done) current mark = ap (λ segments. record { marks = piece; close = start_of next } ∷ segments) (closed_push (next ∷ done) current mark)

-- a boundary closes the last piece, where that is not the first
pub segments_close : (code : Code) (marks : List Mark) (mark : Mark) (piece : List Mark) (done : List (List Mark)) (current : List Mark) → code.begins_minute (last_or None marks) mark ≡ true → cut code None marks ≡ (piece ∷ done) ++ current ∷ [] →
    segments_by code (marks ++ mark ∷ []) ≡ segments_by code marks ++ record { marks = current; close = mark.at } ∷ []
segments_close code marks mark piece done current b pieces =
    ap (λ ps. closed (drop 1 ps)) (cut_boundary code None marks mark b)
    ∙ rw pieces (ap closed (append_assoc done (current ∷ []) ((mark ∷ []) ∷ [])) ∙ closed_push done current mark)

pub segments_open : (code : Code) (marks : List Mark) (mark : Mark) (current : List Mark) → code.begins_minute (last_or None marks) mark ≡ true → cut code None marks ≡ current ∷ [] →
    segments_by code (marks ++ mark ∷ []) ≡ segments_by code marks
segments_open code marks mark current b pieces = ap (λ ps. closed (drop 1 ps)) (cut_boundary code None marks mark b) ∙ rw pieces refl

closed_same : (done : List (List Mark)) (a b : List Mark) → start_of a ≡ start_of b → closed (done ++ a ∷ []) ≡ closed (done ++ b ∷ [])
closed_same [] a b e = refl
closed_same (piece ∷ []) a b e = ap (λ (at : ℕ). record { marks = piece; close = at } ∷ []) e
closed_same (piece ∷ next ∷ done) a b e = ap (λ segments. record { marks = piece; close = start_of next } ∷ segments) (closed_same (next ∷ done) a b e)

start_same : (current : List Mark) (mark last : Mark) → last_or None current ≡ Some last → start_of (current ++ mark ∷ []) ≡ start_of current
start_same [] mark last e = cc
start_same (x ∷ xs) mark last e = refl

-- a mark that goes on leaves the segments; the last piece has a mark where it is not the first one
pub segments_same : (code : Code) (marks : List Mark) (mark : Mark) (done : List (List Mark)) (current : List Mark) → code.begins_minute (last_or None marks) mark ≡ false → cut code None marks ≡ done ++ current ∷ [] → last_or None current ≡ last_or None marks →
    segments_by code (marks ++ mark ∷ []) ≡ segments_by code marks
segments_same code marks mark [] current b pieces ends = rw (cut_goes_on code marks mark [] current b pieces, pieces) refl
segments_same code [] mark (piece ∷ done) current b pieces ends = absurd (one_piece piece done current pieces)
  where
    one_piece : (piece : List Mark) (done : List (List Mark)) (current : List Mark) → ◌≡◌ {A = List (List Mark)} ([] ∷ []) ((piece ∷ done) ++ current ∷ []) → ⊥
    one_piece piece [] current e = cc
    one_piece piece (next ∷ done) current e = cc
segments_same code (x ∷ xs) mark (piece ∷ done) current b pieces ends =
    let last = some_last x xs in
    rw (cut_goes_on code (x ∷ xs) mark (piece ∷ done) current b pieces, pieces) (closed_same done (current ++ mark ∷ []) current (start_same current mark last.0 (ends ∙ last.1)))
  where
    some_last : (x : Mark) (xs : List Mark) → (last : Mark) × (last_or (Some x) xs ≡ Some last)
    some_last x [] = (x, refl)
    some_last x (y ∷ ys) = some_last y ys
