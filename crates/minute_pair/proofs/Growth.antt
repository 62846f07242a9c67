-- The segments of marks are the first segments of any longer list of marks.
use Rattle.std.proofs.Common.{◌≡◌, true, None, List, [], ◌∷◌, ◌++◌, refl, ap, sym, ◌∙◌, inl, inr, append_assoc}
use Rattle.std.specs.List.{last_or}
use Rattle.std.proofs.lemmas.Bool.{cases_Bool}
use Rattle.std.proofs.lemmas.List.{append-nil}
use Rattle.minute_pair.specs.Segments.{Segment, cut, segments_by}
use Rattle.tick_units.specs.declared.marks.Mark.{Mark}
use Rattle.frame_rules.specs.Codes.{Code}
use Rattle.minute_pair.proofs.Pieces.{cut_boundary, cut_goes_on, segments_close, segments_open, segments_same}
use Rattle.frame_rules.proofs.AddingLaws.{last_push}

-- the pieces of marks, of which there is a last one
record Ends (code : Code) (marks : List Mark) : Type 0 where
  pub done : List (List Mark)
  pub current : List Mark
  pub pieces : cut code None marks ≡ done ++ current ∷ []
  pub ends : last_or None current ≡ last_or None marks

ends_on : (code : Code) (marks : List Mark) (mark : Mark) → Ends code marks → Ends code (marks ++ mark ∷ [])
ends_on code marks mark h = elim (cases_Bool (code.begins_minute (last_or None marks) mark)) [
  | inl boundary ↦ record {
    done = h.done ++ h.current ∷ [];
    current = mark ∷ [];
    pieces = cut_boundary code None marks mark boundary ∙ ap (λ ps. ps ++ (mark ∷ []) ∷ []) h.pieces;
    ends = sym (last_push None marks mark);
  }
  | inr goes_on ↦ record {
    done = h.done;
    current = h.current ++ mark ∷ [];
    pieces = cut_goes_on code marks mark h.done h.current goes_on h.pieces;
    ends = last_push None h.current mark ∙ sym (last_push None marks mark);
  }
]

closes : (code : Code) (marks : List Mark) (mark : Mark) (done : List (List Mark)) (current : List Mark) → code.begins_minute (last_or None marks) mark ≡ true → cut code None marks ≡ done ++ current ∷ [] →
    (more : List Segment) × (segments_by code (marks ++ mark ∷ []) ≡ segments_by code marks ++ more)
closes code marks mark [] current boundary pieces = ([], segments_open code marks mark current boundary pieces ∙ sym (append-nil (segments_by code marks)))
closes code marks mark (piece ∷ done) current boundary pieces = (record { marks = current; close = mark.at } ∷ [], segments_close code marks mark piece done current boundary pieces)

grow_one : (code : Code) (marks : List Mark) (mark : Mark) → Ends code marks → (more : List Segment) × (segments_by code (marks ++ mark ∷ []) ≡ segments_by code marks ++ more)
grow_one code marks mark h = elim (cases_Bool (code.begins_minute (last_or None marks) mark)) [
  | inl boundary ↦ closes code marks mark h.done h.current boundary h.pieces
  | inr goes_on ↦ ([], segments_same code marks mark h.done h.current goes_on h.pieces h.ends ∙ sym (append-nil (segments_by code marks)))
]

grow_from : (code : Code) (marks more : List Mark) → Ends code marks → (segments : List Segment) × (segments_by code (marks ++ more) ≡ segments_by code marks ++ segments)
grow_from code marks [] h = ([], ap (segments_by code) (append-nil marks) ∙ sym (append-nil (segments_by code marks)))
grow_from code marks (mark ∷ more) h =
    let one = grow_one code marks mark h in
    let rest = grow_from code (marks ++ mark ∷ []) more (ends_on code marks mark h) in (
      one.0 ++ rest.0,
      ap (segments_by code) (sym (append_assoc marks (mark ∷ []) more)) ∙ rest.1 ∙ ap (λ (ss : List Segment). ss ++ rest.0) one.1 ∙ append_assoc (segments_by code marks) one.0 rest.0,
    )

ends_of : (code : Code) (prefix marks : List Mark) → Ends code prefix → Ends code (prefix ++ marks)
ends_of code prefix [] h = record { done = h.done; current = h.current; pieces = ap (cut code None) (append-nil prefix) ∙ h.pieces; ends = h.ends ∙ ap (last_or None) (sym (append-nil prefix)) }
ends_of code prefix (mark ∷ marks) h =
    let rest = ends_of code (prefix ++ mark ∷ []) marks (ends_on code prefix mark h) in
    let regroup = append_assoc prefix (mark ∷ []) marks in
    record { done = rest.done; current = rest.current; pieces = ap (cut code None) (sym regroup) ∙ rest.pieces; ends = rest.ends ∙ ap (last_or None) regroup }

pub segments_grow : (code : Code) (marks more : List Mark) → (segments : List Segment) × (segments_by code (marks ++ more) ≡ segments_by code marks ++ segments)
segments_grow code marks more = grow_from code marks more (ends_of code [] marks (record { done = []; current = []; pieces = refl; ends = refl }))
