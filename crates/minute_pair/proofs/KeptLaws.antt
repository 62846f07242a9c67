-- What a pairing keeps, with one more mark.
use Rattle.std.proofs.Common.{◌≡◌, Bool, true, false, ltb, Option, None, List, [], ◌∷◌, ◌++◌, length, refl, ap, sym, ◌∙◌, arith}
use Rattle.std.specs.List.{last_or}
use Rattle.std.proofs.lemmas.Bool.{lt-ltb, ltb-false}
use Rattle.std.proofs.lemmas.List.{length-append}
use Rattle.frame_rules.proofs.AddingLaws.{last_push}
use Rattle.minute_pair.specs.Segments.{cut, segments_by}
use Rattle.tick_units.specs.declared.marks.Mark.{Mark}
use Rattle.frame_rules.specs.Codes.{Code}
use Rattle.frame_rules.specs.Words.{HasMarks}
use Rattle.minute_pair.specs.declared.minutes.PairingOf.{PairingOf}
use Rattle.minute_pair.specs.Keeping.{HasKept}
use Rattle.minute_pair.proofs.Pieces.{cut_boundary, cut_goes_on, segments_close, segments_open, segments_same}

-- whether the next mark begins a minute, by the last mark of the piece
pub begins_is : {C : Type 0} (k : PairingOf C) (code : Code) (marks : List Mark) (mark : Mark) (before : Option Mark) (is_it : Bool) → (h : HasKept code k marks) → before ≡ last_or None h.current → is_it ≡ code.begins_minute before mark → code.begins_minute (last_or None marks) mark ≡ is_it
begins_is k code marks mark before is_it h last e = sym (e ∙ ap (λ (o : Option Mark). code.begins_minute o mark) (last ∙ h.ends))

pub heard_added : {C : Type 0} (k now : PairingOf C) (code : Code) (mark : Mark) (marks : List Mark) → code.begins_minute (last_or None marks) mark ≡ false → (h : HasKept code k marks) → HasMarks now.frame (h.current ++ mark ∷ []) → now.is_open ≡ k.is_open → HasKept code now (marks ++ mark ∷ [])
heard_added k now code mark marks b h read same = record {
  done = h.done;
  current = h.current ++ mark ∷ [];
  pieces = cut_goes_on code marks mark h.done h.current b h.pieces;
  ends = last_push None h.current mark ∙ sym (last_push None marks mark);
  opened = same ∙ h.opened;
  read = read;
}

pub heard_begun : {C : Type 0} (k now : PairingOf C) (code : Code) (mark : Mark) (marks : List Mark) → code.begins_minute (last_or None marks) mark ≡ true → HasKept code k marks → HasMarks now.frame (mark ∷ []) → now.is_open ≡ true → HasKept code now (marks ++ mark ∷ [])
heard_begun k now code mark marks b h read opens = record {
  done = h.done ++ h.current ∷ [];
  current = mark ∷ [];
  pieces = cut_boundary code None marks mark b ∙ ap (λ ps. ps ++ (mark ∷ []) ∷ []) h.pieces;
  ends = sym (last_push None marks mark);
  opened = opens ∙ sym (lt-ltb 0 (length (h.done ++ h.current ∷ [])) (omega (arith, length-append h.done (h.current ∷ []))));
  read = read;
}

pub same_added : {C : Type 0} (k : PairingOf C) (code : Code) (mark : Mark) (marks : List Mark) → code.begins_minute (last_or None marks) mark ≡ false → HasKept code k marks → segments_by code (marks ++ mark ∷ []) ≡ segments_by code marks
same_added k code mark marks b h = segments_same code marks mark h.done h.current b h.pieces h.ends

none_done : (done : List (List Mark)) → false ≡ ltb 0 (length done) → done ≡ []
none_done [] e = refl
none_done (d ∷ ds) e = let none = ltb-false 0 (length (d ∷ ds)) (sym e) in absurd (omega arith)

pub same_opened : {C : Type 0} (k : PairingOf C) (code : Code) (mark : Mark) (marks : List Mark) → code.begins_minute (last_or None marks) mark ≡ true → k.is_open ≡ false → HasKept code k marks → segments_by code (marks ++ mark ∷ []) ≡ segments_by code marks
same_opened k code mark marks b shut h =
    let none = none_done h.done (sym shut ∙ h.opened) in
    segments_open code marks mark h.current b (h.pieces ∙ ap (λ ps. ps ++ h.current ∷ []) none)

closes_after : (code : Code) (marks : List Mark) (mark : Mark) (done : List (List Mark)) (current : List Mark) → code.begins_minute (last_or None marks) mark ≡ true → cut code None marks ≡ done ++ current ∷ [] → true ≡ ltb 0 (length done) →
    segments_by code (marks ++ mark ∷ []) ≡ segments_by code marks ++ record { marks = current; close = mark.at } ∷ []
closes_after code marks mark [] current b pieces some = cc
closes_after code marks mark (piece ∷ done) current b pieces some = segments_close code marks mark piece done current b pieces

pub segments_closed : {C : Type 0} (k : PairingOf C) (code : Code) (mark : Mark) (marks : List Mark) → code.begins_minute (last_or None marks) mark ≡ true → k.is_open ≡ true → (h : HasKept code k marks) →
    segments_by code (marks ++ mark ∷ []) ≡ segments_by code marks ++ record { marks = h.current; close = mark.at } ∷ []
segments_closed k code mark marks b is_open h = closes_after code marks mark h.done h.current b h.pieces (sym is_open ∙ h.opened)
