-- The segments of a list of marks: each runs from a mark that begins a minute, by the code plan, up to the next such mark.
use Rattle.std.specs.Prelude.{ℕ, Option, None, Some, List, [], ◌∷◌, drop, if◌then◌else◌}
use Rattle.std.specs.List.{onto_first}
use Rattle.tick_units.specs.declared.marks.Mark.{Mark}
use Rattle.tick_units.specs.declared.marks.Plan.{Plan}
use Rattle.frame_rules.specs.Codes.{Code}
use Rattle.code_plans.specs.Codes.{code_of}

-- the marks from one that begins a minute up to the next that does, and the start of that one
pub record Segment : Type 0 where
  pub marks : List Mark
  pub close : ℕ

-- the marks after this one, cut before each mark that begins a minute; the first piece goes on from there, and may be empty
abbrev pub cut : Code → Option Mark → List Mark → List (List Mark)
cut code before [] = [] ∷ []
cut code before (mark ∷ marks) = if code.begins_minute before mark
    then [] ∷ onto_first mark (cut code (Some mark) marks)
    else onto_first mark (cut code (Some mark) marks)

abbrev pub start_of : List Mark → ℕ
start_of [] = 0
start_of (mark ∷ marks) = mark.at

-- each piece except the last, with the start of the piece after it
abbrev pub closed : List (List Mark) → List Segment
closed [] = []
closed (piece ∷ []) = []
closed (piece ∷ next ∷ pieces) = record { marks = piece; close = start_of next } ∷ closed (next ∷ pieces)

-- the marks before the first that begins a minute are in no segment
abbrev pub segments_by : Code → List Mark → List Segment
segments_by code marks = closed (drop 1 (cut code None marks))

abbrev pub segments_of : Plan → List Mark → List Segment
segments_of plan marks = segments_by (code_of plan) marks
