-- The second marks that a list of reductions gives, by a code plan (PTB on DCF77, NPL on MSF, NIST SP 432 on WWVB).
use Rattle.std.specs.Prelude.{List, [], ◌∷◌, map, if◌then◌else◌}
use Rattle.tick_units.specs.declared.marks.Mark.{Mark}
use Rattle.tick_units.specs.declared.marks.Plan.{Plan}
use Rattle.tick_units.specs.declared.marks.Reduction.{Reduction}
use Rattle.tick_units.specs.declared.marks.Symbol.TheVariants.{OnlyB}
use Rattle.frame_rules.specs.Codes.{Code}
use Rattle.code_plans.specs.Codes.{code_of}

-- the mark of a reduction by itself
abbrev pub mark_by : Code → Reduction → Mark
mark_by code r = record { at = r.at; symbol = code.symbol r.width }

abbrev pub joined_mark : Reduction → Mark
joined_mark r = record { at = r.at; symbol = OnlyB }

-- where a second may have two reductions (NPL: one in which only bit B is 1), two neighbours that are its parts join to one mark,
-- where the first of them does not join with the one before it. A mark whose last part is the last reduction is left out.
abbrev pub joined_marks : Code → List Reduction → List Mark
joined_marks code [] = []
joined_marks code (r ∷ []) = []
joined_marks code (r ∷ next ∷ []) = if code.are_parts r next then [] else mark_by code r ∷ []
joined_marks code (r ∷ next ∷ third ∷ more) = if code.are_parts r next
    then joined_mark r ∷ joined_marks code (third ∷ more)
    else mark_by code r ∷ joined_marks code (next ∷ third ∷ more)

-- elsewhere each reduction is one mark
abbrev pub marks_by : Code → List Reduction → List Mark
marks_by code reductions = if code.has_parts then joined_marks code reductions else map (mark_by code) reductions

abbrev pub marks_of : Plan → List Reduction → List Mark
marks_of plan reductions = marks_by (code_of plan) reductions
