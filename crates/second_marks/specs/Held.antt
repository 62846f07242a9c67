-- Scaffolding, which contracts use: the reductions of the unfinished mark, which a marker holds back where a second may have two
-- (MSF).
use Rattle.std.specs.Prelude.{Option, None, Some, List, [], ◌∷◌, if◌then◌else◌}
use Rattle.tick_units.specs.declared.marks.Mark.{Mark}
use Rattle.tick_units.specs.declared.marks.Reduction.{Reduction}
use Rattle.tick_units.specs.declared.marks.Symbol.TheVariants.{OnlyB}
use Rattle.frame_rules.specs.Codes.{Code}
use Rattle.second_marks.specs.Marks.{mark_by}
use Rattle.second_marks.specs.declared.held.Held.{Held}
use Rattle.second_marks.specs.declared.held.Held.TheVariants.{Nothing, Alone, Joined}

-- the last reduction, or the last two where they are one mark
abbrev pub held_of : Code → List Reduction → Held
held_of code [] = Nothing
held_of code (r ∷ []) = Alone r
held_of code (r ∷ next ∷ []) = if code.are_parts r next then Joined r.at else Alone next
held_of code (r ∷ next ∷ third ∷ more) = if code.are_parts r next
    then held_of code (third ∷ more)
    else held_of code (next ∷ third ∷ more)

abbrev pub held_after : Code → Held → Reduction → Held
held_after code Nothing r = Alone r
held_after code (Alone before) r = if code.are_parts before r then Joined before.at else Alone r
held_after code (Joined at) r = Alone r

abbrev pub mark_before : Code → Held → Reduction → Option Mark
mark_before code Nothing r = None
mark_before code (Alone before) r = if code.are_parts before r then None else Some (mark_by code before)
mark_before code (Joined at) r = Some (record { at = at; symbol = OnlyB })
