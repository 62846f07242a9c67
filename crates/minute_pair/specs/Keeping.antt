-- Scaffolding, which contracts use: the part of a pairing's state that cuts its marks into segments.
use Rattle.std.specs.Prelude.{◌≡◌, nat_lt, None, List, [], ◌∷◌, ◌++◌, length}
use Rattle.std.specs.List.{last_or}
use Rattle.frame_rules.specs.Codes.{Code}
use Rattle.frame_rules.specs.Words.{HasMarks}
use Rattle.minute_pair.specs.Segments.{cut}
use Rattle.tick_units.specs.declared.marks.Mark.{Mark}
use Rattle.minute_pair.specs.declared.minutes.PairingOf.{PairingOf}

-- of the pieces of the marks the frame has read the last, and it is an open segment where there are others
pub record HasKept {C : Type 0} (code : Code) (p : PairingOf C) (marks : List Mark) : Type 0 where
  pub done : List (List Mark)
  pub current : List Mark
  pub pieces : cut code None marks ≡ done ++ current ∷ []
  pub ends : last_or None current ≡ last_or None marks
  pub opened : p.is_open ≡ nat_lt 0 (length done)
  pub read : HasMarks p.frame current
