-- A command that ends since a file or link could not be opened. All of it is this project's own.
use Rattle.std.specs.Prelude.{Some, List}
use Rattle.outside_traits.specs.Openings.{Wanted, Visit, MakesOpenings}
use Rattle.command_ends.specs.Effects.{Effect, EndsWith}
use Rattle.command_ends.specs.Endings.{status_of, status_line}
use Rattle.command_ends.specs.declared.ending.Ending.TheVariants.{NotOpened}
use Rattle.command_ends.specs.declared.ending.subject.Subject.{Subject}

-- it is the last one, and only the status line is written
pub record CannotOpen (needed : List Wanted) (visits : List Visit) (wanted : Wanted) (what : Subject) (effect : Effect) : Type 0 where
  pub opens : MakesOpenings needed effect.outside effect.outside_now visits (Some wanted)
  pub written : EndsWith effect (status_of (NotOpened what)) (status_line (NotOpened what))
