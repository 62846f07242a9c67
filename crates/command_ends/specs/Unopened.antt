-- A command that ends before it opens anything: its arguments are wrong, or there is no memory. All of it is this project's own.
use Rattle.std.specs.Prelude.{◌≡◌}
use Rattle.command_ends.specs.Effects.{Effect, EndsWith}
use Rattle.command_ends.specs.Endings.{status_of, status_line}
use Rattle.command_ends.specs.declared.ending.Ending.{Ending}
use Rattle.command_ends.specs.declared.ending.Ending.TheVariants.{WrongWords, NoMemory}

-- nothing is opened, and only the status line is written
pub record EndsUnopened (ending : Ending) (effect : Effect) : Type 0 where
  pub unchanged : effect.outside_now ≡ effect.outside
  pub written : EndsWith effect (status_of ending) (status_line ending)

-- arguments that ask for nothing
abbrev pub Refuses : Effect → Type 0
Refuses = EndsUnopened WrongWords

-- there was not enough memory, before anything was opened
abbrev pub Lacks : Effect → Type 0
Lacks = EndsUnopened NoMemory
