-- The one call of the program: which command its arguments ask for, the effect of that command, and when its status is 0.
use Rattle.std.specs.Prelude.{◌≡◌, ℕ, ◌≤◌, ◌⊎◌, List}
use Rattle.command_words.specs.Commands.{Asked, AskFor}
use Rattle.command_words.specs.Commands.Asked.{decode, drill, migrate, replay, serve}
use Rattle.outside_traits.specs.Faults.{Rose}
use Rattle.outside_traits.specs.Openings.{OutsideState}
use Rattle.feed_workers.specs.declared.crew.Orders.{Orders}
use Rattle.file_commands.specs.Decoding.{RunsDecode, HasGoodLog}
use Rattle.command_ends.specs.Effects.{Effect}
use Rattle.station_report.specs.Drilling.{Drills}
use Rattle.file_commands.specs.Migrating.{RunsMigrate, HasGoodJournal}
use Rattle.replay_command.specs.Replaying.{RunsReplay, HasGoodScript}
use Rattle.station_report.specs.Serving.{RunsServe, HasGoodStation}
use Rattle.command_ends.specs.Unopened.{Refuses, Lacks}
use Rattle.command_ends.specs.declared.ending.status.Status.{Status}
use Rattle.command_ends.specs.declared.ending.status.Status.TheVariants.{Done, Memory}

-- what is asked of a station: the most entries of its journal, and the hearings of each link while its feeds run and after
abbrev pub orders_of : (during after limit : ℕ) → Orders
orders_of during after limit = record { limit = limit; budget = record { during = during; after = after } }

-- the effects that a command may have, once there is enough memory for it
abbrev pub Runs : Asked → Effect → Type 0
Runs (decode plan log) effect = RunsDecode plan log effect
Runs (replay station script limit) effect = RunsReplay station script limit effect
Runs (drill seed limit) effect = Drills seed limit effect
Runs (migrate station journal) effect = RunsMigrate station journal effect
Runs (serve station during after limit) effect = RunsServe station (orders_of during after limit) effect

-- all that a command opens was opened and given back, reported its bytes, and has no fault. A drill opens nothing; its journal
-- has room for what is due
abbrev pub IsFaultless : Asked → OutsideState → OutsideState → Type 0
IsFaultless (decode plan log) outside outside_now = HasGoodLog log outside outside_now
IsFaultless (replay station script limit) outside outside_now = HasGoodScript station script limit outside outside_now
IsFaultless (drill seed limit) outside outside_now = 4320 ≤ limit
IsFaultless (migrate station journal) outside outside_now = HasGoodJournal station journal outside outside_now
IsFaultless (serve station during after limit) outside outside_now = HasGoodStation station limit outside outside_now

-- then all is done. A command to serve takes memory once all is open, and may find too little then; a drill may find too little
-- at any time
abbrev pub IsComplete : Asked → Status → Type 0
IsComplete (decode plan log) result = result ≡ Done
IsComplete (replay station script limit) result = result ≡ Done
IsComplete (drill seed limit) result = (result ≡ Done) ⊎ (result ≡ Memory)
IsComplete (migrate station journal) result = result ≡ Done
IsComplete (serve station during after limit) result = (result ≡ Done) ⊎ (result ≡ Memory)

-- all that the one call promises for these arguments. `run_station` says it clause by clause, and so does each caller that hands
-- its arguments on
pub record IsRun (words : List (List ℕ)) (effect : Effect) : Type 0 where
  pub refused : ((asked : Asked) → AskFor words asked → ⊥) → Refuses effect ⊎ Lacks effect
  pub runs : (asked : Asked) → AskFor words asked → Lacks effect ⊎ Runs asked effect
  pub complete : (asked : Asked) → AskFor words asked → IsFaultless asked effect.outside effect.outside_now → (Rose effect.out.faults effect.out_now.faults → ⊥) → IsComplete asked effect.status
