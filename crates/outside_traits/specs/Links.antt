-- What the calls of a link do. What it received, gave or sent stands at the end of its events. No moment or arrival lies below an
-- earlier one.
use Rattle.std.specs.Prelude.{◌≡◌, ◌≤◌, ℕ, List, [], ◌∷◌, take, Result, MatchResult}
use Rattle.outside_traits.specs.States.{NetEvent, LinkState, Adds}
use Rattle.outside_traits.specs.States.NetEvent.{Came, Silent, Ended, Timed, Went}
use Rattle.outside_traits.specs.declared.outside.Address.{Address}
use Rattle.outside_traits.specs.declared.link.Hearing.{Hearing}
use Rattle.outside_traits.specs.declared.link.Hearing.TheVariants.{Datagram, Quiet, End}

-- a hearing as an event; a datagram's bytes stand at the beginning of the piece
abbrev pub event_of : Hearing → List ℕ → NetEvent
event_of (Datagram arrival) piece = Came arrival.from arrival.at (take arrival.length piece)
event_of Quiet piece = Silent
event_of End piece = Ended

-- a datagram has at most 1024 bytes, and comes no earlier than the last moment or arrival; the other hearings have no moment
abbrev pub IsTimely : ℕ → ℕ → Hearing → Type 0
IsTimely latest latest_now (Datagram arrival) = (latest ≤ arrival.at) × (latest_now ≡ arrival.at) × (arrival.length ≤ 1024)
IsTimely latest latest_now Quiet = latest_now ≡ latest
IsTimely latest latest_now End = latest_now ≡ latest

-- one event more, by what the link received
pub record ReceivesNext (before now : LinkState) (hearing : Hearing) (piece : List ℕ) : Type 0 where
  pub event : Adds before.events now.events (event_of hearing piece ∷ [])
  pub timely : IsTimely before.latest now.latest hearing

-- no event
pub record IsDeaf (before now : LinkState) : Type 0 where
  pub event : Adds before.events now.events []
  pub same : now.latest ≡ before.latest

-- it gave a moment
pub record ReportsMoment (before now : LinkState) (moment : ℕ) : Type 0 where
  pub event : Adds before.events now.events (Timed moment ∷ [])
  pub timely : before.latest ≤ moment
  pub latest : now.latest ≡ moment
  pub no_fault : now.faults ≡ before.faults

-- a datagram was sent, where the call did not fail
pub record Sends {T E : Type 0} (before now : LinkState) (result : Result T E) (to : Address) (bytes : List ℕ) : Type 0 where
  pub event : MatchResult result (λ _. Adds before.events now.events (Went to bytes ∷ [])) (λ _. Adds before.events now.events [])
  pub same : now.latest ≡ before.latest
