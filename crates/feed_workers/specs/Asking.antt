-- One hearing of a round at a time: scaffolding for the proof of a poller's worker, which no public clause needs.
use Rattle.std.specs.Prelude.{◌≡◌, ℕ, true, false, List, [], ◌∷◌, ◌++◌, All, length}
use Rattle.outside_traits.specs.States.{NetEvent, Adds}
use Rattle.outside_traits.specs.States.NetEvent.{Ended}
use Rattle.outside_traits.specs.Faults.{RoseByOne}
use Rattle.poll_core.specs.Polling.{HasPolled}
use Rattle.poll_core.specs.declared.poll.Poll.{Poll}
use Rattle.feed_workers.specs.Keeping.{Keeps}
use Rattle.feed_workers.specs.Polling.{Session}
use Rattle.feed_workers.specs.Polls.{Round, events_in, asking, AreWhole, IsOpen, GoOn, due_link, history_of, ends_round, is_hearing, is_ended}
use Rattle.feed_workers.specs.declared.poller.HearingEnd.{HearingEnd}
use Rattle.feed_workers.specs.declared.poller.HearingEnd.TheVariants.{On, Over, End, Fault}

-- the link's events are these, the poller stands for their exchanges, and the entries that are due for them were kept
pub record HasDone (poll : Poll) (session : Session) (events : List NetEvent) : Type 0 where
  pub reported : Adds session.begun.events session.link.events events
  pub polled : HasPolled poll session.server (history_of events)
  pub kept : Keeps session.share (due_link session.share.begun.number session.server events)
  pub no_fault : session.link.faults ≡ session.begun.faults

-- this many whole rounds were made, after each of which another may come
pub record Polled (poll : Poll) (session : Session) (count : ℕ) : Type 0 where
  pub made : List Round
  pub done : HasDone poll session (events_in session.server made)
  pub whole : AreWhole session.server [] made
  pub size : length made ≡ count
  pub open_all : All IsOpen made

-- what one hearing after these events was: one after which the round goes on, one that ends it, the link's end, or a fault
abbrev pub ReceivesOne : Poll → Session → List NetEvent → HearingEnd → Type 0
ReceivesOne poll session before On =
    (event : NetEvent) × (is_hearing event ≡ true) × (ends_round session.server before event ≡ false) × (is_ended event ≡ false) × HasDone poll session (before ++ event ∷ [])
ReceivesOne poll session before Over =
    (event : NetEvent) × (is_hearing event ≡ true) × (ends_round session.server before event ≡ true) × (is_ended event ≡ false) × HasDone poll session (before ++ event ∷ [])
ReceivesOne poll session before End = HasDone poll session (before ++ Ended ∷ [])
ReceivesOne poll session before Fault =
    Adds session.begun.events session.link.events before × RoseByOne session.begun.faults session.link.faults × Keeps session.share (due_link session.share.begun.number session.server before)

-- in a round after this many others: its request was sent, and this many hearings were made, none of which ends it
pub record InRound (poll : Poll) (session : Session) (count heard : ℕ) : Type 0 where
  pub made : List Round
  pub whole : AreWhole session.server [] made
  pub size : length made ≡ count
  pub open_all : All IsOpen made
  pub moment : ℕ
  pub earlier : List NetEvent
  pub goes : GoOn session.server (events_in session.server made ++ asking session.server moment) earlier
  pub received_is : length earlier ≡ heard
  pub done : HasDone poll session (events_in session.server made ++ (asking session.server moment ++ earlier))
