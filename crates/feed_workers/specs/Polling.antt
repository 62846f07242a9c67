-- What a poller's worker does, and why it ends. All of it is this project's own.
use Rattle.std.specs.Prelude.{◌≡◌, ℕ, ◌<◌, List, [], ◌∷◌, ◌++◌, All, length}
use Rattle.outside_traits.specs.Faults.{RoseByOne}
use Rattle.outside_traits.specs.States.{NetEvent, LinkState, Adds}
use Rattle.outside_traits.specs.States.NetEvent.{Ended}
use Rattle.outside_traits.specs.declared.outside.Address.{Address}
use Rattle.page_cell.specs.Passes.{claim_of}
use Rattle.feed_workers.specs.Keeping.{Keeps, Share, share_of}
use Rattle.feed_workers.specs.Polls.{Round, events_in, AreWhole, IsOpen, IsCut, due_link}
use Rattle.feed_workers.specs.declared.poller.PollWorker.{PollWorker}
use Rattle.feed_workers.specs.declared.work.PollEnd.{PollEnd}
use Rattle.feed_workers.specs.declared.work.PollEnd.TheVariants.{Rounds, LinkEnd, LinkFault}
use Rattle.feed_workers.specs.declared.work.PollWork.{PollWork}

-- These events were those of this many polls, and they ended so. Rounds: as many whole rounds as polls, none of which received the link's
-- end. LinkEnd: no more whole rounds than polls, of which the last one, and no other, received it. LinkFault: fewer whole rounds than polls,
-- and then one that a fault cut; one call of the link failed
abbrev pub EndsPolls : Address → ℕ → ℕ → ℕ → List NetEvent → PollEnd → Type 0
EndsPolls server polls faults faults_now events Rounds =
    (rounds : List Round) × (events ≡ events_in server rounds) × AreWhole server [] rounds × (length rounds ≡ polls) × All IsOpen rounds × (faults_now ≡ faults)
EndsPolls server polls faults faults_now events LinkEnd =
    (rounds : List Round) × (last : Round) × (events ≡ events_in server (rounds ++ last ∷ [])) × AreWhole server [] (rounds ++ last ∷ []) × (length rounds < polls)
    × All IsOpen rounds × (last.last ≡ Ended) × (faults_now ≡ faults)
EndsPolls server polls faults faults_now events LinkFault =
    (rounds : List Round) × (cut : List NetEvent) × (events ≡ events_in server rounds ++ cut) × AreWhole server [] rounds × (length rounds < polls)
    × All IsOpen rounds × IsCut server (events_in server rounds) cut × RoseByOne faults faults_now

-- a worker's polls of a server: its link as it was when the worker began, and as it is now, and the feed's share of the journal
pub record Session : Type 0 where
  pub server : Address
  pub begun : LinkState
  pub link : LinkState
  pub share : Share

abbrev pub session_at : Address → LinkState → LinkState → Share → Session
session_at server begun link share = record { server = server; begun = begun; link = link; share = share }

-- those of a poller's worker, from before its run to after it
abbrev pub session_of : {L : Type 0} → (L → LinkState) → (limit : ℕ) → PollWorker L → PollWorker L → PollWork → Session
session_of state limit before now work =
    session_at before.server (state before.link) (state now.link) (share_of (claim_of before.pass.view) now.pass limit work.full)

-- what a poller's worker did: its link's events grew by those of its polls, and the entries that are due for them were kept
pub record RunsPolls (session : Session) (polls : ℕ) (end : PollEnd) : Type 0 where
  pub events : List NetEvent
  pub reported : Adds session.begun.events session.link.events events
  pub kept : Keeps session.share (due_link session.share.begun.number session.server events)
  pub ends : EndsPolls session.server polls session.begun.faults session.link.faults events end
