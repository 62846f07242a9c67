-- Scaffolding: what each worker does.
use Rattle.std.specs.Prelude.{◌≡◌, ◌≢◌, ℕ, [], Some}
use Rattle.atomic_table.specs.Seated.{TableId}
use Rattle.outside_traits.specs.States.{SourceState, LinkState}
use Rattle.feed_workers.specs.Keeping.{IsOfFeed}
use Rattle.feed_workers.specs.Leaps.{RunsLeap, leap_intake}
use Rattle.feed_workers.specs.Logs.{RunsLog, log_intake}
use Rattle.feed_workers.specs.Polling.{RunsPolls, session_of}
use Rattle.radio_receiver.specs.Decoding.{HasDecoded, IsReady, feed_of}
use Rattle.page_cell.specs.Passes.{claim_of}
use Rattle.radio_receiver.specs.Boxes.{Boxed}
use Rattle.radio_receiver.specs.Histories.{History}
use Rattle.responder.specs.Desks.{IsSame, desk_of}
use Rattle.responder.specs.Serving.{Serves}
use Rattle.responder.specs.declared.served.End.TheVariants.{Count}
use Rattle.responder.specs.declared.served.Served.{Served}
use Rattle.station_crew.specs.declared.jobs.LeapJob.{LeapJob}
use Rattle.station_crew.specs.declared.jobs.PollJob.{PollJob}
use Rattle.station_crew.specs.declared.jobs.RadioJob.{RadioJob}
use Rattle.station_crew.specs.declared.jobs.ServeJob.{ServeJob}
use Rattle.tick_units.specs.declared.marks.Plan.{Plan}

-- a radio's worker that decodes the log of its pass's feed and has decoded nothing yet; its receiver's history is that of the start
pub record IsAssigned {L X : Type 0} {F : X → Type 0} (stands : Boxed X F → History → Type 0) (least : Boxed X F → ℕ) (receiver : Boxed X F) (j : RadioJob L X F) : Type 0 where
  pub ready : IsReady least j.worker.decoder
  pub feed : feed_of j.worker.decoder ≡ (claim_of j.worker.pass.view).number
  pub start : (plan : Plan) (delay : ℕ) → stands receiver (record { plan = plan; delay = delay; reductions = [] })
      → HasDecoded stands j.worker.decoder (claim_of j.worker.pass.view).number plan delay []

-- a radio's worker with a pass of this cell, for one of a number of sources
pub record MayReceive {L X : Type 0} {F : X → Type 0} (least : Boxed X F → ℕ) (table : TableId) (sources : ℕ) (j : RadioJob L X F) : Type 0 where
  pub ready : IsReady least j.worker.decoder
  pub pass : IsOfFeed table sources (feed_of j.worker.decoder) j.worker.pass
  pub feed : feed_of j.worker.decoder ≡ (claim_of j.worker.pass.view).number

-- a server's worker with a pass of this cell, for one of a number of sources
pub record MayPoll {T : Type 0} (table : TableId) (sources : ℕ) (j : PollJob T) : Type 0 where
  pub pass : IsOfFeed table sources (claim_of j.worker.pass.view).number j.worker.pass

-- a leap second file's worker with a pass of this cell, for one of a number of sources
pub record MayNotice {L : Type 0} (table : TableId) (sources : ℕ) (j : LeapJob L) : Type 0 where
  pub pass : IsOfFeed table sources (claim_of j.worker.pass.view).number j.worker.pass

-- a radio's worker has run
pub record RadioRan {L X : Type 0} {F : X → Type 0} (stands : Boxed X F → History → Type 0) (state : L → SourceState) (opening : L → ℕ) (limit : ℕ) (a b : RadioJob L X F) : Type 0 where
  pub log : opening b.worker.log ≡ opening a.worker.log
  pub table : b.worker.pass.table ≡ a.worker.pass.table
  pub feed : (claim_of b.worker.pass.view).number ≡ (claim_of a.worker.pass.view).number
  pub runs : (plan : Plan) (delay : ℕ) → HasDecoded stands a.worker.decoder (claim_of a.worker.pass.view).number plan delay []
      → RunsLog plan delay (log_intake state limit a.worker b.worker b.work) b.work.end

-- a server's worker has run
pub record PollRan {T : Type 0} (state : T → LinkState) (opening : T → ℕ) (limit : ℕ) (a b : PollJob T) : Type 0 where
  pub link : opening b.worker.link ≡ opening a.worker.link
  pub table : b.worker.pass.table ≡ a.worker.pass.table
  pub feed : (claim_of b.worker.pass.view).number ≡ (claim_of a.worker.pass.view).number
  pub runs : RunsPolls (session_of state limit a.worker b.worker b.work) a.worker.polls b.work.end

-- a leap second file's worker has run
pub record LeapRan {L : Type 0} (state : L → SourceState) (opening : L → ℕ) (limit : ℕ) (a b : LeapJob L) : Type 0 where
  pub log : opening b.worker.log ≡ opening a.worker.log
  pub table : b.worker.pass.table ≡ a.worker.pass.table
  pub feed : (claim_of b.worker.pass.view).number ≡ (claim_of a.worker.pass.view).number
  pub runs : RunsLeap a.worker.start (leap_intake state limit a.worker b.worker b.work) b.work.end

-- a responder's first phase
pub record HasServed {T : Type 0} (state : T → LinkState) (opening : T → ℕ) (budget : ℕ) (a b : ServeJob T) : Type 0 where
  pub same : IsSame opening a.responder b.responder
  pub serves : Serves (desk_of state a.responder) (desk_of state b.responder) budget b.work.first
  pub second : b.work.second ≡ a.work.second

-- a responder's second phase, where its first one made as many hearings as it was asked for
pub record HasServedAgain {T : Type 0} (state : T → LinkState) (opening : T → ℕ) (budget : ℕ) (a b : ServeJob T) : Type 0 where
  pub same : IsSame opening a.responder b.responder
  pub first : b.work.first ≡ a.work.first
  pub again : a.work.first.end ≡ Count → (served : Served) × (b.work.second ≡ Some served) × Serves (desk_of state a.responder) (desk_of state b.responder) budget served
  pub not : a.work.first.end ≢ Count → (b.work.second ≡ a.work.second) × (b.responder.link ≡ a.responder.link) × (b.responder.pass ≡ a.responder.pass)
