-- Scaffolding: what responders learn between the phases.
use Rattle.std.specs.Prelude.{◌≡◌, ◌≤◌, ℕ, List, All, length}
use Rattle.outside_traits.specs.States.{LinkState}
use Rattle.page_cell.specs.Passes.{Known, KnownReader, claim_of}
use Rattle.feed_workers.specs.declared.crew.Budget.{Budget}
use Rattle.station_crew.specs.Jobs.{HasServed, HasServedAgain}
use Rattle.station_crew.specs.declared.jobs.ServeJob.{ServeJob}

-- the pass has seen no less, and is otherwise as it was
pub record HasLearnt (a b : KnownReader) : Type 0 where
  pub table : b.table ≡ a.table
  pub seen : a.view.seen ≤ b.view.seen
  pub readings : b.view.readings ≡ a.view.readings
  pub watch : b.view.watch ≡ a.view.watch

-- the pass has seen as much as each of these feeds
abbrev pub HasSeenAll : List Known → KnownReader → Type 0
HasSeenAll feeds r = All (λ f. length (claim_of f.view).seen ≤ r.view.seen) feeds

-- the responder has seen what each of these feeds had seen
pub record WasInformed {T : Type 0} (feeds : List Known) (a b : ServeJob T) : Type 0 where
  pub link : b.responder.link ≡ a.responder.link
  pub work : b.work ≡ a.work
  pub number : b.responder.number ≡ a.responder.number
  pub keys : b.responder.keys ≡ a.responder.keys
  pub clients : b.responder.clients ≡ a.responder.clients
  pub learnt : HasLearnt a.responder.pass b.responder.pass
  pub seen : HasSeenAll feeds b.responder.pass

-- both phases of a responder, and what it learnt between them
pub record HasServedTwice {T : Type 0} (state : T → LinkState) (opening : T → ℕ) (budget : Budget) (feeds : List Known) (a b : ServeJob T) : Type 0 where
  pub between : ServeJob T
  pub informed : ServeJob T
  pub served : HasServed state opening budget.during a between
  pub learnt : WasInformed feeds between informed
  pub again : HasServedAgain state opening budget.after informed b
