-- The sample or the refusal that each answer to a poller gives, by the whole history of its exchanges (RFC 5905, section 8).
use Rattle.std.specs.Prelude.{ℕ, Option, None, Some, unwrap_or, Result, Ok, Err, List, [], ◌∷◌, fold}
use Rattle.tick_units.specs.declared.sample.Sample.{Sample}
use Rattle.tick_units.specs.declared.stamp.Stamp.{Stamp}
use Rattle.ntp_packet.specs.Layout.{fields}
use Rattle.outside_traits.specs.declared.outside.Address.{Address}
use Rattle.poll_core.specs.Formulas.{sample_of}
use Rattle.poll_core.specs.Refusals.{table, first_refusal}
use Rattle.poll_core.specs.declared.refusal.PollRefusal.{PollRefusal}

-- a request made at a moment; a datagram that arrived at a moment from a sender
pub data Event : Type 0 where
  Asked : ℕ → Event
  Answered : ℕ → Address → List ℕ → Event

-- an event with what it came to: a request; an accepted answer, with its transmit timestamp; or a refused one
pub data Step : Type 0 where
  Request : ℕ → Step
  Accepted : Stamp → Step
  Refused : Step

-- the last request, where no accepted answer stands after it; the steps go back in time
abbrev pub outstanding_in : List Step → Option ℕ
outstanding_in [] = None
outstanding_in (Request moment ∷ before) = Some moment
outstanding_in (Accepted transmit ∷ before) = None
outstanding_in (Refused ∷ before) = outstanding_in before

-- the transmit timestamp of the last answer that was accepted
abbrev pub accepted_in : List Step → Option Stamp
accepted_in [] = None
accepted_in (Request moment ∷ before) = accepted_in before
accepted_in (Accepted transmit ∷ before) = Some transmit
accepted_in (Refused ∷ before) = accepted_in before

-- the refusal, or the sample where there is none
abbrev pub result_by : Option PollRefusal → Sample → Result Sample PollRefusal
result_by None sample = Ok sample
result_by (Some refusal) sample = Err refusal

-- the result of a datagram, by the outstanding request and the last accepted answer
abbrev pub judge_by : Address → Option ℕ → Option Stamp → ℕ → Address → List ℕ → Result Sample PollRefusal
judge_by server asked accepted at from bytes =
    result_by (first_refusal (table server asked accepted from bytes)) (sample_of server (unwrap_or asked 0) at (fields bytes))

abbrev pub step_by : List ℕ → Result Sample PollRefusal → Step
step_by bytes (Ok sample) = Accepted (fields bytes).transmit
step_by bytes (Err refusal) = Refused

-- the result of an event after these steps
abbrev pub step_of : Address → List Step → Event → Step
step_of server before (Asked moment) = Request moment
step_of server before (Answered at from bytes) = step_by bytes (judge_by server (outstanding_in before) (accepted_in before) at from bytes)

-- what each event of a history came to, the last first: each is judged by all those before it
abbrev pub steps : Address → List Event → List Step
steps server history = fold (λ before event. step_of server before event ∷ before) [] history

abbrev pub outstanding : Address → List Event → Option ℕ
outstanding server history = outstanding_in (steps server history)

abbrev pub last_accepted : Address → List Event → Option Stamp
last_accepted server history = accepted_in (steps server history)

-- the result of a datagram after a history: the refusal of the first row of the table that holds, else the sample
abbrev pub judge : Address → List Event → ℕ → Address → List ℕ → Result Sample PollRefusal
judge server history at from bytes = judge_by server (outstanding server history) (last_accepted server history) at from bytes
