-- One turn at a time: scaffolding for the proof of `serve`, which no public clause needs.
use Rattle.std.specs.Prelude.{◌≡◌, ℕ, ◌+◌, ◌-◌, ◌^◌, ◌≤◌, ◌<◌, Bool, true, false, List, [], ◌∷◌, ◌++◌, All, length, map}
use Rattle.std.specs.List.{sum_by}
use Rattle.outside_traits.specs.Faults.{RoseByOne}
use Rattle.outside_traits.specs.States.{NetEvent, Adds}
use Rattle.kiss_gate.specs.declared.judged.Judged.{Judged}
use Rattle.responder.specs.Desks.{Desk}
use Rattle.responder.specs.Turns.{Turn, Request, Reading, events_of, readings_of, IsRead, IsTurn, GoesOn, gate_with, answered_of, dropped_of, torn_of, kissed_of, unkept_of, Rises, kept}
use Rattle.responder.specs.Turns.Turn.{Still, Last, Answered, Dropped, Torn, Unsent}
use Rattle.responder.specs.Serving.{Took, IsFaulty}
use Rattle.reply_core.specs.declared.code.Code.{Code}
use Rattle.reply_core.specs.declared.code.Code.TheVariants.{Pass, Deny, Rate}
use Rattle.responder.specs.declared.served.Served.{Served}
use Rattle.responder.specs.declared.served.End.{End}
use Rattle.responder.specs.declared.served.End.TheVariants.{Count, LinkEnd, LinkFault}

-- the counts can rise by one
abbrev pub HasRoom : Served → Type 0
HasRoom served = (served.answered < 2 ^ 64 - 1) × (served.dropped < 2 ^ 64 - 1) × (served.again < 2 ^ 64 - 1) × (served.kissed < 2 ^ 64 - 1) × (served.unkept < 2 ^ 64 - 1)

-- this turn was taken, of which these events were past
pub record TookOne (before now : Desk) (past : List NetEvent) (turn : Turn) : Type 0 where
  pub keys : now.keys ≡ before.keys
  pub more : List NetEvent
  pub split : events_of turn ≡ past ++ more
  pub events : Adds before.link.events now.link.events more
  pub valid : IsTurn before.keys before.gate turn
  pub stepped : now.gate ≡ gate_with before.gate turn
  pub readings : now.view.readings ≡ before.view.readings ++ map kept (readings_of turn)
  pub pages : All IsRead (readings_of turn)
  pub rising : Rises before.view.seen (readings_of turn) now.view.seen
  pub torn : now.view.watch.torn ≡ before.view.watch.torn + torn_of turn
  pub greatest : before.view.watch.greatest ≤ now.view.watch.greatest
  pub above : 0 < torn_of turn → before.view.seen < now.view.watch.greatest

-- one request more that was judged, by whether it was kept
abbrev pub with_judged : (kept : Bool) → Served → Served
with_judged true served = served
with_judged false served = record served { unkept = served.unkept + 1 }

-- one reply more that was sent, by its code
abbrev pub with_sent : Code → Served → Served
with_sent Pass served = record served { answered = served.answered + 1 }
with_sent Deny served = record served { kissed = served.kissed + 1 }
with_sent Rate served = record served { kissed = served.kissed + 1 }

-- one turn more
abbrev pub counted : Turn → Served → Served
counted Still served = served
counted Last served = served
counted (Answered request reading judged sent reply) served = with_sent judged.code (with_judged judged.kept served)
counted (Dropped request reading sent) served = record served { dropped = served.dropped + 1 }
counted (Torn request) served = record served { again = served.again + 1 }
counted (Unsent request reading judged sent reply) served = with_judged judged.kept served

-- these turns more
abbrev pub counted_all : List Turn → Served → Served
counted_all [] served = served
counted_all (turn ∷ turns) served = counted_all turns (counted turn served)

-- a turn was taken after which another may come
pub record Goes (before now : Desk) (past : List NetEvent) (served served_now : Served) : Type 0 where
  pub turn : Turn
  pub took : TookOne before now past turn
  pub goes : GoesOn turn
  pub counted : served_now ≡ counted turn served
  pub faults : now.link.faults ≡ before.link.faults

-- the last turns: the link's end, or what a fault of the link ended
abbrev pub IsLast : ℕ → ℕ → List Turn → End → Type 0
IsLast faults faults_now turns Count = ⊥
IsLast faults faults_now turns LinkEnd = (turns ≡ Last ∷ []) × (faults_now ≡ faults)
IsLast faults faults_now turns LinkFault = IsFaulty turns × RoseByOne faults faults_now

-- the last turns were taken
pub record Stops (before now : Desk) (served served_now : Served) : Type 0 where
  pub turns : List Turn
  pub took : Took before now turns
  pub last : IsLast before.link.faults now.link.faults turns served_now.end
  pub counted : served_now ≡ record (counted_all turns served) { end = served_now.end }

-- a datagram was not answered, since the sending failed
pub record StopsUnsent (before now : Desk) (past : List NetEvent) (served served_now : Served) : Type 0 where
  pub request : Request
  pub reading : Reading
  pub judged : Judged
  pub moment : ℕ
  pub reply : List ℕ
  pub took : TookOne before now past (Unsent request reading judged moment reply)
  pub rose : RoseByOne before.link.faults now.link.faults
  pub counted : served_now ≡ record (with_judged judged.kept served) { end = LinkFault }

-- the turns so far, after each of which another may come
pub record Serving (before now : Desk) (count : ℕ) (served : Served) : Type 0 where
  pub turns : List Turn
  pub took : Took before now turns
  pub go : All GoesOn turns
  pub length : length turns ≡ count
  pub faults : now.link.faults ≡ before.link.faults
  pub answered : served.answered ≡ sum_by answered_of turns
  pub dropped : served.dropped ≡ sum_by dropped_of turns
  pub again : served.again ≡ sum_by torn_of turns
  pub kissed : served.kissed ≡ sum_by kissed_of turns
  pub unkept : served.unkept ≡ sum_by unkept_of turns
  pub end : served.end ≡ Count
  pub most : (served.answered ≤ count) × (served.dropped ≤ count) × (served.again ≤ count) × (served.kissed ≤ count) × (served.unkept ≤ count)
