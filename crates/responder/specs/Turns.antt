-- The turns of a responder: what each is for the events of its link, for the readings of its pass, for its gate of clients, and for its
-- counts. A reply is that of a server to a client (RFC 5905, section 8, `fast_xmit` of appendix A, and section 7.3 on digests), or a
-- kiss-o'-death packet (section 7.4); the turns are this project's own.
use Rattle.std.specs.Prelude.{◌≡◌, ℕ, ◌≤◌, Bool, true, false, List, [], ◌∷◌, Ok, Err}
use Rattle.outside_traits.specs.States.{NetEvent}
use Rattle.outside_traits.specs.States.NetEvent.{Came, Silent, Ended, Timed, Went}
use Rattle.outside_traits.specs.declared.outside.Address.{Address}
use Rattle.clock_page.specs.Page.{IsPage, PageFields, words}
use Rattle.kiss_gate.specs.Clients.{after, IsJudged}
use Rattle.kiss_gate.specs.Gates.{Gate}
use Rattle.kiss_gate.specs.declared.judged.Judged.{Judged}
use Rattle.packet_auth.specs.Keys.{KeyFields}
use Rattle.reply_core.specs.Reply.{request_of}
use Rattle.reply_core.specs.declared.code.Code.{Code}
use Rattle.reply_core.specs.declared.code.Code.TheVariants.{Pass, Deny, Rate}
use Rattle.reply_core.specs.declared.dropped.Dropped.{Dropped as Reason}
use Rattle.sealed_reply.specs.Replies.{reply_to}

-- a datagram: its sender, when it came, its bytes
pub record Request : Type 0 where
  pub from : Address
  pub at : ℕ
  pub bytes : List ℕ

-- a page that was read, and of how many entries it is
pub record Reading : Type 0 where
  pub length : ℕ
  pub page : PageFields

-- what was read is a page
abbrev pub IsRead : Reading → Type 0
IsRead reading = IsPage reading.page

-- Nothing came. The link's end. A datagram was answered: from this page, by this judgement of its sender, at this moment, by this reply.
-- It was dropped. It was left, since no page could be read. It was not answered, since the sending failed.
pub data Turn : Type 0 where
  Still : Turn
  Last : Turn
  Answered : Request → Reading → Judged → ℕ → List ℕ → Turn
  Dropped : Request → Reading → ℕ → Turn
  Torn : Request → Turn
  Unsent : Request → Reading → Judged → ℕ → List ℕ → Turn

abbrev pub came : Request → NetEvent
came request = Came request.from request.at request.bytes

-- what happened on the link: a datagram, then the moment, then the reply to its sender
abbrev pub events_of : Turn → List NetEvent
events_of Still = Silent ∷ []
events_of Last = Ended ∷ []
events_of (Answered request reading judged sent reply) = came request ∷ Timed sent ∷ Went request.from reply ∷ []
events_of (Dropped request reading sent) = came request ∷ Timed sent ∷ []
events_of (Torn request) = came request ∷ []
events_of (Unsent request reading judged sent reply) = came request ∷ Timed sent ∷ []

-- the one page that was read in a turn, or none
abbrev pub readings_of : Turn → List Reading
readings_of Still = []
readings_of Last = []
readings_of (Answered request reading judged sent reply) = reading ∷ []
readings_of (Dropped request reading sent) = reading ∷ []
readings_of (Torn request) = []
readings_of (Unsent request reading judged sent reply) = reading ∷ []

-- A datagram that is a client's request is judged by the gate as it stands; its reply is the one that its sender gets by the code, from
-- the page that was read in its turn, sealed by one of these keys exactly where the datagram is authentic by it. A datagram is dropped
-- where it is no such request
abbrev pub IsTurn : List KeyFields → Gate → Turn → Type 0
IsTurn keys gate Still = Unit {0}
IsTurn keys gate Last = Unit {0}
IsTurn keys gate (Answered request reading judged sent reply) =
    IsJudged gate request.from.ip request.at judged × (reply_to keys judged.code reading.page request.bytes request.at sent ≡ Ok reply)
IsTurn keys gate (Dropped request reading sent) = (why : Reason) × (request_of request.bytes ≡ Err why)
IsTurn keys gate (Torn request) = Unit {0}
IsTurn keys gate (Unsent request reading judged sent reply) =
    IsJudged gate request.from.ip request.at judged × (reply_to keys judged.code reading.page request.bytes request.at sent ≡ Ok reply)

-- the gate after a turn: only a judged request changes its table
abbrev pub gate_with : Gate → Turn → Gate
gate_with gate Still = gate
gate_with gate Last = gate
gate_with gate (Answered request reading judged sent reply) = after gate request.from.ip request.at judged.kept
gate_with gate (Dropped request reading sent) = gate
gate_with gate (Torn request) = gate
gate_with gate (Unsent request reading judged sent reply) = after gate request.from.ip request.at judged.kept

-- each turn in order is one at the gate that the turns before it left; at the end the gate is the other one
abbrev pub AreTurns : List KeyFields → Gate → List Turn → Gate → Type 0
AreTurns keys gate [] gate_now = gate ≡ gate_now
AreTurns keys gate (turn ∷ turns) gate_now = IsTurn keys gate turn × AreTurns keys (gate_with gate turn) turns gate_now

-- whether another turn may come after it
abbrev pub goes_on : Turn → Bool
goes_on Still = true
goes_on Last = false
goes_on (Answered request reading judged sent reply) = true
goes_on (Dropped request reading sent) = true
goes_on (Torn request) = true
goes_on (Unsent request reading judged sent reply) = false

abbrev pub GoesOn : Turn → Type 0
GoesOn turn = goes_on turn ≡ true

-- the time was given
abbrev pub passed : Code → ℕ
passed Pass = 1
passed Deny = 0
passed Rate = 0

-- a kiss code was
abbrev pub refused : Code → ℕ
refused Pass = 0
refused Deny = 1
refused Rate = 1

abbrev pub lost : (kept : Bool) → ℕ
lost true = 0
lost false = 1

abbrev pub answered_of : Turn → ℕ
answered_of Still = 0
answered_of Last = 0
answered_of (Answered request reading judged sent reply) = passed judged.code
answered_of (Dropped request reading sent) = 0
answered_of (Torn request) = 0
answered_of (Unsent request reading judged sent reply) = 0

abbrev pub kissed_of : Turn → ℕ
kissed_of Still = 0
kissed_of Last = 0
kissed_of (Answered request reading judged sent reply) = refused judged.code
kissed_of (Dropped request reading sent) = 0
kissed_of (Torn request) = 0
kissed_of (Unsent request reading judged sent reply) = 0

abbrev pub unkept_of : Turn → ℕ
unkept_of Still = 0
unkept_of Last = 0
unkept_of (Answered request reading judged sent reply) = lost judged.kept
unkept_of (Dropped request reading sent) = 0
unkept_of (Torn request) = 0
unkept_of (Unsent request reading judged sent reply) = lost judged.kept

abbrev pub dropped_of : Turn → ℕ
dropped_of Still = 0
dropped_of Last = 0
dropped_of (Answered request reading judged sent reply) = 0
dropped_of (Dropped request reading sent) = 1
dropped_of (Torn request) = 0
dropped_of (Unsent request reading judged sent reply) = 0

abbrev pub torn_of : Turn → ℕ
torn_of Still = 0
torn_of Last = 0
torn_of (Answered request reading judged sent reply) = 0
torn_of (Dropped request reading sent) = 0
torn_of (Torn request) = 1
torn_of (Unsent request reading judged sent reply) = 0

-- the lengths never fall, from one number of entries to another
abbrev pub Rises : ℕ → List Reading → ℕ → Type 0
Rises first [] last = first ≡ last
Rises first (reading ∷ readings) last = (first ≤ reading.length) × Rises reading.length readings last

-- a reading as a pass keeps it: the length, and the page's ten words
abbrev pub kept : Reading → ℕ × List ℕ
kept reading = (reading.length, words reading.page)
