-- All that a gate has judged since it was opened, the last request first; and what a sender would get if it alone had asked. The
-- rule is this project's own.
use Rattle.std.specs.Prelude.{ℕ, true, nat_eq, List, [], ◌∷◌, filter, if◌then◌else◌}
use Rattle.std.specs.List.{list_any}
use Rattle.reply_core.specs.declared.code.Code.{Code}
use Rattle.kiss_gate.specs.Gates.{Gate, with_table}
use Rattle.kiss_gate.specs.Clients.{after, code_of}

pub record Request : Type 0 where
  pub ip : ℕ
  pub at : ℕ

-- the gate with the same rules after it has judged these requests, where each client got its place in the table
abbrev pub gate_after : Gate → List Request → Gate
gate_after gate [] = with_table gate []
gate_after gate (request ∷ older) = after (gate_after gate older) request.ip request.at true

-- the different senders
abbrev pub senders : List Request → List ℕ
senders [] = []
senders (request ∷ older) = if list_any (nat_eq request.ip) (senders older) then senders older else request.ip ∷ senders older

-- the requests of one sender
abbrev pub only : ℕ → List Request → List Request
only ip requests = filter (λ request. nat_eq ip request.ip) requests

-- the code that a sender would get after these requests if it alone had asked
abbrev pub code_alone : Gate → List Request → ℕ → ℕ → Code
code_alone gate requests ip at = code_of (gate_after gate (only ip requests)) ip at
