-- The code of a request (RFC 5905, section 7.4), and the table of clients after it.
use Rattle.std.specs.Prelude.{◌≡◌, ℕ, ◌<◌, ◌+◌, ◌==◌, ◌&&◌, Bool, true, false, nat_eq, nat_lt, List, ◌∷◌, take, Option, Some, None, if◌then◌else◌}
use Rattle.std.specs.Map.{lookup, remove_entry}
use Rattle.reply_core.specs.declared.code.Code.{Code}
use Rattle.reply_core.specs.declared.code.Code.TheVariants.{Pass, Deny, Rate}
use Rattle.kiss_gate.specs.Gates.{Gate, with_table}
use Rattle.kiss_gate.specs.Nets.{is_denied}
use Rattle.kiss_gate.specs.declared.judged.Judged.{Judged}

-- a moment lies less than the gap after the client's own
abbrev pub is_soon : ℕ → ℕ → Option ℕ → Bool
is_soon gap at None = false
is_soon gap at (Some last) = nat_lt at (last + gap)

-- the code, by whether the client is denied and by its moment in the table; a gap of 0 switches the table off
abbrev pub code_by : Bool → ℕ → ℕ → Option ℕ → Code
code_by true gap at last = Deny
code_by false gap at last = if nat_lt 0 gap && is_soon gap at last then Rate else Pass

abbrev pub code_of : Gate → ℕ → ℕ → Code
code_of gate ip at = code_by (is_denied ip gate.denied) gate.gap at (lookup (nat_eq ip) gate.table)

-- the client's pair in the first place, its moment as it was
abbrev pub in_front : ℕ → Option ℕ → List (ℕ × ℕ) → List (ℕ × ℕ)
in_front ip None table = table
in_front ip (Some last) table = (ip, last) ∷ remove_entry (nat_eq ip) table

-- the table after a request of this code that was kept; the moment is that of the last request that passed
abbrev pub table_after : Code → Gate → ℕ → ℕ → List (ℕ × ℕ)
table_after Deny gate ip at = gate.table
table_after Rate gate ip at = in_front ip (lookup (nat_eq ip) gate.table) gate.table
table_after Pass gate ip at = if gate.gap == 0 then gate.table else take gate.clients ((ip, at) ∷ remove_entry (nat_eq ip) gate.table)

-- the gate after a request, by whether it was kept
abbrev pub after : Gate → ℕ → ℕ → (kept : Bool) → Gate
after gate ip at true = with_table gate (table_after (code_of gate ip at) gate ip at)
after gate ip at false = gate

-- a client that passes stays unkept only where the gate keeps a table and the client is new to it. The gate takes memory for such
-- a client.
abbrev pub MayBeKept : Gate → ℕ → ℕ → (kept : Bool) → Type 0
MayBeKept gate ip at kept = kept ≡ false → (code_of gate ip at ≡ Pass) × (0 < gate.gap) × (lookup (nat_eq ip) gate.table ≡ None)

-- what a gate may say of a request
pub record IsJudged (gate : Gate) (ip at : ℕ) (judged : Judged) : Type 0 where
  pub code : judged.code ≡ code_of gate ip at
  pub kept : MayBeKept gate ip at judged.kept
