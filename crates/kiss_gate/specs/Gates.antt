-- The rules of a gate, and the table of its clients: pairs of an address and a moment, the latest used first. How a server limits the
-- rate of its clients is left open by RFC 5905 (section 7.4); this is the project's own.
use Rattle.std.specs.Prelude.{ℕ, List}
use Rattle.kiss_gate.specs.declared.nets.Net.{Net}

pub record Gate : Type 0 where
  pub denied : List Net
  pub gap : ℕ
  pub clients : ℕ
  pub table : List (ℕ × ℕ)

-- the gate with another table
abbrev pub with_table : Gate → List (ℕ × ℕ) → Gate
with_table gate table = record { denied = gate.denied; gap = gate.gap; clients = gate.clients; table = table }
