-- A text that is written to a sink: all of it, or a prefix and then a fault. One write may take a part of what it is given, as Rust's
-- `Write` has it.
use Rattle.std.specs.Prelude.{◌≡◌, ℕ, List, ◌++◌}
use Rattle.outside_traits.specs.Faults.{RoseByOne}
use Rattle.outside_traits.specs.States.{SinkState, Adds}

-- a text is a prefix of another
abbrev pub IsPrefixOf : List ℕ → List ℕ → Type 0
IsPrefixOf prefix whole = (rest : List ℕ) × (whole ≡ prefix ++ rest)

-- a text was written whole, and no write failed
abbrev pub WritesAll : SinkState → SinkState → List ℕ → Type 0
WritesAll out out_now text = Adds out.held out_now.held text × (out_now.faults ≡ out.faults)

-- one write of this text failed: the sink holds a prefix of it, and its count rose by one
abbrev pub WritesPrefix : SinkState → SinkState → List ℕ → Type 0
WritesPrefix out out_now text = (prefix : List ℕ) × IsPrefixOf prefix text × Adds out.held out_now.held prefix × RoseByOne out.faults out_now.faults
