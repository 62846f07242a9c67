-- Scaffolding: what is left of a line while its fields are read.
use Rattle.std.specs.Prelude.{◌≡◌, ℕ, List}
use Rattle.journal_entry.specs.Texts.{spaced}
use Rattle.script_line.specs.Texts.{IsLine, fields_of}
use Rattle.script_line.specs.declared.line.ScriptLine.{ScriptLine}

-- these fields are left, each after a space
pub record HasSpaced (rest : List ℕ) (fields : List (List ℕ)) : Type 0 where
  pub is : rest ≡ spaced fields

-- the fields that are left are those of this line, which is in range
pub record IsOfFields (rest : List ℕ) (line : ScriptLine) : Type 0 where
  pub valid : IsLine line
  pub fields : HasSpaced rest (fields_of line)
