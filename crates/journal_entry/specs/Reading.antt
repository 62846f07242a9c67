-- Scaffolding: what is left of a text while its fields are read.
use Rattle.std.specs.Prelude.{◌≡◌, ℕ, Bool, ◌==◌, List, ◌∷◌, decimal, drop}
use Rattle.std.specs.List.{list_any}
use Rattle.journal_entry.specs.Texts.{spaced, what_fields}
use Rattle.journal_entry.specs.declared.entry.Entry.{Entry}

abbrev pub has_space : List ℕ → Bool
has_space field = list_any (λ byte. byte == 32) field

-- these fields are left, with one space between each two
pub record HasFields (rest : List ℕ) (fields : List (List ℕ)) : Type 0 where
  pub joined : rest ≡ drop 1 (spaced fields)

-- all fields of an entry
abbrev pub entry_fields : Entry → List (List ℕ)
entry_fields e = decimal e.feed ∷ decimal e.at ∷ what_fields e.what
