-- A journal as a list of entries: its greatest moment, and its prefixes. A journal is this project's own.
use Rattle.std.specs.Prelude.{ℕ, List, [], ◌∷◌, map}
use Rattle.tick_units.specs.Orders.{greatest}
use Rattle.journal_entry.specs.declared.entry.Entry.{Entry}

-- the greatest moment, and 0 of no entry
abbrev pub now_of : List Entry → ℕ
now_of journal = greatest (map (λ e. e.at) journal)

-- the prefixes of a list, the empty one first and the whole one last
abbrev pub prefixes : {A : Type 0} → List A → List (List A)
prefixes [] = [] ∷ []
prefixes (x ∷ xs) = [] ∷ map (λ prefix. x ∷ prefix) (prefixes xs)
