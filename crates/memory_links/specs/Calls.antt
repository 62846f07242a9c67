-- The calls of an object in memory (for tests and `drill`): how many were made, and the numbers of those that fail, counted from 1.
use Rattle.std.specs.Prelude.{◌≡◌, ◌==◌, ◌+◌, ◌-◌, ◌^◌, ℕ, Bool, List, min}
use Rattle.std.specs.List.{list_any}
use Rattle.memory_links.specs.declared.calls.Calls.{Calls}

-- none was made yet, and those of these numbers fail
pub record AreStated (calls : Calls) (numbers : List ℕ) : Type 0 where
  pub made : calls.made ≡ 0
  pub fails : calls.fails.items ≡ numbers

-- the number of the next call; it stands still at the greatest number of 64 bits
abbrev pub next_of : Calls → ℕ
next_of calls = min (calls.made + 1) (2 ^ 64 - 1)

-- the next call is one of those that fail
abbrev pub fails_next : Calls → Bool
fails_next calls = list_any (λ number. number == next_of calls) calls.fails.items

-- one call more was made, and the same ones fail
pub record IsCalled (before now : Calls) : Type 0 where
  pub made : now.made ≡ next_of before
  pub same : now.fails.items ≡ before.fails.items
