-- Scaffolding: lists side by side.
use Rattle.std.specs.Prelude.{◌≡◌, ℕ, ◌<◌, Option, None, Some, List, [], ◌∷◌, ◌++◌, All, length, slice_index_or}

-- each is so
pub record Every {J : Type 0} (P : J → Type 0) (xs : List J) : Type 0 where
  pub all : All P xs

-- each went from its state before to its state now in this way
pub record Each {J : Type 0} (ran : J → J → Type 0) (before now : List J) : Type 0 where
  pub at : (i : ℕ) (d : J) → i < length before → ran (slice_index_or before i d) (slice_index_or now i d)

-- two lists of one length, of which each two at one place belong together
abbrev pub Pairs : {X Y : Type 0} → (X → Y → Type 0) → List X → List Y → Type 0
Pairs belong [] [] = Unit {0}
Pairs belong [] (y ∷ ys) = ⊥
Pairs belong (x ∷ xs) [] = ⊥
Pairs belong (x ∷ xs) (y ∷ ys) = belong x y × Pairs belong xs ys

-- there is one in both, and these two belong together, or there is none
abbrev pub Both : {X Y : Type 0} → (X → Y → Type 0) → Option X → Option Y → Type 0
Both belong None None = Unit {0}
Both belong None (Some y) = ⊥
Both belong (Some x) None = ⊥
Both belong (Some x) (Some y) = belong x y

-- the same of a beginning of a list, of which the rest is still to come
pub record PairsPrefix {X Y : Type 0} (belong : X → Y → Type 0) (all rest : List X) (ys : List Y) : Type 0 where
  pub prefix : List X
  pub is : prefix ++ rest ≡ all
  pub pairs : Pairs belong prefix ys
