-- What the lines of a file say, up to the first bad one. Each line says one item, and what it may say depends on the items of the
-- lines before it. The rules of a file are the texts of its items, and the length at which a line is too long.
use Rattle.std.specs.Prelude.{◌≡◌, ℕ, ◌+◌, ◌≤◌, ◌⊎◌, nat_le, Option, None, Some, List, [], ◌∷◌, ◌++◌, length, if◌then◌else◌}
use Rattle.tick_units.specs.Log.{lines_of}

-- whether after these items a text says this one
abbrev pub Saying : Type 0 → Type 1
Saying Item = List Item → List ℕ → Item → Type 0

-- these texts say these items, after those before
abbrev pub AreItems : {Item : Type 0} → Saying Item → List Item → List (List ℕ) → List Item → Type 0
AreItems says before [] [] = Unit {0}
AreItems says before [] (item ∷ more) = ⊥
AreItems says before (text ∷ texts) [] = ⊥
AreItems says before (text ∷ texts) (item ∷ more) = says before text item × AreItems says (before ++ item ∷ []) texts more

-- a text is bad after these items: it is too long, or says nothing that may stand there
abbrev pub IsBad : {Item : Type 0} → Saying Item → (ℕ → ℕ) → List Item → List ℕ → Type 0
IsBad {Item} says too_long items text = (too_long (length items) ≤ length text) ⊎ ((item : Item) → says items text item → ⊥)

-- the first bad line after these items: the first of the texts that are left; where none is left, an unfinished line that is too
-- long already
abbrev pub IsFirstBad : {Item : Type 0} → Saying Item → (ℕ → ℕ) → List Item → List (List ℕ) → List ℕ → Option ℕ → Type 0
IsFirstBad says too_long items [] unfinished bad = bad ≡ (if nat_le (too_long (length items)) (length unfinished) then Some (length items + 1) else None)
IsFirstBad says too_long items (text ∷ more) unfinished bad = IsBad says too_long items text × (bad ≡ Some (length items + 1))

-- the items of the lines of these bytes up to the first bad one, and its number
pub record HasItems {Item : Type 0} (says : Saying Item) (too_long : ℕ → ℕ) (bytes : List ℕ) (items : List Item) (bad : Option ℕ) : Type 0 where
  pub texts : List (List ℕ)
  pub left : List (List ℕ)
  pub all : (lines_of bytes).complete ≡ texts ++ left
  pub said : AreItems says [] texts items
  pub first : IsFirstBad says too_long items left (lines_of bytes).unfinished bad
