-- Scaffolding: something that takes the lines of a file one by one. It stands for the items that they say, though after a bad
-- line perhaps for fewer of them. With the cutter of its lines and their count it stands for the bytes, and for the text that it
-- has given for them.
use Rattle.std.specs.Prelude.{◌≡◌, ℕ, ◌+◌, ◌<◌, ◌≤◌, ◌==◌, Option, None, Some, List, [], ◌∷◌, ◌++◌, length, take, Ok, Err, if◌then◌else◌}
use Rattle.line_files.specs.declared.by_line.ByLine.{ByLine}
use Rattle.line_files.specs.Cutting.{HasTaken}
use Rattle.line_files.specs.LineFiles.{LineFile, HasItemsOf}
use Rattle.line_files.specs.Taking.{Gives}

-- how something takes the lines of a file: it stands for the items that they say, with their first bad line
pub record LineWay (T : Type 0) : Type 1 where
  pub file : LineFile
  pub stands : T → List file.Item → Option ℕ → Type 0

-- there may be a line after this many; and there are no more of them than there may be
abbrev pub HasRoom : Option ℕ → ℕ → Type 0
HasRoom None lines = Unit {0}
HasRoom (Some most) lines = lines < most

abbrev pub IsWithin : Option ℕ → ℕ → Type 0
IsWithin None lines = Unit {0}
IsWithin (Some most) lines = lines ≤ most

-- a line is too long at this length; after the last that there may be, at its first byte
abbrev pub limit_of : ℕ → Option ℕ → ℕ → ℕ
limit_of too_long None lines = too_long
limit_of too_long (Some most) lines = if lines == most then 1 else too_long

-- these are the bounds of the lines. No lines give no text, and what was taken stays so where a bad line is met
pub record IsWay {T : Type 0} (too_long : ℕ) (most : Option ℕ) (way : LineWay T) : Type 0 where
  pub none : way.file.text [] ≡ []
  pub limit : (lines : ℕ) → way.file.too_long lines ≡ limit_of too_long most lines
  pub room : (items : List way.file.Item) (text : List ℕ) (item : way.file.Item) → way.file.says items text item → HasRoom most (length items)
  pub ends : (taker : T) (items : List way.file.Item) (bad : ℕ) → way.stands taker items None → way.stands taker items (Some bad)

-- there are no more lines than there may be, and the next one can be taken
pub record IsCounting {T : Type 0} (is_ready : T → ℕ → Type 0) (most : Option ℕ) (lines : ByLine T) : Type 0 where
  pub most_is : lines.most ≡ most
  pub within : IsWithin most lines.count
  pub ready : is_ready lines.taker lines.count

-- it has taken these bytes, has given this text for their lines, and has met this bad line
pub record IsTakenBy {T : Type 0} (too_long : ℕ) (way : LineWay T) (lines : ByLine T) (bytes text : List ℕ) (bad : Option ℕ) : Type 0 where
  pub items : List way.file.Item
  pub said : HasItemsOf way.file bytes items bad
  pub text_is : text ≡ way.file.text items
  pub taken : way.stands lines.taker items bad
  pub cut : bad ≡ None → HasTaken lines.cutter too_long bytes
  pub count : bad ≡ None → lines.count ≡ length items

-- the text that the lines of these bytes give, none of which is bad
abbrev pub file_says : LineFile → List ℕ → List ℕ → Type 0
file_says f bytes text = (items : List f.Item) × HasItemsOf f bytes items None × (text ≡ f.text items)

-- the text of a line, and the content of the line in which a text is given for it
pub record LineTexts : Type 0 where
  pub text : List ℕ
  pub given : List ℕ

abbrev pub line_texts : List ℕ → List ℕ → LineTexts
line_texts text given = record { text = text; given = given }

-- a text was taken as the next line, and a text of this many bytes was given for it; or it says nothing that may stand here
abbrev pub TakesLine : {T : Type 0} → (way : LineWay T) → T → List way.file.Item → LineTexts → Option ℕ → Type 0
TakesLine way now items line (Some size) = (item : way.file.Item) × way.file.says items line.text item × way.stands now (items ++ item ∷ []) None
    × (way.file.text (items ++ item ∷ []) ≡ way.file.text items ++ take size line.given)
TakesLine way now items line None = ((item : way.file.Item) → way.file.says items line.text item → ⊥) × way.stands now items (Some (length items + 1))

-- the same where the bad line is counted
abbrev pub GivesLine : {T : Type 0} → (way : LineWay T) → T → List way.file.Item → LineTexts → Gives → Type 0
GivesLine way now items line (Ok None) = ⊥
GivesLine way now items line (Ok (Some size)) = TakesLine way now items line (Some size)
GivesLine way now items line (Err bad) = (bad.line ≡ length items + 1) × TakesLine way now items line None
