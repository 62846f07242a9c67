-- Which of the entries due for a feed a journal has: a prefix of them, and all unless it is full. All of it is this project's own.
use Rattle.std.specs.Prelude.{◌≡◌, ℕ, ◌<◌, ◌≤◌, List, Bool, true, false, length, take}
use Rattle.journal_entry.specs.declared.entry.Entry.{Entry}
use Rattle.page_cell.specs.Claims.{of_feed}

-- The journal's entries of a feed are those that are due, in order. Where one of them found the journal full, they are a beginning of them
-- that is not all, and the journal has as many entries as it may
pub record HasDue (limit : ℕ) (journal : List Entry) (feed : ℕ) (full : Bool) (due : List Entry) : Type 0 where
  pub count : ℕ
  pub most : count ≤ length due
  pub is : of_feed feed journal ≡ take count due
  pub whole : full ≡ false → count ≡ length due
  pub lost : full ≡ true → (count < length due) × (length journal ≡ limit)
