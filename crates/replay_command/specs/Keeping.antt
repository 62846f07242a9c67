-- Scaffolding: what a player keeps of the journal.
use Rattle.std.specs.Prelude.{◌≡◌, ℕ, ◌≤◌, ◌^◌, Bool, List, length}
use Rattle.journal_entry.specs.declared.entry.Entry.{Entry}
use Rattle.system_fold.specs.Settings.{SettingsFields}
use Rattle.system_fold.specs.KeptFold.{FoldFields, StandsForJournal}

-- the fold of the entries kept, their number, the most that are kept, and whether one was dropped
pub record JournalFields : Type 0 where
  pub fold : FoldFields
  pub count : ℕ
  pub limit : ℕ
  pub is_full : Bool

-- the fold stands for this many entries of some journal
pub record IsKeeping (fold : FoldFields) (count limit : ℕ) : Type 0 where
  pub settings : SettingsFields
  pub journal : List Entry
  pub stands : StandsForJournal fold settings journal
  pub count_is : count ≡ length journal
  pub within : count ≤ limit
  pub most : limit ≤ 2 ^ 22
