-- What passes claim of the list of all published entries, and when such a claim is true. All of it is this project's own.
use Rattle.std.specs.Prelude.{◌≡◌, ℕ, ◌*◌, ◌≤◌, ◌==◌, List, length, filter, take}
use mathlib.Core.List.{IsPrefix}
use Rattle.clock_page.specs.Page.{AreWords, PageFields}
use Rattle.journal_entry.specs.declared.entry.Entry.{Entry}
use Rattle.page_cell.specs.declared.view.Claim.{Claim}
use Rattle.system_fold.specs.Page.{page_of}
use Rattle.system_fold.specs.Settings.{SettingsFields}

-- the entries of a feed, in order
abbrev pub of_feed : ℕ → List Entry → List Entry
of_feed n log = filter (λ e. e.feed == n) log

-- the page of the first n entries
unfoldable pub page_at : SettingsFields → List Entry → ℕ → PageFields
page_at settings log n = page_of settings (take n log)

-- what a feed's pass claims is true: its own entries are those of its number, in the whole list and in what it has seen, a
-- beginning of the list
pub record IsTrueOf (log : List Entry) (c : Claim) : Type 0 where
  pub own : c.own ≡ of_feed c.number log
  pub own_seen : c.own ≡ of_feed c.number c.seen
  pub seen : IsPrefix c.seen log

-- a reading is true: its ten words are those of the page of this many entries
pub record IsReading (settings : SettingsFields) (log : List Entry) (reading : ℕ × List ℕ) : Type 0 where
  pub within : reading.0 ≤ length log
  pub page : AreWords reading.1 (page_at settings log reading.0)

-- of n entries: four times the number of a reader's calls that answered Again is at most the greatest count that it loaded, which
-- is at most n
abbrev pub IsTally : ℕ → ℕ × ℕ → Type 0
IsTally n tally = (4 * tally.0 ≤ tally.1) × (tally.1 ≤ n)
