-- Scaffolding: what each kind of step shows the pass that makes it.
use Rattle.std.specs.Prelude.{◌≡◌, ℕ, ◌<◌, ◌≤◌, ◌==◌, length, All, MatchBool}
use mathlib.Core.List.{IsPrefix}
use Rattle.atomic_table.specs.Table.{Me, Step}
use Rattle.clock_page.specs.Page.{AreWords, PageFields}
use Rattle.journal_entry.specs.declared.entry.Entry.{Entry}
use Rattle.page_cell.specs.Claims.{IsReading, IsTally, IsTrueOf}
use Rattle.page_cell.specs.Views.{added, begins, fails_at, loads_word, stores, succeeds}
use Rattle.page_cell.specs.declared.view.View.{View}

abbrev pub Stores : Step ℕ → Me ℕ View → ℕ → Me ℕ View → Type 0
Stores st m x m' = (m'.1 ≡ m.1) × (m'.0 ≡ stores x m.0)

abbrev pub Publishes : Entry → Step ℕ → Me ℕ View → ℕ → Me ℕ View → Type 0
Publishes e st m x m' = (m'.1 ≡ m.1) × (m'.0 ≡ added e m.0) × All (λ c. IsPrefix c.seen m.0.list) m.0.feeds

abbrev pub Begins : Step ℕ → Me ℕ View → ℕ → Me ℕ View → Type 0
Begins st m x m' = (m'.1 ≡ m.1) × (m'.0 ≡ begins x m.0) × (m.0.watch.greatest ≤ x)

abbrev pub Loads : Step ℕ → Me ℕ View → ℕ → Me ℕ View → Type 0
Loads st m x m' = (m'.1 ≡ m.1) × (m'.0 ≡ loads_word x m.0)

-- the same count shows that the words are a page's, of at least as many entries as were seen; else the count is above
abbrev pub Ends : Step ℕ → Me ℕ View → ℕ → Me ℕ View → Type 0
Ends st m x m' =
    (m'.1 ≡ m.1)
    × MatchBool (x == m.0.watch.first)
    ((m'.0 ≡ succeeds m.0) × (m.0.seen ≤ m.0.watch.first) × ((p : PageFields) × AreWords m.0.watch.loaded p))
    ((m'.0 ≡ fails_at x m.0) × (m.0.seen ≤ m.0.watch.first) × (m.0.watch.first < x))

-- all that a pass with the baton keeps is true of its list
pub record Holds (v : View) : Type 0 where
  pub seen : v.seen ≤ length v.list
  pub feeds : All (IsTrueOf v.list) v.feeds
  pub gathered : All (IsTrueOf v.list) v.gathered
  pub readings : All (IsReading v.settings v.list) v.readings
  pub tallies : All (IsTally (length v.list)) v.tallies

abbrev pub Looks : Step ℕ → Me ℕ View → ℕ → Me ℕ View → Type 0
Looks st m x m' = (m'.1 ≡ m.1) × (m'.0 ≡ m.0) × Holds m.0
