-- The journal behind the hub's lock, and what is known of it once all passes are taken back. All of it is this project's own.
use Rattle.std.specs.Prelude.{◌≡◌, ℕ, ◌+◌, ◌≤◌, List, [], ◌∷◌, ◌++◌, length, map, All}
use Rattle.std.specs.List.{enumerate_from}
use mathlib.Core.List.{IsPrefix}
use Rattle.atomic_table.specs.Seated.{TableId}
use Rattle.journal_entry.specs.declared.entry.Entry.{Entry}
use Rattle.journal_entry.specs.declared.numbered.Numbered.{Numbered}
use Rattle.page_cell.specs.Claims.{IsReading, IsTally, page_at}
use Rattle.page_cell.specs.Passes.{Known, claim_of, key_of}
use Rattle.page_cell.specs.declared.view.View.{View}
use Rattle.system_fold.specs.KeptFold.{FoldFields, StandsForJournal}
use Rattle.system_fold.specs.Settings.{SettingsFields}

-- the entries, the settings of the pages, and how many entries there may be
pub record State : Type 0 where
  pub entries : List Entry
  pub settings : SettingsFields
  pub limit : ℕ

-- the lines of a journal: each entry with its number, from 1, and the rate of the page of the entries up to it
abbrev pub numbered_of : SettingsFields → List Entry → List Numbered
numbered_of settings journal = map (λ k. record { length = k.0 + 1; rate = (page_at settings journal (k.0 + 1)).rate; entry = k.1 }) (enumerate_from 0 journal)

-- what the locked value keeps by itself: its lines are those of the baton's list, for which the fold stands; each entry of it is
-- valid, and there is room up to the limit
pub record IsKept (lines : List Numbered) (capacity : ℕ) (fold : FoldFields) (limit : ℕ) (b : Known) : Type 0 where
  pub lines_are : lines ≡ numbered_of (key_of b.view) b.view.list
  pub count : length lines ≡ length b.view.list
  pub folded : StandsForJournal fold (key_of b.view) b.view.list
  pub within : length b.view.list ≤ limit
  pub most : limit ≤ 4194304
  pub room : limit ≤ capacity

-- a feed's pass is of the same cell and the same feed
pub record IsSamePass (f g : Known) : Type 0 where
  pub table : g.table ≡ f.table
  pub number : (claim_of g.view).number ≡ (claim_of f.view).number

-- an append that answered n put the entry after those that the pass had seen and those of other feeds that came between. The pass
-- has then seen n entries, the last of which is its own
pub record Appends (e : Entry) (n limit : ℕ) (f g : Known) : Type 0 where
  pub own : (claim_of g.view).own ≡ (claim_of f.view).own ++ e ∷ []
  pub before : List Entry
  pub seen : (claim_of g.view).seen ≡ before ++ e ∷ []
  pub earlier : IsPrefix (claim_of f.view).seen before
  pub length : length (claim_of g.view).seen ≡ n
  pub within : n ≤ limit

-- an append that found the journal full left the pass's own list, and the pass has seen as many entries as there may be
pub record FindsFull (limit : ℕ) (f g : Known) : Type 0 where
  pub own : (claim_of g.view).own ≡ (claim_of f.view).own
  pub earlier : IsPrefix (claim_of f.view).seen (claim_of g.view).seen
  pub length : length (claim_of g.view).seen ≡ limit

-- what a reader's pass knows is true of the journal
pub record HasRead (settings : SettingsFields) (journal : List Entry) (v : View) : Type 0 where
  pub readings : All (IsReading settings journal) v.readings
  pub tally : IsTally (length journal) (v.watch.torn, v.watch.greatest)
  pub seen : v.seen ≤ length journal

-- the name of no cell
abbrev pub no_table : TableId
no_table = record { words = 0; slots = 0; views_name = 0; atom = 0; block = 0; offset = 0; slot_names = [] }
