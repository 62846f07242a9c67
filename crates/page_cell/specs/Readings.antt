-- What a reading answers, and what its pass knows then. All of it is this project's own.
use Rattle.std.specs.Prelude.{◌≡◌, ℕ, ◌+◌, ◌*◌, ◌<◌, ◌≤◌, ◌++◌, List, [], ◌∷◌, length, All}
use Rattle.clock_page.specs.Page.{IsPage, PageFields, words}
use Rattle.page_cell.specs.declared.view.View.{View}

-- the second of the two counts of a try was above the first: an entry was published in between
abbrev pub IsRising : ℕ × ℕ → Type 0
IsRising pair = pair.0 < pair.1

-- A page was read. It is one more reading, of at least as many entries as were seen, and this many are seen then. In the last of
-- at most four tries the count was the same twice; in each one before, it rose. Each try is twelve loads
pub record ReadsPage (v w : View) (p : PageFields) : Type 0 where
  pub later : v.seen ≤ w.seen
  pub reading : w.readings ≡ v.readings ++ (w.seen, words p) ∷ []
  pub page : IsPage p
  pub equal : (prefix : List (ℕ × ℕ)) × (w.watch.pairs ≡ prefix ++ (w.seen, w.seen) ∷ []) × All IsRising prefix
  pub tries : length w.watch.pairs ≤ 4
  pub loads : w.watch.loads ≡ v.watch.loads + 12 * length w.watch.pairs
  pub torn : w.watch.torn ≡ v.watch.torn
  pub greatest : v.watch.greatest ≤ w.watch.greatest

-- In each of four tries the count rose; these are the last two counts. No page was read, and no more is seen than before
pub record ReadsAgain (v w : View) (first second : ℕ) : Type 0 where
  pub seen : w.seen ≡ v.seen
  pub readings : w.readings ≡ v.readings
  pub tries : length w.watch.pairs ≡ 4
  pub rising : All IsRising w.watch.pairs
  pub last : (prefix : List (ℕ × ℕ)) × (w.watch.pairs ≡ prefix ++ (first, second) ∷ [])
  pub loads : w.watch.loads ≡ v.watch.loads + 48
  pub torn : w.watch.torn ≡ v.watch.torn + 1
  pub above : v.seen < w.watch.greatest
  pub greatest : v.watch.greatest ≤ w.watch.greatest
