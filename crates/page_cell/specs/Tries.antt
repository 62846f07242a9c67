-- Scaffolding: the tries of one reading.
use Rattle.std.specs.Prelude.{◌≡◌, ℕ, ◌+◌, ◌*◌, ◌<◌, ◌≤◌, ◌++◌, ◌==◌, true, false, List, [], ◌∷◌, length, All, MatchBool, if◌then◌else◌}
use Rattle.clock_page.specs.Page.{AreWords, PageFields}
use Rattle.page_cell.specs.Passes.{IsResting}
use Rattle.page_cell.specs.Readings.{IsRising}
use Rattle.page_cell.specs.Views.{begins, fails_at, succeeds, with_loaded}
use Rattle.page_cell.specs.declared.view.View.{View}

-- one try, by its two counts and the words in between
abbrev pub ReportsTry : ℕ → ℕ → List ℕ → View → View → Type 0
ReportsTry first second ten v w =
    MatchBool (second == first)
    ((w ≡ succeeds (with_loaded ten 10 (begins first v))) × (v.seen ≤ first) × ((p : PageFields) × AreWords ten p))
    ((w ≡ fails_at second (with_loaded ten 10 (begins first v))) × (v.seen ≤ first) × (first < second))

-- this many tries of a call failed, each with a second count above its first
pub record Tried (i : ℕ) (v w : View) : Type 0 where
  pub same : w ≡ record v { watch = w.watch }
  pub trying : w.watch.trying ≡ false
  pub loads : w.watch.loads ≡ v.watch.loads + 12 * i
  pub fails : w.watch.fails ≡ (if i == 4 then 0 else i)
  pub torn : w.watch.torn ≡ (if i == 4 then v.watch.torn + 1 else v.watch.torn)
  pub unfinished : 0 < i → w.watch.unfinished ≡ (if i == 4 then false else true)
  pub fresh : i ≡ 0 → w.watch.unfinished ≡ false
  pub pairs : 0 < i → (length w.watch.pairs ≡ i) × All IsRising w.watch.pairs
  pub above : 0 < i → v.seen < w.watch.greatest
  pub greatest : v.watch.greatest ≤ w.watch.greatest

-- a call that read the words of a page of n entries
pub record ReadsOnce (v : View) (n : ℕ) (ten : List ℕ) (w : View) : Type 0 where
  pub same : w ≡ record v { seen = n; readings = v.readings ++ (n, ten) ∷ []; watch = w.watch }
  pub later : v.seen ≤ n
  pub page : (p : PageFields) × AreWords ten p
  pub rests : IsResting w
  pub torn : w.watch.torn ≡ v.watch.torn
  pub greatest : v.watch.greatest ≤ w.watch.greatest
  pub loads : w.watch.loads ≡ v.watch.loads + 12 * length w.watch.pairs
  pub most : length w.watch.pairs ≤ 4
  pub equal : (prefix : List (ℕ × ℕ)) × (w.watch.pairs ≡ prefix ++ (n, n) ∷ []) × All IsRising prefix
