-- The rule of a cell: what holds of its words and of all passes between any two steps. All of it is this project's own; two banks
-- replace the one bank of a sequence lock.
use Rattle.std.specs.Prelude.{◌≡◌, ℕ, suc, ◌+◌, ◌*◌, ◌%◌, ◌<◌, ◌≤◌, true, false, List, length, All, slice_index}
use mathlib.Core.Option.{some}
use lib.ListN.{get_elem?}
use Rattle.atomic_table.specs.Table.{State}
use Rattle.journal_entry.specs.declared.entry.Entry.{Entry}
use Rattle.page_cell.specs.Claims.{IsReading, IsTally, IsTrueOf}
use Rattle.page_cell.specs.declared.view.Claim.{Claim}
use Rattle.page_cell.specs.declared.view.View.{View}
use Rattle.page_cell.specs.declared.view.Watch.{Watch}
use Rattle.system_fold.specs.Settings.{SettingsFields}

-- of the 21 words the first is the count; this is the place of the word i of the bank of a count
abbrev pub bank_word : ℕ → ℕ → ℕ
bank_word n i = 1 + 10 * (n % 2) + i

-- the first words of the bank of the count n are these
abbrev pub HasBank : List ℕ → ℕ → List ℕ → Type 0
HasBank words n xs = (i : ℕ) → i < length xs → i < 10 → slice_index words (bank_word n i) ≡ slice_index xs i

-- a claim is true, and is at the one place of its number: 0 where it was gathered, and else the pass's number plus 1. So no two
-- passes claim one number, and no claim has a number that was not given
pub record Stands (log : List Entry) (given : ℕ) (home : ℕ → ℕ) (place : ℕ) (c : Claim) : Type 0 where
  pub numbered : c.number < given
  pub placed : home c.number ≡ place
  pub holds : IsTrueOf log c

-- of n entries, what a reader does: no count that it loads is above n. Each call that answered Again, and each failed try of the
-- call that it is in, saw the count rise. So four times the first number, plus the second, is at most the greatest count. In a
-- try it loaded the greatest count first. Where that is still the count, the words that it loaded are those of its bank
pub record IsWatch (words : List ℕ) (n seen : ℕ) (w : Watch) : Type 0 where
  pub most : w.greatest ≤ n
  pub torn : 4 * w.torn + w.fails ≤ w.greatest
  pub trying : w.trying ≡ true → (seen ≤ w.first) × (w.greatest ≡ w.first) × (w.first ≡ n → HasBank words n w.loaded)

-- what all passes go by: the entries, how many feeds' passes were given, the place of each number's claim, and the pass that has
-- the baton
pub record Roll : Type 0 where
  pub log : List Entry
  pub given : ℕ
  pub home : ℕ → ℕ
  pub seat : ℕ

abbrev pub roll : List Entry → ℕ → (ℕ → ℕ) → ℕ → Roll
roll log given home seat = record { log = log; given = given; home = home; seat = seat }

-- what holds of one pass. With the baton it knows the list, and the words that it stored of the next page are the first ones of
-- the other bank
pub record Fits (settings : SettingsFields) (words : List ℕ) (of : Roll) (by : ℕ) (v : View) : Type 0 where
  pub keyed : v.spent ≡ false → v.settings ≡ settings
  pub baton : v.baton ≡ true → (by ≡ of.seat) × (v.list ≡ of.log) × (v.given ≡ of.given) × HasBank words (suc (length of.log)) v.stored
  pub seen : v.seen ≤ length of.log
  pub feeds : All (Stands of.log of.given of.home (suc by)) v.feeds
  pub gathered : All (Stands of.log of.given of.home 0) v.gathered
  pub readings : All (IsReading settings of.log) v.readings
  pub watch : IsWatch words (length of.log) v.seen v.watch
  pub tallies : All (IsTally (length of.log)) v.tallies

-- this pass has the baton
abbrev pub HoldsBaton : List View → ℕ → Type 0
HoldsBaton views seat = (v : View) × (get_elem? views seat ≡ some v) × (v.baton ≡ true)

-- There is one list of entries. The count is its length, and the count's bank has the words of its page. This many feeds' passes
-- were given, each of one of the settings' feeds, and no entry is of another feed. One pass has the baton, and the rule holds of
-- each pass
pub record Opened (settings : SettingsFields) (words : List ℕ) (views : List View) : Type 0 where
  pub log : List Entry
  pub given : ℕ
  pub home : ℕ → ℕ
  pub seat : ℕ
  pub page : List ℕ
  pub width : length words ≡ 21
  pub count : slice_index words 0 ≡ length log
  pub reading : IsReading settings log (length log, page)
  pub bank : HasBank words (length log) page
  pub counted : given ≤ length settings.sources
  pub numbered : All (λ e. e.feed < given) log
  pub holder : HoldsBaton views seat
  pub fits : (by : ℕ) (v : View) → get_elem? views by ≡ some v → Fits settings words (roll log given home seat) by v

-- the table has no slots
abbrev pub Kept : SettingsFields → State ℕ View → Type 0
Kept settings s = Opened settings s.words s.views
