-- The kinds of passes, and what each says of the published list. All of it is this project's own.
use Rattle.std.specs.Prelude.{◌≡◌, ℕ, true, false, List, [], ◌∷◌, length}
use Rattle.atomic_table.specs.Seated.{TableId}
use Rattle.page_cell.specs.Views.{new_claim}
use Rattle.page_cell.specs.declared.view.Claim.{Claim}
use Rattle.page_cell.specs.declared.view.View.{View}
use Rattle.system_fold.specs.Settings.{SettingsFields}

-- the table of a cell
pub record CellFields : Type 0 where
  pub table : TableId

-- a pass: its cell, and what it knows
pub record Known : Type 0 where
  pub table : TableId
  pub view : View

-- a reader's pass: also its number, from 0
pub record KnownReader : Type 0 where
  pub table : TableId
  pub view : View
  pub number : ℕ

-- the settings of the pages that a pass knows
abbrev pub key_of : View → SettingsFields
key_of v = v.settings

abbrev pub first_claim : List Claim → Claim
first_claim [] = new_claim 0
first_claim (c ∷ cs) = c

-- what a feed's pass claims
abbrev pub claim_of : View → Claim
claim_of v = first_claim v.feeds

-- between two calls no pass is in a try, or in the middle of a reading
pub record IsResting (v : View) : Type 0 where
  pub live : v.spent ≡ false
  pub trying : v.watch.trying ≡ false
  pub fails : v.watch.fails ≡ 0
  pub finished : v.watch.unfinished ≡ false

-- the pass with the baton: its list has this many entries
pub record IsBaton (n : ℕ) (v : View) : Type 0 where
  pub rests : IsResting v
  pub baton : v.baton ≡ true
  pub feeds : v.feeds ≡ []
  pub length : n ≡ length v.list

-- a feed's pass: of this number, which has seen this many entries
pub record IsFeed (feed n : ℕ) (v : View) : Type 0 where
  pub rests : IsResting v
  pub baton : v.baton ≡ false
  pub feeds : v.feeds ≡ claim_of v ∷ []
  pub number : feed ≡ (claim_of v).number
  pub length : n ≡ length (claim_of v).seen

-- a feed's pass that has taken the baton
pub record IsPublisher (feed n : ℕ) (v : View) : Type 0 where
  pub rests : IsResting v
  pub baton : v.baton ≡ true
  pub feeds : v.feeds ≡ claim_of v ∷ []
  pub number : feed ≡ (claim_of v).number
  pub length : n ≡ length v.list

-- a reader's pass, which has seen this many entries
pub record IsReader (n : ℕ) (v : View) : Type 0 where
  pub rests : IsResting v
  pub baton : v.baton ≡ false
  pub feeds : v.feeds ≡ []
  pub seen : n ≡ v.seen

-- a receipt of this many entries
pub record IsReceipt (n : ℕ) (v : View) : Type 0 where
  pub live : v.spent ≡ false
  pub baton : v.baton ≡ false
  pub feeds : v.feeds ≡ []
  pub gathered : v.gathered ≡ []
  pub readings : v.readings ≡ []
  pub seen : n ≡ v.seen
