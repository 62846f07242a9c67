-- Which of the entries due for a feed stand in the journal: a prefix of them, and all where there was room. All of it is this
-- project's own.
use Rattle.std.specs.Prelude.{◌≡◌, ℕ, ◌<◌, ◌≤◌, List, ◌++◌, length, take, Bool, true, false}
use Rattle.atomic_table.specs.Seated.{TableId}
use Rattle.journal_entry.specs.declared.entry.Entry.{Entry}
use Rattle.page_cell.specs.Passes.{Known, claim_of}
use Rattle.page_cell.specs.declared.view.Claim.{Claim}

-- a feed's share of the journal: what its pass claimed when the worker began, and what it claims now; the journal's limit, and whether an
-- entry has found the journal full
pub record Share : Type 0 where
  pub begun : Claim
  pub claim : Claim
  pub limit : ℕ
  pub full : Bool

-- that of a worker that began with this claim, by its pass
abbrev pub share_of : Claim → Known → ℕ → Bool → Share
share_of begun pass limit full = record { begun = begun; claim = claim_of pass.view; limit = limit; full = full }

-- The feed's own entries have grown by these, in order. Where the journal was found full, they have grown by a beginning of them that is not
-- all, and the pass has seen as many entries as there may be
pub record Keeps (share : Share) (due : List Entry) : Type 0 where
  pub count : ℕ
  pub most : count ≤ length due
  pub own : share.claim.own ≡ share.begun.own ++ take count due
  pub number : share.claim.number ≡ share.begun.number
  pub whole : share.full ≡ false → count ≡ length due
  pub lost : share.full ≡ true → (count < length due) × (length share.claim.seen ≡ share.limit)

-- a pass of this cell, and of this feed, which is one of a number of sources
pub record IsOfFeed (table : TableId) (sources feed : ℕ) (pass : Known) : Type 0 where
  pub table_is : pass.table ≡ table
  pub feed_is : (claim_of pass.view).number ≡ feed
  pub source : feed < sources
