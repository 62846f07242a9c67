-- The station as a machine with no threads, lock or banks: what all threads together do is a run of it. All of it is this
-- project's own.
use Rattle.std.specs.Prelude.{◌≡◌, ℕ, ◌+◌, ◌≤◌, ◌<◌, ◌^◌, ◌==◌, nat_le, nat_lt, max, Option, None, Some, List, [], ◌∷◌, ◌++◌, length, take, slice_index, slice_set, replicate, if◌then◌else◌, All, ⊤}
use mathlib.Core.List.{IsPrefix}
use Rattle.clock_page.specs.Page.{PageFields}
use Rattle.journal_entry.specs.Valid.{IsValidWhat}
use Rattle.journal_entry.specs.declared.entry.Entry.{Entry}
use Rattle.station_world.specs.declared.step.Step.{Step}
use Rattle.station_world.specs.declared.step.Step.TheVariants.{Enter, Publish, Read, Tell}
use Rattle.station_world.specs.declared.step.StepRefusal.{StepRefusal}
use Rattle.station_world.specs.declared.step.StepRefusal.TheVariants.{Beyond, Memory, NoFeed, NoReader, Nothing, Unpublished}
use Rattle.system_fold.specs.Page.{page_of}
use Rattle.system_fold.specs.Settings.{SettingsFields}

-- a journal, how many of its entries are published, how many of them each reader has seen, and the settings of its pages
pub record Station : Type 0 where
  pub settings : SettingsFields
  pub journal : List Entry
  pub published : ℕ
  pub seen : List ℕ

abbrev pub start : SettingsFields → ℕ → Station
start settings readers = record { settings = settings; journal = []; published = 0; seen = replicate readers 0 }

abbrev pub after : Station → Step → Station
after s (Enter e) = record s { journal = s.journal ++ e ∷ [] }
after s Publish = record s { published = s.published + 1 }
after s (Read k) = record s { seen = slice_set s.seen k s.published }
after s (Tell k n) = record s { seen = slice_set s.seen k (max (slice_index s.seen k) n) }

-- the page of what is published
unfoldable pub published_page : Station → PageFields
published_page s = page_of s.settings (take s.published s.journal)

-- what a step gives: a reading gives the page
abbrev pub given : Station → Step → Option PageFields
given s (Enter e) = None
given s Publish = None
given s (Read k) = Some (published_page s)
given s (Tell k n) = None

-- why a step is refused, if it is: an entry of no feed, or before the last one is published; a publishing of nothing; a reader
-- that is not there; one that is to learn of more than is published
abbrev pub refusal_of : Station → Step → Option StepRefusal
refusal_of s (Enter e) = if nat_lt e.feed (length s.settings.sources) then (if s.published == length s.journal then None else Some (Unpublished (length s.journal) s.published)) else Some (NoFeed e.feed)
refusal_of s Publish = if s.published == length s.journal then Some (Nothing (length s.journal)) else None
refusal_of s (Read k) = if nat_lt k (length s.seen) then None else Some (NoReader k)
refusal_of s (Tell k n) = if nat_lt k (length s.seen) then (if nat_le n s.published then None else Some (Beyond n s.published)) else Some (NoReader k)

-- lack of memory comes after every other reason: it is reported only where there is none of these
abbrev pub reason : StepRefusal → Option StepRefusal
reason Memory = None
reason (NoReader k) = Some (NoReader k)
reason (NoFeed f) = Some (NoFeed f)
reason (Unpublished n p) = Some (Unpublished n p)
reason (Nothing n) = Some (Nothing n)
reason (Beyond n p) = Some (Beyond n p)

-- no reader has seen more than is published, and at most the last entry is not published yet
pub record IsChained (s : Station) : Type 0 where
  pub seen : All (λ n. n ≤ s.published) s.seen
  pub published : s.published ≤ length s.journal
  pub last : length s.journal ≤ s.published + 1

-- nothing is taken back: the journal goes on, and neither what is published nor what a reader has seen falls
pub record Rises (s t : Station) : Type 0 where
  pub settings : t.settings ≡ s.settings
  pub journal : IsPrefix s.journal t.journal
  pub published : s.published ≤ t.published
  pub readers : length t.seen ≡ length s.seen
  pub seen : (k : ℕ) → k < length s.seen → slice_index s.seen k ≤ slice_index t.seen k

-- an entry is valid except for its feed, and where it is not refused, the journal has room for it: at most 2^22 are entered
abbrev pub MayCome : Station → Step → Type 0
MayCome s (Enter e) = IsValidWhat e.what × (refusal_of s (Enter e) ≡ None → length s.journal < 2 ^ 22)
MayCome s Publish = ⊤
MayCome s (Read k) = ⊤
MayCome s (Tell k n) = ⊤
