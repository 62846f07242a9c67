-- Scaffolding: what a fold keeps of a journal, against the definitions on the whole of it.
use Rattle.std.specs.Prelude.{◌≡◌, ℕ, ◌≤◌, Bool, max, Option, None, Some, List, [], length, map, slice_set}
use Rattle.std.specs.List.{enumerate_from}
use Rattle.tick_units.specs.Orders.{better}
use Rattle.clock_filter.specs.Held.{last_eight}
use Rattle.journal_entry.specs.declared.entry.Entry.{Entry}
use Rattle.select_core.specs.declared.chime.Candidate.{Candidate}
use Rattle.system_fold.specs.Fit.{AreFit}
use Rattle.system_fold.specs.Journal.{now_of}
use Rattle.system_fold.specs.Leaps.{word_in, verdict_in, words_of, last_verdict, passed_among, cut_of}
use Rattle.system_fold.specs.Samples.{samples_of}
use Rattle.system_fold.specs.Selecting.{candidate_of}
use Rattle.system_fold.specs.Settings.{SettingsFields, AreValid, IsJournal}
use Rattle.system_fold.specs.declared.feed.Feed.{Feed}
use Rattle.system_fold.specs.declared.fold.FoldState.TheInside.{Inside}
use Rattle.system_fold.specs.declared.leaps.Leaps.{Leaps}
use Rattle.system_fold.specs.declared.leaps.Word.{Word}
use Rattle.system_fold.specs.declared.settings.SourceKind.{SourceKind}
use Rattle.system_fold.specs.declared.source.Source.{Source}

-- these words, this Verdict and this cut are kept of a journal
pub record KeepsLeaps (s : Leaps) (journal : List Entry) : Type 0 where
  pub now : s.latest ≡ now_of journal
  pub cut : s.cut ≡ cut_of journal
  pub verdict : s.verdict ≡ last_verdict journal
  pub words : s.words ≡ words_of journal

-- a feed with no sample
abbrev pub blank : SourceKind → Feed
blank kind = record { kind = kind; filter = [] }

-- each feed by its number: its kind, and its last eight samples
abbrev pub feeds_of : SettingsFields → List Entry → List Feed
feeds_of settings journal = map (λ k. record { kind = k.1; filter = last_eight (samples_of k.1 k.0 journal) }) (enumerate_from 0 settings.sources)

-- what a fold keeps
pub record FoldFields : Type 0 where
  pub bound : ℕ
  pub feeds : List Feed
  pub leaps : Leaps
  pub length : ℕ

abbrev pub kept_by : Inside → FoldFields
kept_by fold = record { bound = fold.bound; feeds = fold.feeds.items; leaps = fold.leaps; length = fold.length }

-- a fold stands for valid settings and a journal of valid entries
pub record StandsForJournal (fold : FoldFields) (settings : SettingsFields) (journal : List Entry) : Type 0 where
  pub valid : AreValid settings
  pub few : length settings.sources ≤ 16
  pub entries : IsJournal settings journal
  pub bound : fold.bound ≡ settings.bound
  pub feeds : fold.feeds ≡ feeds_of settings journal
  pub leaps : KeepsLeaps fold.leaps journal
  pub length : fold.length ≡ length journal

-- each fold stands for some settings and journal, and has ready the fit sources and what the selection receives of them
pub record IsFold (fold : FoldFields) (fit : List Source) (sweep : List Candidate) : Type 0 where
  pub settings : SettingsFields
  pub journal : List Entry
  pub stands : StandsForJournal fold settings journal
  pub sources : AreFit fold.leaps.cut fold.leaps.latest fold.feeds fit
  pub candidates : sweep ≡ map (candidate_of fold.leaps.latest) fit

-- the newer, where there is one
abbrev pub or_older : {A : Type 0} → Option A → Option A → Option A
or_older None older = older
or_older (Some newer) older = Some newer

abbrev pub words_with : List (Option Word) → ℕ → Option Word → List (Option Word)
words_with words feed None = words
words_with words feed (Some word) = slice_set words feed (Some word)

-- one entry more
pub record StepsLeaps (old new : Leaps) (e : Entry) : Type 0 where
  pub now : new.latest ≡ max old.latest e.at
  pub verdict : new.verdict ≡ or_older (verdict_in e.at e.what) old.verdict
  pub words : new.words ≡ words_with old.words e.feed (word_in e.at e.what)
  pub cut : new.cut ≡ max old.cut (passed_among new.latest new.verdict new.words)

-- the best of some and one more, where there is one more
abbrev pub best_with : {A : Type 0} → (A → A → Bool) → Option A → Option A → Option A
best_with beats o None = o
best_with beats o (Some y) = better beats o y
