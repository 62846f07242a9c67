-- Scaffolding: the sources that are fit, by what is kept of the feeds.
use Rattle.std.specs.Prelude.{◌≡◌, ℕ, ◌-◌, ◌^◌, ◌≤◌, ◌<◌, nat_le, Option, None, Some, List, All, filter, length, slice_index_or, pos, ◌≤ℤ◌, if◌then◌else◌}
use Rattle.std.specs.List.{filter_map, enumerate_from}
use Rattle.std.specs.Option.{option_map}
use Rattle.clock_filter.specs.Bounds.{AreValid, IsMeasured}
use Rattle.clock_filter.specs.Distance.{distance_of, is_fit_at}
use Rattle.clock_filter.specs.Figures.{figures_of}
use Rattle.clock_filter.specs.Held.{StandsFor, held}
use Rattle.select_core.specs.Sweeping.{others, with_candidate}
use Rattle.select_core.specs.declared.chime.Candidate.{Candidate}
use Rattle.system_fold.specs.declared.feed.Feed.{Feed}
use Rattle.clock_filter.specs.declared.figures.Figures.{Figures}
use Rattle.system_fold.specs.declared.settings.SourceKind.{SourceKind}
use Rattle.system_fold.specs.declared.source.Source.{Source}

-- what is kept of a feed: its last samples, which are valid and from no later than now
pub record IsSound (now : ℕ) (feed : Feed) : Type 0 where
  pub last : StandsFor feed.filter feed.filter
  pub valid : AreValid feed.filter
  pub timely : All (λ x. x.at ≤ now) feed.filter

abbrev pub if_fit : ℕ → Option Source → Option Source
if_fit now None = None
if_fit now (Some s) = if is_fit_at now s.figures then Some s else None

-- the source of a feed with a number, with figures
abbrev pub source_with : ℕ → SourceKind → Figures → Source
source_with number kind figures = record { feed = number; kind = kind; figures = figures }

-- a feed with a number, where its samples from the cut on make it fit
abbrev pub fit_source : ℕ → ℕ → ℕ × Feed → Option Source
fit_source cut now k = if_fit now (option_map (λ figures. record { feed = k.0; kind = k.1.kind; figures = figures }) (figures_of (held cut k.1.filter)))

abbrev pub fit_feeds : ℕ → ℕ → List Feed → List Source
fit_feeds cut now feeds = filter_map (fit_source cut now) (enumerate_from 0 feeds)

-- the figures of a fit source
pub record IsFit (now : ℕ) (s : Source) : Type 0 where
  pub measured : IsMeasured s.figures
  pub jitter : s.figures.jitter2 ≤ 2 ^ 80
  pub taken : s.figures.taken_at ≤ s.figures.newest
  pub newest : s.figures.newest ≤ now
  pub most : distance_of now s.figures ≤ℤ pos (2 ^ 32)
  pub stratum : s.figures.stratum < 15

-- each source has a greater number than the one before it
pub record AreUpward (fit : List Source) : Type 0 where
  pub upward : (i j : ℕ) (d : Source) → i < j → j < length fit → (slice_index_or fit i d).feed < (slice_index_or fit j d).feed

-- these are the fit ones among this many feeds
pub record AreFit (cut now : ℕ) (seen : List Feed) (fit : List Source) : Type 0 where
  pub value : fit ≡ fit_feeds cut now seen
  pub all : All (IsFit now) fit
  pub few : length fit ≤ length seen

-- the candidates of the feeds from a number on
abbrev pub from_feed : ℕ → List Candidate → List Candidate
from_feed first candidates = filter (λ c. nat_le first c.feed) candidates

-- from each number on there are no more candidates than feeds
pub record AreFew (feeds : ℕ) (candidates : List Candidate) : Type 0 where
  pub upward : (first : ℕ) → length (from_feed first candidates) ≤ feeds - first

-- the candidates with that of a feed, where it has one, and without it where it has none
abbrev pub with_some : ℕ → Option Candidate → List Candidate → List Candidate
with_some feed None candidates = others feed candidates
with_some feed (Some c) candidates = with_candidate c candidates
