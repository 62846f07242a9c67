-- The sources that agree (RFC 5905, sections 11.2.1 and 11.2.2): which survive the selection, and which of them are left.
use Rattle.std.specs.Prelude.{ℕ, ◌==◌, Option, None, Some, List, [], filter, find, map}
use Rattle.std.specs.List.{filter_map}
use Rattle.clock_filter.specs.Distance.{distance_of}
use Rattle.cluster_core.specs.declared.survivor.Survivor.{Survivor}
use Rattle.select_core.specs.Selection.{chime_of, is_in}
use Rattle.select_core.specs.declared.chime.Candidate.{Candidate}
use Rattle.select_core.specs.declared.chime.Chime.{Chime}
use Rattle.system_fold.specs.declared.source.Source.{Source}

abbrev pub candidate_of : ℕ → Source → Candidate
candidate_of now s = record { feed = s.feed; offset = s.figures.offset; distance = distance_of now s.figures }

abbrev pub survivor_of : ℕ → Source → Survivor
survivor_of now s = record {
  feed = s.feed;
  stratum = s.figures.stratum;
  distance = distance_of now s.figures;
  offset = s.figures.offset;
  jitter2 = s.figures.jitter2;
}

-- the sources whose offset lies in the interval that enough of them agree on; none where there is no such interval
abbrev pub survivors_in : Option Chime → ℕ → List Source → List Survivor
survivors_in None now fit = []
survivors_in (Some chime) now fit = map (survivor_of now) (filter (λ s. is_in chime s.figures.offset) fit)

abbrev pub survivors_of : ℕ → List Source → List Survivor
survivors_of now fit = survivors_in (chime_of (map (candidate_of now) fit)) now fit

-- the sources of survivors, in their order
abbrev pub sources_at : List Source → List Survivor → List Source
sources_at fit survivors = filter_map (λ x. find (λ s. s.feed == x.feed) fit) survivors
