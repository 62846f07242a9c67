-- The sources of a journal, each with what its samples say, and those of them that are fit (RFC 5905, sections 10 and 11.2).
use Rattle.std.specs.Prelude.{ℕ, Option, List, filter}
use Rattle.std.specs.List.{filter_map, enumerate_from}
use Rattle.std.specs.Option.{option_map}
use Rattle.clock_filter.specs.Distance.{is_fit_at}
use Rattle.clock_filter.specs.Figures.{figures_of}
use Rattle.clock_filter.specs.Held.{held}
use Rattle.journal_entry.specs.declared.entry.Entry.{Entry}
use Rattle.system_fold.specs.Journal.{now_of}
use Rattle.system_fold.specs.Leaps.{cut_of}
use Rattle.system_fold.specs.Samples.{samples_of}
use Rattle.system_fold.specs.Settings.{SettingsFields}
use Rattle.system_fold.specs.declared.settings.SourceKind.{SourceKind}
use Rattle.system_fold.specs.declared.source.Source.{Source}

-- a feed and its figures: of its last eight samples those that are not from before the cut; none where there are none
abbrev pub source_of : List Entry → ℕ → SourceKind → Option Source
source_of journal feed kind =
    option_map (λ figures. record { feed = feed; kind = kind; figures = figures }) (figures_of (held (cut_of journal) (samples_of kind feed journal)))

abbrev pub sources_of : SettingsFields → List Entry → List Source
sources_of settings journal = filter_map (λ k. source_of journal k.0 k.1) (enumerate_from 0 settings.sources)

-- those that may be selected: near enough at the end of the journal, and of a low enough stratum
abbrev pub fit_sources : SettingsFields → List Entry → List Source
fit_sources settings journal = filter (λ s. is_fit_at (now_of journal) s.figures) (sources_of settings journal)
