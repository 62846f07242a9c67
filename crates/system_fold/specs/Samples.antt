-- The samples of the time in a journal, feed by feed: a radio's verdicts, and the answers that were taken of a server (RFC 5905,
-- section 8). The dispersion of 1 ms of a radio's sample is this project's own.
use Rattle.std.specs.Prelude.{ℕ, ◌*◌, ◌^◌, ◌==◌, Option, None, Some, List, filter, pos, ◌-ℤ◌}
use Rattle.std.specs.List.{filter_map}
use Rattle.std.specs.Option.{option_map}
use Rattle.tick_units.specs.Units.{local_span}
use Rattle.tick_units.specs.declared.sample.Sample.{Sample}
use Rattle.tick_units.specs.declared.verdicts.Kind.TheVariants.{Verdict, Lone, Differs, Refused}
use Rattle.clock_filter.specs.declared.taken.Taken.{Taken}
use Rattle.journal_entry.specs.declared.entry.Entry.{Entry}
use Rattle.journal_entry.specs.declared.entry.What.{What}
use Rattle.journal_entry.specs.declared.entry.What.TheVariants.{Heard, Declined, Notice}
use Rattle.journal_entry.specs.declared.entry.What.TheVariants.{Sample as Measured}
use Rattle.system_fold.specs.declared.settings.SourceKind.{SourceKind}
use Rattle.system_fold.specs.declared.settings.SourceKind.TheVariants.{Radio, Server}
use Rattle.system_fold.specs.declared.settings.SourceKind.TheVariants.{Leap as LeapFile}

-- a radio says that a second began at a moment: the span to add to the host's counter
abbrev pub radio_sample : ℕ → ℕ → Sample
radio_sample at second = record {
  offset = pos (second * 2 ^ 32) -ℤ pos (local_span at);
  delay = pos 0;
  dispersion = pos 4294968;
  stratum = 0;
  address = 0;
  root_delay = record { 0 = 0 };
  root_disp = record { 0 = 0 };
}

-- the sample that an entry is of a feed of this kind: a Verdict of a radio, a Sample of a server, and no other
abbrev pub sample_in : SourceKind → ℕ → What → Option Sample
sample_in (Radio plan) at (Heard (Verdict second leap_at)) = Some (radio_sample at second)
sample_in (Radio plan) at (Heard (Lone second)) = None
sample_in (Radio plan) at (Heard (Differs before now apart)) = None
sample_in (Radio plan) at (Heard (Refused rule)) = None
sample_in (Radio plan) at (Measured sample) = None
sample_in (Radio plan) at (Declined code) = None
sample_in (Radio plan) at (Notice leap_at) = None
sample_in (Server address) at (Measured sample) = Some sample
sample_in (Server address) at (Heard kind) = None
sample_in (Server address) at (Declined code) = None
sample_in (Server address) at (Notice leap_at) = None
sample_in LeapFile at what = None

abbrev pub taken_in : SourceKind → Entry → Option Taken
taken_in kind e = option_map (λ sample. record { at = e.at; sample = sample }) (sample_in kind e.at e.what)

-- the samples of a feed of this kind, in the order of the journal
abbrev pub samples_of : SourceKind → ℕ → List Entry → List Taken
samples_of kind feed journal = filter_map (taken_in kind) (filter (λ e. e.feed == feed) journal)
