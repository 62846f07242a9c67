-- What is kept of the feeds of a journal is sound: valid samples, none of them newer than now.
use Rattle.std.proofs.Common.{ℕ, ◌+◌, ◌-◌, ◌*◌, ◌^◌, ◌≤◌, ◌<◌, List, [], ◌∷◌, sym, arith, subst, length, max, map, pos, ◌-ℤ◌}
use Rattle.std.specs.Prelude.{All, IfSome, Option, None, Some, fold, filter, ◌==◌}
use Rattle.std.specs.List.{filter_map, cons_option, enumerate_from}
use Rattle.std.proofs.lemmas.Int.{ints}
use Rattle.std.proofs.lemmas.List.Elements.{All-head, All-tail, All-cons, All-nil, All-drop, All-filter}
use Rattle.tick_units.specs.Samples.{IsLength}
use Rattle.tick_units.specs.Samples.{IsValid as IsValidSample}
use Rattle.tick_units.specs.Units.{local_span}
use Rattle.tick_units.specs.Years.{first_supported}
use Rattle.tick_units.specs.declared.verdicts.Kind.TheVariants.{Verdict, Lone, Differs, Refused}
use Rattle.clock_filter.specs.Bounds.{AreValid}
use Rattle.clock_filter.specs.Held.{last_eight}
use Rattle.clock_filter.specs.declared.taken.Taken.{Taken}
use Rattle.journal_entry.specs.Valid.{IsValidWhat, IsSupported}
use Rattle.journal_entry.specs.declared.entry.Entry.{Entry}
use Rattle.journal_entry.specs.declared.entry.What.{What}
use Rattle.journal_entry.specs.declared.entry.What.TheVariants.{Heard, Declined, Notice}
use Rattle.journal_entry.specs.declared.entry.What.TheVariants.{Sample as Measured}
use Rattle.system_fold.specs.Fit.{IsSound}
use Rattle.system_fold.specs.Journal.{now_of}
use Rattle.system_fold.specs.Samples.{radio_sample, sample_in, taken_in, samples_of}
use Rattle.system_fold.specs.Settings.{SettingsFields, IsKept, IsJournal}
use Rattle.system_fold.specs.KeptFold.{StandsForJournal, FoldFields}
use Rattle.system_fold.specs.declared.feed.Feed.{Feed}
use Rattle.system_fold.specs.declared.settings.SourceKind.{SourceKind}
use Rattle.system_fold.specs.declared.settings.SourceKind.TheVariants.{Radio, Server}
use Rattle.system_fold.specs.declared.settings.SourceKind.TheVariants.{Leap as LeapFile}
use Rattle.system_fold.proofs.SourceLaws.{eight-again}

-- the span of a moment is less than that of any second that a frame may say
span-below : (at second : ℕ) → at < 2 ^ 50 → first_supported ≤ second → local_span at ≤ second * 2 ^ 32
span-below at second moment least = omega arith

radio-offset : (at second : ℕ) → at < 2 ^ 50 → IsSupported second → IsLength (pos (second * 2 ^ 32) -ℤ pos (local_span at))
radio-offset at second moment reported =
    let least = reported.least in
    let below = reported.below in
    let less = span-below at second moment least in
    record { least = omega (arith, ints); below = omega (arith, ints) }

radio-valid : (at second : ℕ) → at < 2 ^ 50 → IsSupported second → IsValidSample (radio_sample at second)
radio-valid at second moment reported = record {
  offset = radio-offset at second moment reported;
  delay = record { least = omega (arith, ints); below = omega (arith, ints) };
  dispersion = record { least = omega (arith, ints); below = omega (arith, ints) };
}

abbrev HasValid : Taken → Type 0
HasValid x = IsValidSample x.sample

taken-valid : (kind : SourceKind) (at : ℕ) (what : What) (feed : ℕ) → at < 2 ^ 50 → IsValidWhat what → IfSome (taken_in kind (record { feed = feed; at = at; what = what })) HasValid
taken-valid (Radio plan) at (Heard (Verdict second leap_at)) feed moment valid = radio-valid at second moment valid.reported
taken-valid (Radio plan) at (Heard (Lone second)) feed moment valid = tt
taken-valid (Radio plan) at (Heard (Differs before now apart)) feed moment valid = tt
taken-valid (Radio plan) at (Heard (Refused rule)) feed moment valid = tt
taken-valid (Radio plan) at (Measured sample) feed moment valid = tt
taken-valid (Radio plan) at (Declined code) feed moment valid = tt
taken-valid (Radio plan) at (Notice leap_at) feed moment valid = tt
taken-valid (Server address) at (Measured sample) feed moment valid = valid
taken-valid (Server address) at (Heard kind) feed moment valid = tt
taken-valid (Server address) at (Declined code) feed moment valid = tt
taken-valid (Server address) at (Notice leap_at) feed moment valid = tt
taken-valid LeapFile at what feed moment valid = tt

-- a sample has the moment of its entry
taken-at : (kind : SourceKind) (e : Entry) (now : ℕ) → e.at ≤ now → IfSome (taken_in kind e) (λ x. x.at ≤ now)
taken-at kind e now below = by_sample (sample_in kind e.at e.what)
  where
    by_sample : (o : Option _) → IfSome (Rattle.std.specs.Option.option_map (λ sample. record { at = e.at; sample = sample }) o) (λ (x : Taken). x.at ≤ now)
    by_sample None = tt
    by_sample (Some sample) = below

-- what holds of what each gives
filter_map-all : {X Y : Type 0} (P : X → Type 0) (Q : Y → Type 0) (f : X → Option Y) → ((x : X) → P x → IfSome (f x) Q) → (xs : List X) → All P xs → All Q (filter_map f xs)
filter_map-all P Q f each [] all = All-nil Q
filter_map-all {X} {Y} P Q f each (x ∷ xs) all = by_found (f x) (each x (All-head P x xs all)) (filter_map-all P Q f each xs (All-tail P x xs all))
  where
    by_found : (o : Option Y) → IfSome o Q → All Q (filter_map f xs) → All Q (cons_option o (filter_map f xs))
    by_found None here rest = rest
    by_found (Some y) here rest = All-cons Q y (filter_map f xs) here rest

samples-valid : (settings : SettingsFields) (kind : SourceKind) (feed : ℕ) (journal : List Entry) → IsJournal settings journal → AreValid (samples_of kind feed journal)
samples-valid settings kind feed journal all =
    filter_map-all (IsKept (length settings.sources)) HasValid (taken_in kind) (λ e kept. taken-valid kind e.at e.what e.feed kept.moment kept.valid.what) (filter (λ e. e.feed == feed) journal)
    (All-filter (λ e. e.feed == feed) (IsKept (length settings.sources)) journal all)

-- no entry is later than now
fold-least : (n most : ℕ) (ns : List ℕ) → n ≤ most → n ≤ fold max most ns
fold-least n most [] below = below
fold-least n most (m ∷ ns) below = fold-least n (max most m) ns (omega arith)

now-from : (most : ℕ) (journal : List Entry) → All (λ e. e.at ≤ fold max most (map (λ (x : Entry). x.at) journal)) journal
now-from most [] = All-nil (λ e. e.at ≤ most)
now-from most (e ∷ journal) = All-cons (λ x. x.at ≤ fold max (max most e.at) (map (λ (y : Entry). y.at) journal)) e journal (fold-least e.at (max most e.at) (map (λ (y : Entry). y.at) journal) (omega arith)) (now-from (max most e.at) journal)

samples-timely : (kind : SourceKind) (feed : ℕ) (journal : List Entry) → All (λ x. x.at ≤ now_of journal) (samples_of kind feed journal)
samples-timely kind feed journal =
    filter_map-all (λ e. e.at ≤ now_of journal) (λ x. x.at ≤ now_of journal) (taken_in kind) (λ e below. taken-at kind e (now_of journal) below) (filter (λ e. e.feed == feed) journal)
    (All-filter (λ e. e.feed == feed) (λ e. e.at ≤ now_of journal) journal (now-from 0 journal))

one-sound : (settings : SettingsFields) (journal : List Entry) (feed : ℕ) (kind : SourceKind) → IsJournal settings journal → IsSound (now_of journal) (record { kind = kind; filter = last_eight (samples_of kind feed journal) })
one-sound settings journal feed kind all = record {
  last = record { last = sym (eight-again (samples_of kind feed journal)) };
  valid = All-drop HasValid (length (samples_of kind feed journal) - 8) (samples_of kind feed journal) (samples-valid settings kind feed journal all);
  timely = All-drop (λ x. x.at ≤ now_of journal) (length (samples_of kind feed journal) - 8) (samples_of kind feed journal) (samples-timely kind feed journal);
}

sound-from : (settings : SettingsFields) (journal : List Entry) (a : ℕ) (kinds : List SourceKind) → IsJournal settings journal → All (IsSound (now_of journal)) (map (λ (k : ℕ × SourceKind). record { kind = k.1; filter = last_eight (samples_of k.1 k.0 journal) }) (enumerate_from a kinds))
sound-from settings journal a [] all = All-nil (IsSound (now_of journal))
sound-from settings journal a (kind ∷ kinds) all = All-cons (IsSound (now_of journal)) (record { kind = kind; filter = last_eight (samples_of kind a journal) }) _ (one-sound settings journal a kind all) (sound-from settings journal (a + 1) kinds all)

-- what a fold keeps of its feeds
pub sound-feeds : (fold : FoldFields) (settings : SettingsFields) (journal : List Entry) → StandsForJournal fold settings journal → All (IsSound fold.leaps.latest) fold.feeds
sound-feeds fold settings journal h =
    subst (λ (n : ℕ). All (IsSound n) fold.feeds) (sym h.leaps.now)
    (subst (λ (fs : List Feed). All (IsSound (now_of journal)) fs) (sym h.feeds) (sound-from settings journal 0 settings.sources h.entries))
