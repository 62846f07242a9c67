-- What is kept of the feeds is sound, and gives the sources of the journal that are fit.
use Rattle.std.proofs.Common.{◌≡◌, ℕ, ◌+◌, ◌-◌, ◌≤◌, Bool, true, false, List, [], ◌∷◌, refl, sym, ap, ◌∙◌, arith, subst, length, map, drop}
use Rattle.std.specs.Prelude.{Option, None, Some, fold, filter, cond, nat_le}
use Rattle.std.specs.List.{filter_map, cons_option, enumerate_from}
use Rattle.std.specs.Option.{option_map}
use Rattle.std.proofs.lemmas.List.{length-drop}
use Rattle.clock_filter.specs.Distance.{is_fit_at}
use Rattle.clock_filter.specs.Figures.{figures_of}
use Rattle.clock_filter.specs.Held.{last_eight}
use Rattle.clock_filter.specs.declared.taken.Taken.{Taken}
use Rattle.journal_entry.specs.declared.entry.Entry.{Entry}
use Rattle.system_fold.specs.Fit.{if_fit, fit_source, fit_feeds}
use Rattle.system_fold.specs.Journal.{now_of}
use Rattle.system_fold.specs.Leaps.{cut_of}
use Rattle.system_fold.specs.Samples.{samples_of}
use Rattle.system_fold.specs.Settings.{SettingsFields}
use Rattle.system_fold.specs.Sources.{source_of, fit_sources}
use Rattle.system_fold.specs.KeptFold.{StandsForJournal, FoldFields, feeds_of}
use Rattle.system_fold.specs.declared.feed.Feed.{Feed}
use Rattle.system_fold.specs.declared.settings.SourceKind.{SourceKind}
use Rattle.system_fold.specs.declared.source.Source.{Source}

eight-few : {X : Type 0} (xs : List X) → length (last_eight xs) ≤ 8
eight-few xs = subst (λ (n : ℕ). n ≤ 8) (sym (length-drop (length xs - 8) xs)) (omega arith)

-- the last eight of the last eight
pub eight-again : {X : Type 0} (xs : List X) → last_eight (last_eight xs) ≡ last_eight xs
eight-again xs = let few : length (last_eight xs) ≤ 8 = eight-few xs in let none : length (last_eight xs) - 8 ≡ 0 = omega arith in ap (λ (n : ℕ). drop n (last_eight xs)) none

-- what is kept gives a source that is fit as the journal does
one-source : (journal : List Entry) (feed : ℕ) (kind : SourceKind) → fit_source (cut_of journal) (now_of journal) (feed, record { kind = kind; filter = last_eight (samples_of kind feed journal) }) ≡ if_fit (now_of journal) (source_of journal feed kind)
one-source journal feed kind = ap (λ (xs : List Taken). if_fit (now_of journal) (option_map (λ figures. record { feed = feed; kind = kind; figures = figures }) (figures_of (held_from xs)))) (eight-again (samples_of kind feed journal))
  where
    held_from : List Taken → List Taken
    held_from xs = filter (λ x. nat_le (cut_of journal) x.at) xs

filter-some : (now : ℕ) (o : Option Source) (rest : List Source) → filter (λ s. is_fit_at now s.figures) (cons_option o rest) ≡ cons_option (if_fit now o) (filter (λ s. is_fit_at now s.figures) rest)
filter-some now None rest = refl
filter-some now (Some s) rest = by_test (is_fit_at now s.figures)
  where
    by_test : (b : Bool) → cond b (s ∷ filter (λ s. is_fit_at now s.figures) rest) (filter (λ s. is_fit_at now s.figures) rest) ≡ cons_option (cond b (Some s) None) (filter (λ s. is_fit_at now s.figures) rest)
    by_test true = refl
    by_test false = refl

fit-from : (journal : List Entry) (a : ℕ) (kinds : List SourceKind) →
    filter_map (fit_source (cut_of journal) (now_of journal)) (enumerate_from a (map (λ (k : ℕ × SourceKind). record { kind = k.1; filter = last_eight (samples_of k.1 k.0 journal) }) (enumerate_from a kinds)))
    ≡ filter (λ s. is_fit_at (now_of journal) s.figures) (filter_map (λ (k : ℕ × SourceKind). source_of journal k.0 k.1) (enumerate_from a kinds))
fit-from journal a [] = refl
fit-from journal a (kind ∷ kinds) =
    ap (λ (o : Option Source). cons_option o (filter_map (fit_source (cut_of journal) (now_of journal)) (enumerate_from (a + 1) (map (λ (k : ℕ × SourceKind). record { kind = k.1; filter = last_eight (samples_of k.1 k.0 journal) }) (enumerate_from (a + 1) kinds))))) (one-source journal a kind)
    ∙ ap (λ (xs : List Source). cons_option (if_fit (now_of journal) (source_of journal a kind)) xs) (fit-from journal (a + 1) kinds)
    ∙ sym (filter-some (now_of journal) (source_of journal a kind) (filter_map (λ (k : ℕ × SourceKind). source_of journal k.0 k.1) (enumerate_from (a + 1) kinds)))

-- the fit ones of what is kept are those of the journal
pub fit-feeds : (fold : FoldFields) (settings : SettingsFields) (journal : List Entry) → StandsForJournal fold settings journal → fit_feeds fold.leaps.cut fold.leaps.latest fold.feeds ≡ fit_sources settings journal
fit-feeds fold settings journal h =
    ap (λ (fs : List Feed). fit_feeds fold.leaps.cut fold.leaps.latest fs) h.feeds
    ∙ ap (λ (n : ℕ). fit_feeds n fold.leaps.latest (feeds_of settings journal)) h.leaps.cut
    ∙ ap (λ (n : ℕ). fit_feeds (cut_of journal) n (feeds_of settings journal)) h.leaps.now
    ∙ fit-from journal 0 settings.sources
