-- The page of a journal from the whole of it: what one entry more that was looked at does.
use Rattle.std.proofs.Common.{◌≡◌, ℕ, ◌+◌, ◌≤◌, ◌<◌, max, Bool, true, false, List, [], ◌∷◌, ◌++◌, refl, sym, ap, ◌∙◌, arith, set, subst, length, get_or, map, take}
use Rattle.std.specs.Prelude.{Option, None, Some, ◌==◌, cond}
use Rattle.std.specs.List.{enumerate_from, range_with_len}
use Rattle.std.specs.Option.{option_or}
use Rattle.std.proofs.lemmas.List.{length-take-le, map-append, take_all, take_more, take_more_set}
use Rattle.std.proofs.lemmas.List.FromFn.{map-range_with_len_more}
use Rattle.clock_filter.specs.Held.{last_eight}
use Rattle.journal_entry.specs.declared.entry.Entry.{Entry}
use Rattle.system_fold.specs.Feeds.{with_sample}
use Rattle.system_fold.specs.Leaps.{word_in, verdict_in, word_of, words_of, last_verdict, passed, cut_of}
use Rattle.system_fold.specs.Samples.{taken_in, samples_of}
use Rattle.system_fold.specs.Settings.{SettingsFields, AreValid, IsJournal}
use Rattle.system_fold.specs.KeptFold.{StandsForJournal, FoldFields, KeepsLeaps, feeds_of, or_older}
use Rattle.system_fold.specs.declared.feed.Feed.{Feed}
use Rattle.system_fold.specs.declared.leaps.Verdict.{Verdict}
use Rattle.system_fold.specs.declared.leaps.Word.{Word}
use Rattle.system_fold.specs.declared.settings.SourceKind.{SourceKind}
use Rattle.system_fold.proofs.FeedLaws.{samples-push}
use Rattle.system_fold.proofs.FitLaws.{enumerate-append}
use Rattle.system_fold.proofs.LeapLaws.{verdict-push, word-push, cut-push}

newer-is : {X : Type 0} (x o : Option X) → option_or x o ≡ or_older x o
newer-is None o = refl
newer-is (Some x) o = refl

-- the first entries, and the next
grown : {X : Type 0} (xs : List X) (i : ℕ) (x : X) → i < length xs → x ≡ get_or xs i x → take (i + 1) xs ≡ take i xs ++ x ∷ []
grown xs i x below here = take_more xs i x below ∙ ap (λ y. take i xs ++ y ∷ []) (sym here)

pub verdict-more : (journal : List Entry) (i : ℕ) (e : Entry) (last next said : Option Verdict) → i < length journal → e ≡ get_or journal i e → last ≡ last_verdict (take i journal) → said ≡ verdict_in e.at e.what → next ≡ option_or said last → next ≡ last_verdict (take (i + 1) journal)
verdict-more journal i e last next said below here was is more =
    more
    ∙ newer-is said last
    ∙ ap (λ (o : Option Verdict). or_older o last) is
    ∙ ap (or_older (verdict_in e.at e.what)) was
    ∙ sym (ap last_verdict (grown journal i e below here) ∙ verdict-push (take i journal) e)

pub word-more : (journal : List Entry) (i feed : ℕ) (e : Entry) (word next : Option Word) → i < length journal → e ≡ get_or journal i e → word ≡ word_of (take i journal) feed → next ≡ cond (e.feed == feed) (or_older (word_in e.at e.what) word) word → next ≡ word_of (take (i + 1) journal) feed
word-more journal i feed e word next below here was more =
    more
    ∙ ap (λ (o : Option Word). cond (e.feed == feed) (or_older (word_in e.at e.what) o) o) was
    ∙ sym (ap (λ (xs : List Entry). word_of xs feed) (grown journal i e below here) ∙ word-push (take i journal) e feed)

-- one feed more that was asked for its word
pub words-more : (journal : List Entry) (words : List (Option Word)) (i : ℕ) (word : Option Word) → i < length words → take i words ≡ map (word_of journal) (range_with_len 0 i) → word ≡ word_of journal i → take (i + 1) (set words i word) ≡ map (word_of journal) (range_with_len 0 (i + 1))
words-more journal words i word below was is =
    take_more_set words i word below
    ∙ ap (λ (ws : List (Option Word)). ws ++ word ∷ []) was
    ∙ ap (λ (w : Option Word). map (word_of journal) (range_with_len 0 i) ++ w ∷ []) is
    ∙ sym (map-range_with_len_more (word_of journal) 0 i i (omega arith))

pub words-all : (journal : List Entry) (words : List (Option Word)) (i : ℕ) → length words ≡ 16 → i ≡ 16 → take i words ≡ map (word_of journal) (range_with_len 0 i) → words ≡ words_of journal
words-all journal words i long all was =
    sym (take_all i words (omega arith)) ∙ was ∙ ap (λ (n : ℕ). map (word_of journal) (range_with_len 0 n)) all

-- one prefix more
pub cut-more : (journal : List Entry) (i cut next more : ℕ) → i < length journal → cut ≡ cut_of (take i journal) → more ≡ passed (take (i + 1) journal) → next ≡ max cut more → next ≡ cut_of (take (i + 1) journal)
cut-more [] i cut next more below was is greater = absurd (omega arith)
cut-more (x ∷ xs) i cut next more below was is greater =
    let e = get_or (x ∷ xs) i x in
    let prefix : take (i + 1) (x ∷ xs) ≡ take i (x ∷ xs) ++ e ∷ [] = take_more (x ∷ xs) i x below in
    greater
    ∙ ap (λ (n : ℕ). max n more) was
    ∙ ap (max (cut_of (take i (x ∷ xs)))) (is ∙ ap passed prefix)
    ∙ sym (ap cut_of prefix ∙ cut-push (take i (x ∷ xs)) e)

-- the samples of a feed, with an entry of its own and with another
pub samples-own : (kind : SourceKind) (feed : ℕ) (journal : List Entry) (e : Entry) → (e.feed == feed) ≡ true → samples_of kind feed (journal ++ e ∷ []) ≡ with_sample (samples_of kind feed journal) (taken_in kind e)
samples-own kind feed journal e own = samples-push kind feed journal e ∙ ap (λ (b : Bool). cond b (with_sample (samples_of kind feed journal) (taken_in kind e)) (samples_of kind feed journal)) own

pub samples-other : (kind : SourceKind) (feed : ℕ) (journal : List Entry) (e : Entry) → (e.feed == feed) ≡ false → samples_of kind feed (journal ++ e ∷ []) ≡ samples_of kind feed journal
samples-other kind feed journal e other = samples-push kind feed journal e ∙ ap (λ (b : Bool). cond b (with_sample (samples_of kind feed journal) (taken_in kind e)) (samples_of kind feed journal)) other

-- one feed more whose samples were looked for
pub feeds-more : (settings : SettingsFields) (journal : List Entry) (i : ℕ) (d : SourceKind) → i < length settings.sources →
    feeds_of (record settings { sources = take (i + 1) settings.sources }) journal
    ≡ feeds_of (record settings { sources = take i settings.sources }) journal ++ record { kind = get_or settings.sources i d; filter = last_eight (samples_of (get_or settings.sources i d) i journal) } ∷ []
feeds-more settings journal i d below =
    ap (λ (ks : List SourceKind). map kept (enumerate_from 0 ks)) (take_more kinds i d below)
    ∙ ap (map kept) (enumerate-append 0 (take i kinds) (get_or kinds i d ∷ []))
    ∙ map-append kept (enumerate_from 0 (take i kinds)) ((0 + length (take i kinds), get_or kinds i d) ∷ [])
    ∙ ap (λ (n : ℕ). map kept (enumerate_from 0 (take i kinds)) ++ kept (n, get_or kinds i d) ∷ []) place
  where
    kinds : List SourceKind
    kinds = settings.sources

    kept : ℕ × SourceKind → Feed
    kept k = record { kind = k.1; filter = last_eight (samples_of k.1 k.0 journal) }

    place : 0 + length (take i kinds) ≡ i
    place = let same : length (take i kinds) ≡ i = length-take-le i kinds (omega arith) in omega arith

-- what a journal comes to stands for it
pub stands-whole : (fold : FoldFields) (settings : SettingsFields) (journal : List Entry) → AreValid settings → length settings.sources ≤ 16 → IsJournal settings journal → fold.bound ≡ settings.bound → fold.feeds ≡ feeds_of settings journal → KeepsLeaps fold.leaps journal → fold.length ≡ length journal
    → StandsForJournal fold settings journal
stands-whole fold settings journal valid few entries bound feeds leaps length = record { valid = valid; few = few; entries = entries; bound = bound; feeds = feeds; leaps = leaps; length = length }

pub feeds-push-more : (settings : SettingsFields) (seen : List SourceKind) (journal : List Entry) (i : ℕ) (d : SourceKind) (feeds more : List Feed) (feed : Feed) → i < length seen → seen ≡ settings.sources
    → feeds ≡ feeds_of (record settings { sources = take i settings.sources }) journal
    → feed ≡ record { kind = get_or seen i d; filter = last_eight (samples_of (get_or seen i d) i journal) }
    → more ≡ feeds ++ feed ∷ []
    → more ≡ feeds_of (record settings { sources = take (i + 1) settings.sources }) journal
feeds-push-more settings seen journal i d feeds more feed below same was is longer =
    longer
    ∙ ap (λ (fs : List Feed). fs ++ feed ∷ []) was
    ∙ ap (λ (f : Feed). feeds_of (record settings { sources = take i settings.sources }) journal ++ f ∷ []) is
    ∙ ap (λ (ks : List SourceKind). feeds_of (record settings { sources = take i settings.sources }) journal ++ record { kind = get_or ks i d; filter = last_eight (samples_of (get_or ks i d) i journal) } ∷ []) same
    ∙ sym (feeds-more settings journal i d (subst (λ (ks : List SourceKind). i < length ks) same below))
