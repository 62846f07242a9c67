-- What a fold stands for: nothing at first, and with each entry the journal with one more.
use Rattle.std.proofs.Common.{◌≡◌, ℕ, suc, ◌+◌, ◌≤◌, ◌<◌, List, [], ◌∷◌, ◌++◌, refl, sym, ap, ◌∙◌, subst, length, get_or, take, drop}
use Rattle.std.specs.Prelude.{All, map}
use Rattle.std.specs.List.{enumerate_from, refill}
use Rattle.std.proofs.Math.Seq.{take-append_seam}
use Rattle.std.proofs.lemmas.List.{length-append, take_all, take_more}
use Rattle.std.proofs.lemmas.List.Elements.{All-cons, All-nil, All-append, All-get_or}
use Rattle.journal_entry.specs.Valid.{IsValid}
use Rattle.journal_entry.specs.declared.entry.Entry.{Entry}
use Rattle.select_core.specs.declared.chime.Candidate.{Candidate}
use Rattle.system_fold.specs.Settings.{SettingsFields, AreValid, IsJournal, IsKept}
use Rattle.system_fold.specs.KeptFold.{StandsForJournal, FoldFields, IsFold, KeepsLeaps, blank, feeds_of}
use Rattle.system_fold.specs.declared.feed.Feed.{Feed}
use Rattle.system_fold.specs.declared.leaps.Leaps.{Leaps}
use Rattle.system_fold.specs.declared.source.Source.{Source}

enumerated-length : {X Y : Type 0} (f : ℕ × X → Y) (a : ℕ) (xs : List X) → length (map f (enumerate_from a xs)) ≡ length xs
enumerated-length f a [] = refl
enumerated-length f a (x ∷ xs) = ap (λ (n : ℕ). suc n) (enumerated-length f (a + 1) xs)

-- as many as there are sources
pub feeds-length : (settings : SettingsFields) (journal : List Entry) → length (feeds_of settings journal) ≡ length settings.sources
feeds-length settings journal = enumerated-length (λ k. record { kind = k.1; filter = _ }) 0 settings.sources

-- of no entry there is no sample
enumerated-same : {X Y : Type 0} (f : X → Y) (a : ℕ) (xs : List X) → map (λ (k : ℕ × X). f k.1) (enumerate_from a xs) ≡ map f xs
enumerated-same f a [] = refl
enumerated-same {X} {Y} f a (x ∷ xs) = ap (λ (ys : List Y). f x ∷ ys) (enumerated-same f (a + 1) xs)

pub feeds-nil : (settings : SettingsFields) → feeds_of settings [] ≡ map blank settings.sources
feeds-nil settings = enumerated-same blank 0 settings.sources

pub few_of : (fold : FoldFields) (settings : SettingsFields) (journal : List Entry) → StandsForJournal fold settings journal → length fold.feeds ≤ 16
few_of fold settings journal h =
    let same : length fold.feeds ≡ length settings.sources = ap (λ (fs : List Feed). length fs) h.feeds ∙ feeds-length settings journal in
    subst (λ (n : ℕ). n ≤ 16) (sym same) h.few

pub few : (fold : FoldFields) (fit : List Source) (sweep : List Candidate) → IsFold fold fit sweep → length fold.feeds ≤ 16
few fold fit sweep h = few_of fold h.settings h.journal h.stands

-- the state of the empty journal
pub stands-nil : (fold : FoldFields) (settings : SettingsFields) → AreValid settings → length settings.sources ≤ 16 → fold.bound ≡ settings.bound → fold.feeds ≡ map blank settings.sources → KeepsLeaps fold.leaps [] → fold.length ≡ 0
    → StandsForJournal fold settings []
stands-nil fold settings valid few bound feeds leaps length = record {
  valid = valid;
  few = few;
  entries = All-nil (IsKept _);
  bound = bound;
  feeds = feeds ∙ sym (feeds-nil settings);
  leaps = leaps;
  length = length;
}

-- one entry more
pub stands-push : (old new : FoldFields) (settings : SettingsFields) (journal : List Entry) (e : Entry) → StandsForJournal old settings journal → IsKept (length old.feeds) e → new.bound ≡ old.bound
    → new.feeds ≡ feeds_of settings (journal ++ e ∷ []) → KeepsLeaps new.leaps (journal ++ e ∷ []) → new.length ≡ old.length + 1
    → StandsForJournal new settings (journal ++ e ∷ [])
stands-push old new settings journal e h valid bound feeds leaps longer = record {
  valid = h.valid;
  few = h.few;
  entries = All-append (IsKept (length settings.sources)) journal (e ∷ []) h.entries (All-cons (IsKept (length settings.sources)) e [] (subst (λ (n : ℕ). IsKept n e) same valid) (All-nil (IsKept (length settings.sources))));
  bound = bound ∙ h.bound;
  feeds = feeds;
  leaps = leaps;
  length = longer ∙ ap (λ (n : ℕ). n + 1) h.length ∙ sym (length-append journal (e ∷ []));
}
  where
    same : length old.feeds ≡ length settings.sources
    same = ap (λ (fs : List Feed). length fs) h.feeds ∙ feeds-length settings journal

-- a list put in place of one that is as long
pub refill-same : {X : Type 0} (n : ℕ) (xs ws : List X) → length ws ≡ n → refill n xs ws ≡ ws
refill-same {X} n xs ws same = subst (λ (k : ℕ). take k (ws ++ drop (length ws) xs) ≡ ws) same (take-append_seam ws (drop (length ws) xs))

-- the state after an entry, whose feeds have been put in place of the old ones
pub stands-step : (old : FoldFields) (n : ℕ) (taken : List Feed) (leaps : Leaps) (e : Entry) → n ≡ length old.feeds → IsKept (length old.feeds) e
    → ((settings : SettingsFields) (journal : List Entry) → old.feeds ≡ feeds_of settings journal → taken ≡ feeds_of settings (journal ++ e ∷ []))
    → ((journal : List Entry) → KeepsLeaps old.leaps journal → KeepsLeaps leaps (journal ++ e ∷ []))
    → (settings : SettingsFields) (journal : List Entry) → StandsForJournal old settings journal
    → StandsForJournal (record old { feeds = refill n old.feeds taken; leaps = leaps; length = old.length + 1 }) settings (journal ++ e ∷ [])
stands-step old n taken leaps e same valid takes steps settings journal h = stands-push old _ settings journal e h valid refl feeds (steps journal h.leaps) refl
  where
    long : length taken ≡ n
    long = ap (λ (fs : List Feed). length fs) (takes settings journal h.feeds) ∙ feeds-length settings (journal ++ e ∷ []) ∙ sym (feeds-length settings journal) ∙ sym (ap (λ (fs : List Feed). length fs) h.feeds) ∙ sym same

    feeds : refill n old.feeds taken ≡ feeds_of settings (journal ++ e ∷ [])
    feeds = refill-same n old.feeds taken long ∙ takes settings journal h.feeds

-- the next entry is of one of the feeds
pub kept-at : (fold : FoldFields) (settings : SettingsFields) (before journal : List Entry) (i : ℕ) (e : Entry) → StandsForJournal fold settings before → IsJournal settings journal → i < length journal → e ≡ get_or journal i e → IsValid (length fold.feeds) e
kept-at fold settings before journal i e h all below here = subst (λ (n : ℕ). IsValid n e) (sym same) kept.valid
  where
    same : length fold.feeds ≡ length settings.sources
    same = ap (λ (fs : List Feed). length fs) h.feeds ∙ feeds-length settings before

    kept : IsKept (length settings.sources) e
    kept = subst (IsKept (length settings.sources)) (sym here) (All-get_or (IsKept (length settings.sources)) journal i e below all)

-- what holds of each entry that was looked at, with one entry more, and at the end
pub all-more : {X : Type 0} (P : X → Type 0) (xs : List X) (i : ℕ) (x : X) → i < length xs → x ≡ get_or xs i x → All P (take i xs) → P x → All P (take (i + 1) xs)
all-more P xs i x below here all next =
    subst (All P) (sym (take_more xs i x below ∙ ap (λ y. take i xs ++ y ∷ []) (sym here))) (All-append P (take i xs) (x ∷ []) all (All-cons P x [] next (All-nil P)))

pub all-seen : {X : Type 0} (P : X → Type 0) (xs : List X) (i : ℕ) → length xs ≤ i → All P (take i xs) → All P xs
all-seen P xs i past all = subst (All P) (take_all i xs past) all
