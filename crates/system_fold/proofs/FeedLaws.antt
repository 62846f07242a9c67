-- What one entry more does to the samples of the feeds.
use Rattle.std.proofs.Common.{◌≡◌, ◌≢◌, ℕ, zero, suc, ◌+◌, ◌<◌, Bool, true, false, List, [], ◌∷◌, ◌++◌, refl, sym, ap, ◌∙◌, arith, set, subst, length, get_or}
use Rattle.std.specs.Prelude.{Option, None, Some, map, filter, ◌==◌, cond}
use Rattle.std.specs.List.{filter_map, cons_option, enumerate_from}
use Rattle.std.proofs.lemmas.List.{append-nil}
use Rattle.std.proofs.lemmas.List.Elements.{filter-append, filter_map-append}
use Rattle.std.proofs.lemmas.Bool.Decides.{nat_tests}
use Rattle.clock_filter.specs.Held.{StandsFor, last_eight}
use Rattle.clock_filter.specs.declared.taken.Taken.{Taken}
use Rattle.journal_entry.specs.declared.entry.Entry.{Entry}
use Rattle.system_fold.specs.Feeds.{with_sample}
use Rattle.system_fold.specs.Samples.{taken_in, samples_of}
use Rattle.system_fold.specs.Settings.{SettingsFields}
use Rattle.system_fold.specs.KeptFold.{feeds_of}
use Rattle.system_fold.specs.declared.feed.Feed.{Feed}
use Rattle.system_fold.specs.declared.settings.SourceKind.{SourceKind}

-- the samples of a feed: one more, where the entry is of this feed and a sample
pub samples-push : (kind : SourceKind) (feed : ℕ) (journal : List Entry) (e : Entry) → samples_of kind feed (journal ++ e ∷ []) ≡ cond (e.feed == feed) (with_sample (samples_of kind feed journal) (taken_in kind e)) (samples_of kind feed journal)
samples-push kind feed journal e =
    ap (filter_map (taken_in kind)) (filter-append (λ (x : Entry). x.feed == feed) journal (e ∷ []))
    ∙ by_test (e.feed == feed) (filter (λ (x : Entry). x.feed == feed) journal)
  where
    by_sample : (o : Option Taken) (xs : List Taken) → xs ++ cons_option o [] ≡ with_sample xs o
    by_sample None xs = append-nil xs
    by_sample (Some taken) xs = refl

    by_test : (b : Bool) (xs : List Entry) → filter_map (taken_in kind) (xs ++ cond b (e ∷ []) []) ≡ cond b (with_sample (filter_map (taken_in kind) xs) (taken_in kind e)) (filter_map (taken_in kind) xs)
    by_test true xs = filter_map-append (taken_in kind) xs (e ∷ []) ∙ by_sample (taken_in kind e) (filter_map (taken_in kind) xs)
    by_test false xs = ap (filter_map (taken_in kind)) (append-nil xs)

cons_same : {X : Type 0} {x y : X} {xs ys : List X} → x ≡ y → xs ≡ ys → x ∷ xs ≡ y ∷ ys
cons_same p q = cc

-- two functions that agree from a place on
same_from : {X Y : Type 0} (f g : ℕ × X → Y) (a : ℕ) (xs : List X) → ((k : ℕ) (x : X) → a < suc k → g (k, x) ≡ f (k, x)) → map g (enumerate_from a xs) ≡ map f (enumerate_from a xs)
same_from f g a [] h = refl
same_from f g a (x ∷ xs) h = cons_same (h a x (omega arith)) (same_from f g (a + 1) xs (λ k y below. h k y (omega arith)))

-- two functions that differ at one place alone
differs_at : {X Y : Type 0} (f g : ℕ × X → Y) (a : ℕ) (xs : List X) (i : ℕ) (d : X) (y : Y) → i < length xs → g (a + i, get_or xs i d) ≡ y → ((k : ℕ) (x : X) → k ≢ a + i → g (k, x) ≡ f (k, x)) → map g (enumerate_from a xs) ≡ set (map f (enumerate_from a xs)) i y
differs_at f g a [] i d y below here others = absurd (omega arith)
differs_at f g a (x ∷ xs) zero d y below here others =
    cons_same (subst (λ (k : ℕ). g (k, x) ≡ y) (omega arith) here) (same_from f g (a + 1) xs (λ k z above. others k z (λ same. absurd (omega arith))))
differs_at f g a (x ∷ xs) (suc i) d y below here others =
    cons_same (others a x (λ same. absurd (omega arith))) (differs_at f g (a + 1) xs i d y (omega arith) (subst (λ (k : ℕ). g (k, get_or xs i d) ≡ y) (omega arith) here) (λ k z other. others k z (λ same. other (omega arith))))

-- the feed of an entry takes its sample, the others stay
pub feeds-push : (settings : SettingsFields) (journal : List Entry) (e : Entry) (d : SourceKind) → e.feed < length settings.sources
    → feeds_of settings (journal ++ e ∷ []) ≡ set (feeds_of settings journal) e.feed (record { kind = get_or settings.sources e.feed d; filter = last_eight (with_sample (samples_of (get_or settings.sources e.feed d) e.feed journal) (taken_in (get_or settings.sources e.feed d) e)) })
feeds-push settings journal e d below = differs_at
    (λ (k : ℕ × SourceKind). kept k.1 (samples_of k.1 k.0 journal))
    (λ (k : ℕ × SourceKind). kept k.1 (samples_of k.1 k.0 (journal ++ e ∷ [])))
    0 settings.sources e.feed d _ below
    (ap (kept (get_or settings.sources e.feed d)) own)
    (λ k x apart. ap (kept x) (other k x apart))
  where
    kept : SourceKind → List Taken → Feed
    kept kind samples = record { kind = kind; filter = last_eight samples }

    own : samples_of (get_or settings.sources e.feed d) (0 + e.feed) (journal ++ e ∷ []) ≡ with_sample (samples_of (get_or settings.sources e.feed d) e.feed journal) (taken_in (get_or settings.sources e.feed d) e)
    own = subst (λ (k : ℕ). samples_of (get_or settings.sources e.feed d) (0 + e.feed) (journal ++ e ∷ []) ≡ with_sample (samples_of (get_or settings.sources e.feed d) k journal) (taken_in (get_or settings.sources e.feed d) e)) (omega arith) (samples-push (get_or settings.sources e.feed d) (0 + e.feed) journal e ∙ ap (λ (b : Bool). cond b (with_sample (samples_of (get_or settings.sources e.feed d) (0 + e.feed) journal) (taken_in (get_or settings.sources e.feed d) e)) (samples_of (get_or settings.sources e.feed d) (0 + e.feed) journal)) itself)
      where
        itself : (e.feed == 0 + e.feed) ≡ true
        itself = grind (arith, nat_tests)

    other : (k : ℕ) (kind : SourceKind) → k ≢ 0 + e.feed → samples_of kind k (journal ++ e ∷ []) ≡ samples_of kind k journal
    other k kind apart = samples-push kind k journal e ∙ ap (λ (b : Bool). cond b (with_sample (samples_of kind k journal) (taken_in kind e)) (samples_of kind k journal)) not_k
      where
        not_k : (e.feed == k) ≡ false
        not_k = grind (arith, nat_tests)

-- the feed of a number
enumerated-at : {X Y : Type 0} (f : ℕ × X → Y) (a : ℕ) (xs : List X) (i : ℕ) (d : X) (e : Y) → i < length xs → get_or (map f (enumerate_from a xs)) i e ≡ f (a + i, get_or xs i d)
enumerated-at f a [] i d e below = absurd (omega arith)
enumerated-at f a (x ∷ xs) zero d e below = ap (λ (n : ℕ). f (n, x)) (omega arith)
enumerated-at f a (x ∷ xs) (suc i) d e below = enumerated-at f (a + 1) xs i d e (omega arith) ∙ ap (λ (n : ℕ). f (n, get_or xs i d)) (omega arith)

feed_same : (x y : Feed) → x.kind ≡ y.kind → x.filter ≡ y.filter → x ≡ y
feed_same x y p q = ap (λ (k : SourceKind). feed k x.filter) p ∙ ap (λ (f : List Taken). feed y.kind f) q
  where
    feed : SourceKind → List Taken → Feed
    feed k f = record { kind = k; filter = f }

-- where the feed of an entry has taken its sample, the feeds are those of the longer journal
pub feeds-taken : (settings : SettingsFields) (journal : List Entry) (e : Entry) (old new : Feed) (feeds : List Feed) → feeds ≡ feeds_of settings journal → e.feed < length settings.sources → old ≡ get_or feeds e.feed old → new.kind ≡ old.kind
    → ((samples : List Taken) → StandsFor old.filter samples → StandsFor new.filter (with_sample samples (taken_in old.kind e)))
    → set feeds e.feed new ≡ feeds_of settings (journal ++ e ∷ [])
feeds-taken settings journal e old new feeds same below here kind filter =
    ap (λ (fs : List Feed). set fs e.feed new) same
    ∙ ap (λ (x : Feed). set (feeds_of settings journal) e.feed x) (feed_same new (taken-by own_kind) (kind ∙ kind_is) filter_is)
    ∙ sym (feeds-push settings journal e old.kind below)
  where
    own_kind : SourceKind
    own_kind = get_or settings.sources e.feed old.kind

    own : List Taken
    own = samples_of own_kind e.feed journal

    taken-by : SourceKind → Feed
    taken-by k = record { kind = own_kind; filter = last_eight (with_sample own (taken_in k e)) }

    old_is : old ≡ record { kind = own_kind; filter = last_eight own }
    old_is = here ∙ ap (λ (fs : List Feed). get_or fs e.feed old) same ∙ enumerated-at (λ (k : ℕ × SourceKind). kept k.1 (samples_of k.1 k.0 journal)) 0 settings.sources e.feed old.kind old below ∙ ap (λ (n : ℕ). kept own_kind (samples_of own_kind n journal)) (omega arith)
      where
        kept : SourceKind → List Taken → Feed
        kept k samples = record { kind = k; filter = last_eight samples }

    kind_is : old.kind ≡ own_kind
    kind_is = ap (λ (x : Feed). x.kind) old_is

    filter_is : new.filter ≡ last_eight (with_sample own (taken_in own_kind e))
    filter_is = (filter own (record { last = ap (λ (x : Feed). x.filter) old_is })).last ∙ ap (λ (k : SourceKind). last_eight (with_sample own (taken_in k e))) kind_is
