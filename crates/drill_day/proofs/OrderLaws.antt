-- Where no entry names a leap second, the page of a journal is the same for every order that keeps the order of each feed's own
-- entries.
use Rattle.std.proofs.Common.{◌≡◌, ℕ, zero, suc, ◌+◌, ◌≤◌, max, ◌==◌, eq-eqb, Bool, true, false, List, [], ◌∷◌, if◌then◌else◌, length, map, filter, refl, sym, ap, ◌∙◌, subst, arith, le_refl, nat_lt}
use Rattle.std.specs.Prelude.{All, Option, None, Some, fold}
use Rattle.std.specs.List.{cons_option, enumerate_from, filter_map, last_or, range_with_len}
use Rattle.std.specs.Int.{from_bool}
use Rattle.std.specs.Option.{option_map}
use Rattle.std.proofs.lemmas.Bool.Decides.{nat_tests}
use Rattle.std.proofs.lemmas.List.Elements.{All-cons, All-filter, All-head, All-map, All-nil, All-tail, All-weaker}
use Rattle.tick_units.specs.Orders.{best, greatest}
use Rattle.tick_units.specs.declared.verdicts.Kind.TheVariants.{Verdict as Agreed, Lone, Differs, Refused}
use Rattle.clock_filter.specs.Distance.{is_fit_at}
use Rattle.clock_filter.specs.Figures.{figures_of}
use Rattle.clock_filter.specs.Held.{held}
use Rattle.journal_entry.specs.declared.entry.Entry.{Entry}
use Rattle.journal_entry.specs.declared.entry.What.{What}
use Rattle.journal_entry.specs.declared.entry.What.TheVariants.{Heard, Sample, Declined, Notice}
use Rattle.page_cell.specs.Claims.{of_feed}
use Rattle.system_fold.specs.Inputs.{inputs_of}
use Rattle.system_fold.specs.Journal.{now_of, prefixes}
use Rattle.system_fold.specs.Leaps.{ahead_of, armed_among, armed_of, cut_of, last_verdict, leap_of, passed, passed_among, passed_by, word_in, word_of, words_of}
use Rattle.system_fold.specs.Page.{page_by, page_of}
use Rattle.system_fold.specs.Samples.{samples_of, taken_in}
use Rattle.system_fold.specs.Settings.{SettingsFields}
use Rattle.system_fold.specs.Sources.{fit_sources, source_of}
use Rattle.system_fold.specs.declared.leaps.Leap.{Leap}
use Rattle.system_fold.specs.declared.leaps.Verdict.{Verdict}
use Rattle.system_fold.specs.declared.leaps.Word.{Word}
use Rattle.system_fold.specs.declared.leaps.Word.TheVariants.{Verified, Announced}
use Rattle.system_fold.specs.declared.settings.SourceKind.{SourceKind}
use Rattle.system_fold.specs.declared.source.Source.{Source}
use Rattle.drill_day.specs.Orders.{KeepsFeeds, NamesNoLeap, leap_named}

-- what holds of the entries of each feed holds of all
pub of_feeds-all : (P : Entry → Type 0) (journal : List Entry) → ((feed : ℕ) → All P (of_feed feed journal)) → All P journal
of_feeds-all P [] each = All-nil P
of_feeds-all P (e ∷ journal) each = All-cons P e journal own (of_feeds-all P journal (λ feed. later (e.feed == feed) (of_feed feed journal) (each feed)))
  where
    own : P e
    own = All-head P e (of_feed e.feed journal) (subst (λ b. All P (if b then e ∷ of_feed e.feed journal else of_feed e.feed journal)) (eq-eqb e.feed e.feed refl) (each e.feed))

    later : (b : Bool) (rest : List Entry) → All P (if b then e ∷ rest else rest) → All P rest
    later true rest all = All-tail P e rest all
    later false rest all = all

-- so it holds of another order of the journal
pub keeps-all : (P : Entry → Type 0) (a b : List Entry) → KeepsFeeds a b → All P a → All P b
keeps-all P a b keeps all = of_feeds-all P b (λ feed. subst (All P) (keeps feed) (All-filter (λ e. e.feed == feed) P a all))

pub keeps-back : (a b : List Entry) → KeepsFeeds a b → KeepsFeeds b a
keeps-back a b keeps = λ feed. sym (keeps feed)

-- the samples of a feed are made of its own entries
pub samples-kept : (kind : SourceKind) (feed : ℕ) (a b : List Entry) → KeepsFeeds a b → samples_of kind feed a ≡ samples_of kind feed b
samples-kept kind feed a b keeps = ap (filter_map (taken_in kind)) (keeps feed)

-- so is its word
pub words-kept : (a b : List Entry) → KeepsFeeds a b → words_of a ≡ words_of b
words-kept a b keeps = λ i. map (λ feed. last_or None (filter_map (λ (e : Entry). word_in e.at e.what) (keeps feed i))) (range_with_len 0 16)

-- the greatest of numbers, from one on, is no less than that one and than each of them
greatest-above : (f : Entry → ℕ) (least : ℕ) (journal : List Entry) → least ≤ fold max least (map f journal)
greatest-above f least [] = le_refl least
greatest-above f least (e ∷ journal) = let above = greatest-above f (max least (f e)) journal in omega arith

greatest-all : (f : Entry → ℕ) (least : ℕ) (journal : List Entry) → All (λ e. f e ≤ fold max least (map f journal)) journal
greatest-all f least [] = All-nil _
greatest-all f least (e ∷ journal) =
    let above = greatest-above f (max least (f e)) journal in
    All-cons (λ x. f x ≤ fold max (max least (f e)) (map f journal)) e journal (omega arith) (greatest-all f (max least (f e)) journal)

-- it is no greater than what none of these passes
greatest-least : (f : Entry → ℕ) (least most : ℕ) (journal : List Entry) → least ≤ most → All (λ e. f e ≤ most) journal → fold max least (map f journal) ≤ most
greatest-least f least most [] below all = below
greatest-least f least most (e ∷ journal) below all =
    let here = All-head (λ x. f x ≤ most) e journal all in
    greatest-least f (max least (f e)) most journal (omega arith) (All-tail (λ x. f x ≤ most) e journal all)

now-below : (a b : List Entry) → KeepsFeeds a b → now_of b ≤ now_of a
now-below a b keeps = greatest-least (λ e. e.at) 0 (now_of a) b (omega arith) (keeps-all (λ e. e.at ≤ now_of a) a b keeps (greatest-all (λ e. e.at) 0 a))

-- the greatest moment doesn't depend on an order at all
pub now-kept : (a b : List Entry) → KeepsFeeds a b → now_of a ≡ now_of b
now-kept a b keeps = let one = now-below a b keeps in let two = now-below b a (keeps-back a b keeps) in omega arith

-- the entries of the feeds below a number
abbrev below : ℕ → List Entry → List Entry
below n journal = filter (λ e. nat_lt e.feed n) journal

one_more : (b : Bool) (e : Entry) (rest : List Entry) → length (if b then e ∷ rest else rest) ≡ from_bool b + length rest
one_more true e rest = omega arith
one_more false e rest = omega arith

-- of one feed more
below-more : (n : ℕ) (journal : List Entry) → length (below (suc n) journal) ≡ length (below n journal) + length (of_feed n journal)
below-more n [] = refl
below-more n (e ∷ journal) =
    let rest = below-more n journal in
    let whole = one_more (nat_lt e.feed (suc n)) e (below (suc n) journal) in
    let part = one_more (nat_lt e.feed n) e (below n journal) in
    let own = one_more (e.feed == n) e (of_feed n journal) in
    let split = from_bool-split (nat_lt e.feed (suc n)) (nat_lt e.feed n) (e.feed == n) refl refl refl in
    omega (arith, rest, whole, part, own, split)
  where
    from_bool-split : (whole part own : Bool) → nat_lt e.feed (suc n) ≡ whole → nat_lt e.feed n ≡ part → (e.feed == n) ≡ own → from_bool whole ≡ from_bool part + from_bool own
    from_bool-split true true true one two three = absurd (grind (arith, nat_tests))
    from_bool-split true true false one two three = refl
    from_bool-split true false true one two three = refl
    from_bool-split true false false one two three = absurd (grind (arith, nat_tests))
    from_bool-split false true true one two three = absurd (grind (arith, nat_tests))
    from_bool-split false true false one two three = absurd (grind (arith, nat_tests))
    from_bool-split false false true one two three = absurd (grind (arith, nat_tests))
    from_bool-split false false false one two three = refl

below-kept : (a b : List Entry) → KeepsFeeds a b → (n : ℕ) → length (below n a) ≡ length (below n b)
below-kept a b keeps zero = none-below a ∙ sym (none-below b)
  where
    none-below : (journal : List Entry) → length (below 0 journal) ≡ 0
    none-below [] = refl
    none-below (e ∷ journal) =
        let here : nat_lt e.feed 0 ≡ false = grind (arith, nat_tests) in
        ap (λ b. length (if b then e ∷ below 0 journal else below 0 journal)) here ∙ none-below journal
below-kept a b keeps (suc n) =
    let rest = below-kept a b keeps n in
    let own = ap length (keeps n) in
    below-more n a ∙ omega (arith, rest, own) ∙ sym (below-more n b)

-- below a number that no feed reaches these are all
below-all : (n : ℕ) (journal : List Entry) → All (λ e. e.feed ≤ n) journal → below (suc n) journal ≡ journal
below-all n [] all = refl
below-all n (e ∷ journal) all =
    let within = All-head (λ x. x.feed ≤ n) e journal all in
    let here : nat_lt e.feed (suc n) ≡ true = grind (arith, nat_tests) in
    ap (λ b. if b then e ∷ below (suc n) journal else below (suc n) journal) here ∙ ap (λ rest. e ∷ rest) (below-all n journal (All-tail (λ x. x.feed ≤ n) e journal all))

-- nor does the number of entries
pub length-kept : (a b : List Entry) → KeepsFeeds a b → length a ≡ length b
length-kept a b keeps =
    let last = fold max 0 (map (λ (e : Entry). e.feed) a) in
    let all = greatest-all (λ (e : Entry). e.feed) 0 a in
    ap length (sym (below-all last a all)) ∙ below-kept a b keeps (suc last) ∙ ap length (below-all last b (keeps-all (λ (e : Entry). e.feed ≤ last) a b keeps all))

-- an entry that names no leap second has no word with one, whatever the last Verdict is
no-leap-in : (last : Option Verdict) (at : ℕ) (what : What) → leap_named what ≡ 0 → leap_of last (word_in at what) ≡ None
no-leap-in last at (Heard (Agreed second leap_at)) none = subst (λ n. leap_of last (Some (Verified at second n)) ≡ None) (sym none) refl
no-leap-in last at (Heard (Lone second)) none = refl
no-leap-in last at (Heard (Differs before now apart)) none = refl
no-leap-in last at (Heard (Refused rule)) none = refl
no-leap-in last at (Sample sample) none = refl
no-leap-in last at (Declined code) none = refl
no-leap-in None at (Notice leap_at) none = refl
no-leap-in (Some v) at (Notice leap_at) none = subst (λ n. leap_of (Some v) (Some (Announced n)) ≡ None) (sym none) refl

-- nor has the last of such words
no-leap-last : (last : Option Verdict) (before : Option Word) (entries : List Entry) → leap_of last before ≡ None → NamesNoLeap entries → leap_of last (last_or before (filter_map (λ (e : Entry). word_in e.at e.what) entries)) ≡ None
no-leap-last last before [] none all = none
no-leap-last last before (e ∷ entries) none all =
    by_word
    (word_in e.at e.what)
    (no-leap-in last e.at e.what (All-head (λ (x : Entry). leap_named x.what ≡ 0) e entries all))
    (λ word here. no-leap-last last word entries here (All-tail (λ (x : Entry). leap_named x.what ≡ 0) e entries all))
  where
    by_word : (word : Option Word) → leap_of last word ≡ None → ((o : Option Word) → leap_of last o ≡ None → leap_of last (last_or o (filter_map (λ (x : Entry). word_in x.at x.what) entries)) ≡ None) → leap_of last (last_or before (cons_option word (filter_map (λ (x : Entry). word_in x.at x.what) entries))) ≡ None
    by_word None here further = further before none
    by_word (Some word) here further = further (Some word) here

-- what holds of everything holds of each item
All-every : {X : Type 0} (P : X → Type 0) → ((x : X) → P x) → (xs : List X) → All P xs
All-every P every [] = All-nil P
All-every P every (x ∷ xs) = All-cons P x xs (every x) (All-every P every xs)

-- so none of the words of a journal that names none has a leap second
no-leap-words : (last : Option Verdict) (journal : List Entry) → NamesNoLeap journal → All (λ word. leap_of last word ≡ None) (words_of journal)
no-leap-words last journal none = All-map (λ word. leap_of last word ≡ None) (word_of journal) (range_with_len 0 16) (All-every (λ feed. leap_of last (word_of journal feed) ≡ None) each (range_with_len 0 16))
  where
    each : (feed : ℕ) → leap_of last (word_of journal feed) ≡ None
    each feed = no-leap-last last None (of_feed feed journal) refl (All-filter (λ (e : Entry). e.feed == feed) (λ (e : Entry). leap_named e.what ≡ 0) journal none)

-- none is to come
none-armed : (now : ℕ) (last : Option Verdict) (words : List (Option Word)) → All (λ word. leap_of last word ≡ None) words → armed_among now last words ≡ None
none-armed now last words none = ap (best (λ y x. nat_lt y.moment x.moment)) (none-ahead words none)
  where
    none-ahead : (words : List (Option Word)) → All (λ word. leap_of last word ≡ None) words → filter_map (λ word. ahead_of now (leap_of last word)) words ≡ []
    none-ahead [] none = refl
    none-ahead (word ∷ words) none =
        ap (λ (leap : Option Leap). cons_option (ahead_of now leap) (filter_map (λ w. ahead_of now (leap_of last w)) words)) (All-head (λ w. leap_of last w ≡ None) word words none)
        ∙ none-ahead words (All-tail (λ w. leap_of last w ≡ None) word words none)

-- the greatest of noughts is nought
greatest-zero : {X : Type 0} (f : X → ℕ) (xs : List X) → All (λ x. f x ≡ 0) xs → greatest (map f xs) ≡ 0
greatest-zero f [] zeros = refl
greatest-zero f (x ∷ xs) zeros = ap (λ n. fold max n (map f xs)) (ap (max 0) (All-head (λ y. f y ≡ 0) x xs zeros)) ∙ greatest-zero f xs (All-tail (λ y. f y ≡ 0) x xs zeros)

-- none has passed
none-passed : (now : ℕ) (last : Option Verdict) (words : List (Option Word)) → All (λ word. leap_of last word ≡ None) words → passed_among now last words ≡ 0
none-passed now last words none = greatest-zero (λ word. passed_by now (leap_of last word)) words (All-weaker (λ word. leap_of last word ≡ None) (λ word. passed_by now (leap_of last word) ≡ 0) (λ word is. ap (passed_by now) is) words none)

-- what holds of each item of a list holds of each item of each of its prefixes
prefixes-all : {X : Type 0} (P : X → Type 0) (xs : List X) → All P xs → All (All P) (prefixes xs)
prefixes-all P [] all = All-cons (All P) [] [] (All-nil P) (All-nil (All P))
prefixes-all {X} P (x ∷ xs) all =
    All-cons (All P) [] _ (All-nil P) (All-map (All P) (λ (prefix : List X). x ∷ prefix) (prefixes xs) (All-weaker (All P) (λ prefix. All P (x ∷ prefix)) (λ prefix below. All-cons P x prefix (All-head P x xs all) below) (prefixes xs) (prefixes-all P xs (All-tail P x xs all))))

-- so no sample is cut
pub cut-none : (journal : List Entry) → NamesNoLeap journal → cut_of journal ≡ 0
cut-none journal none =
    greatest-zero passed (prefixes journal) (All-weaker NamesNoLeap (λ prefix. passed prefix ≡ 0) (λ prefix quiet. none-passed (now_of prefix) (last_verdict prefix) (words_of prefix) (no-leap-words (last_verdict prefix) prefix quiet)) (prefixes journal) (prefixes-all (λ (e : Entry). leap_named e.what ≡ 0) journal none))

pub armed-none : (journal : List Entry) → NamesNoLeap journal → armed_of journal ≡ None
armed-none journal none = none-armed (now_of journal) (last_verdict journal) (words_of journal) (no-leap-words (last_verdict journal) journal none)

-- another order names none either
pub no-leap-kept : (a b : List Entry) → KeepsFeeds a b → NamesNoLeap a → NamesNoLeap b
no-leap-kept a b keeps none = keeps-all (λ (e : Entry). leap_named e.what ≡ 0) a b keeps none

pub cut-kept : (a b : List Entry) → NamesNoLeap a → KeepsFeeds a b → cut_of a ≡ cut_of b
cut-kept a b none keeps = cut-none a none ∙ sym (cut-none b (no-leap-kept a b keeps none))

pub armed-kept : (a b : List Entry) → NamesNoLeap a → KeepsFeeds a b → armed_of a ≡ armed_of b
armed-kept a b none keeps = armed-none a none ∙ sym (armed-none b (no-leap-kept a b keeps none))

pub inputs-kept : (settings : SettingsFields) (a b : List Entry) → NamesNoLeap a → KeepsFeeds a b → inputs_of settings a ≡ inputs_of settings b
inputs-kept settings a b none keeps =
    let count = length-kept a b keeps in
    let now = now-kept a b keeps in
    let armed = armed-kept a b none keeps in
    λ i. record { length = count i; moment = now i; bound = settings.bound; armed = armed i }

-- a source says the same
pub source-kept : (a b : List Entry) → NamesNoLeap a → KeepsFeeds a b → (feed : ℕ) (kind : SourceKind) → source_of a feed kind ≡ source_of b feed kind
source-kept a b none keeps feed kind =
    let cut = cut-kept a b none keeps in
    let samples = samples-kept kind feed a b keeps in
    λ i. option_map (λ figures. record { feed = feed; kind = kind; figures = figures }) (figures_of (held (cut i) (samples i)))

pub fit_sources-kept : (settings : SettingsFields) (a b : List Entry) → NamesNoLeap a → KeepsFeeds a b → fit_sources settings a ≡ fit_sources settings b
fit_sources-kept settings a b none keeps =
    let now = now-kept a b keeps in
    let source = source-kept a b none keeps in
    λ i. filter (λ (s : Source). is_fit_at (now i) s.figures) (filter_map (λ k. source k.0 k.1 i) (enumerate_from 0 settings.sources))

-- and so does the page
pub page-kept : (settings : SettingsFields) (a b : List Entry) → NamesNoLeap a → KeepsFeeds a b → page_of settings a ≡ page_of settings b
unfolding page_of
page-kept settings a b none keeps =
    let inputs = inputs-kept settings a b none keeps in
    let fit = fit_sources-kept settings a b none keeps in
    λ i. page_by (inputs i) (fit i)
