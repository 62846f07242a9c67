-- What stands in the sweep while the feeds are gone over: what was put of those that were looked at, and after it what stood
-- there of the feeds to come.
use Rattle.std.proofs.Common.{◌≡◌, ℕ, suc, ◌+◌, ◌-◌, ◌≤◌, ◌<◌, Bool, true, false, cond, not, List, [], ◌∷◌, ◌++◌, refl, sym, ap, ◌∙◌, arith, subst, length, take, map, max, append_assoc}
use Rattle.std.specs.Prelude.{All, IfSome, Option, None, Some, nat_le, nat_lt, ◌==◌, ◌≢◌}
use Rattle.std.specs.List.{filter_map, cons_option, enumerate_from}
use Rattle.std.specs.Option.{option_map}
use Rattle.std.proofs.lemmas.Bool.Decides.{nat_tests}
use Rattle.std.proofs.lemmas.List.{append-nil, length-append, length-map, length-take-le, map-append}
use Rattle.std.proofs.lemmas.List.Elements.{All-cons, All-head, All-map, All-nil, All-tail, All-weaker, filter-append}
use Rattle.clock_filter.specs.Distance.{is_fit_at}
use Rattle.clock_filter.specs.Figures.{figures_of}
use Rattle.clock_filter.specs.Held.{held}
use Rattle.clock_filter.specs.declared.figures.Figures.{Figures}
use Rattle.journal_entry.specs.declared.entry.Entry.{Entry}
use Rattle.select_core.specs.Sweeping.{after, before, others, with_candidate}
use Rattle.select_core.specs.declared.chime.Candidate.{Candidate}
use Rattle.select_core.proofs.StandingLaws.{others-all}
use Rattle.system_fold.specs.Fit.{AreFew, AreFit, IsFit, fit_feeds, fit_source, from_feed, if_fit, with_some}
use Rattle.system_fold.specs.Selecting.{candidate_of}
use Rattle.system_fold.specs.Settings.{SettingsFields}
use Rattle.system_fold.specs.KeptFold.{FoldFields, StandsForJournal, blank}
use Rattle.system_fold.specs.declared.feed.Feed.{Feed}
use Rattle.system_fold.specs.declared.settings.SourceKind.{SourceKind}
use Rattle.system_fold.specs.declared.source.Source.{Source}
use Rattle.system_fold.proofs.StandingLaws.{feeds-length}

-- a fit source has the number of its feed
pub fit-number : (cut now number : ℕ) (feed : Feed) → IfSome (fit_source cut now (number, feed)) (λ s. s.feed ≡ number)
fit-number cut now number feed = by_figures (figures_of (held cut feed.filter))
  where
    by_test : (b : Bool) (figures : Figures) → IfSome (cond b (Some (record { feed = number; kind = feed.kind; figures = figures })) None) (λ (s : Source). s.feed ≡ number)
    by_test true figures = refl
    by_test false figures = tt

    by_figures : (o : Option Figures) → IfSome (if_fit now (option_map (λ figures. record { feed = number; kind = feed.kind; figures = figures }) o)) (λ s. s.feed ≡ number)
    by_figures None = tt
    by_figures (Some figures) = by_test (is_fit_at now figures) figures

-- the fit sources among feeds have their numbers
numbers-from : (cut now a : ℕ) (feeds : List Feed) → All (λ s. s.feed < a + length feeds) (filter_map (fit_source cut now) (enumerate_from a feeds))
numbers-from cut now a [] = All-nil (λ s. s.feed < a + 0)
numbers-from cut now a (feed ∷ feeds) = by_source (fit_source cut now (a, feed)) (filter_map (fit_source cut now) (enumerate_from (a + 1) feeds)) (fit-number cut now a feed) (numbers-from cut now (a + 1) feeds)
  where
    by_source : (o : Option Source) (rest : List Source) → IfSome o (λ s. s.feed ≡ a) → All (λ s. s.feed < a + 1 + length feeds) rest → All (λ s. s.feed < a + suc (length feeds)) (cons_option o rest)
    by_source None rest here further = subst (λ (n : ℕ). All (λ s. s.feed < n) rest) (omega arith) further
    by_source (Some s) rest here further = All-cons (λ t. t.feed < a + suc (length feeds)) s rest (omega arith) (subst (λ (n : ℕ). All (λ s. s.feed < n) rest) (omega arith) further)

-- from each number on there are no more of them than feeds
few-from : (cut now then a first : ℕ) (feeds : List Feed) → length (from_feed first (map (candidate_of then) (filter_map (fit_source cut now) (enumerate_from a feeds)))) ≤ (a + length feeds) - max a first
few-from cut now then a first [] = omega arith
few-from cut now then a first (feed ∷ feeds) = by_source (fit_source cut now (a, feed)) (filter_map (fit_source cut now) (enumerate_from (a + 1) feeds)) (fit-number cut now a feed) (few-from cut now then (a + 1) first feeds)
  where
    by_test : (b : Bool) (c : Candidate) (rest : List Candidate) → nat_le first a ≡ b → length rest ≤ (a + 1 + length feeds) - max (a + 1) first → length (cond b (c ∷ rest) rest) ≤ (a + suc (length feeds)) - max a first
    by_test true c rest reached further = let below : first ≤ a = grind (arith, nat_tests) in omega arith
    by_test false c rest before further = let above : a < first = grind (arith, nat_tests) in omega arith

    by_source : (o : Option Source) (rest : List Source) → IfSome o (λ s. s.feed ≡ a) → length (from_feed first (map (candidate_of then) rest)) ≤ (a + 1 + length feeds) - max (a + 1) first
        → length (from_feed first (map (candidate_of then) (cons_option o rest))) ≤ (a + suc (length feeds)) - max a first
    by_source None rest here further = omega arith
    by_source (Some s) rest here further = by_test (nat_le first s.feed) (candidate_of then s) (from_feed first (map (candidate_of then) rest)) (ap (nat_le first) (sym here)) further

-- so it is of the candidates that stand for this many feeds
pub few-standing : (cut now n : ℕ) (feeds : List Feed) (fit : List Source) (sweep : List Candidate) → AreFit cut now feeds fit → sweep ≡ map (candidate_of now) fit → n ≡ length feeds → AreFew n sweep
few-standing cut now n feeds fit sweep sources standing same = record {
  upward = λ first.
      subst (λ (k : ℕ). length (from_feed first sweep) ≤ k - first) (sym same)
      (subst (λ (cs : List Candidate). length (from_feed first cs) ≤ length feeds - first) (sym (standing ∙ ap (map (candidate_of now)) sources.value))
      (let few = few-from cut now now 0 first feeds in omega arith));
}

-- without those of a feed, what is to come is of the next feed on
others-from : (i : ℕ) (cs : List Candidate) → others i (from_feed i cs) ≡ from_feed (i + 1) cs
others-from i [] = refl
others-from i (c ∷ cs) = by_test (nat_le i c.feed) (from_feed i cs) refl (others-from i cs)
  where
    next : Bool → List Candidate
    next b = cond b (c ∷ from_feed (i + 1) cs) (from_feed (i + 1) cs)

    by_test : (b : Bool) (rest : List Candidate) → nat_le i c.feed ≡ b → others i rest ≡ from_feed (i + 1) cs → others i (cond b (c ∷ rest) rest) ≡ next (nat_le (i + 1) c.feed)
    by_test true rest reached further = (λ k. cond (same k) (c ∷ further k) (further k))
      where
        same : not (c.feed == i) ≡ nat_le (i + 1) c.feed
        same = grind (arith, nat_tests)
    by_test false rest before further = further ∙ ap next (sym after)
      where
        after : nat_le (i + 1) c.feed ≡ false
        after = grind (arith, nat_tests)

-- all are of the feeds from the first on
from-first : (cs : List Candidate) → from_feed 0 cs ≡ cs
from-first [] = refl
from-first (c ∷ cs) = (λ k. cond (reached k) (c ∷ from-first cs k) (from-first cs k))
  where
    reached : nat_le 0 c.feed ≡ true
    reached = grind (arith, nat_tests)

-- before the first feed all that stood before is to come
pub standing-first : (now : ℕ) (fit : List Source) (old : List Candidate) → fit ≡ [] → old ≡ map (candidate_of now) fit ++ from_feed 0 old
standing-first now fit old none = sym (ap (λ (xs : List Source). map (candidate_of now) xs ++ from_feed 0 old) none ∙ from-first old)

-- what was put stays, and is of lesser feeds
others-put : (now i : ℕ) (fit : List Source) → All (λ s. s.feed < i) fit → others i (map (candidate_of now) fit) ≡ map (candidate_of now) fit
others-put now i fit below = sym (others-all i (map (candidate_of now) fit) (All-map (λ (c : Candidate). c.feed ≢ i) (candidate_of now) fit (All-weaker (λ (s : Source). s.feed < i) (λ s. s.feed ≢ i) (λ s less. λ same. absurd (omega arith)) fit below)))

is-less : (x y : ℕ) → x < y → nat_lt x y ≡ true
is-less x y less = grind (arith, nat_tests)

not-less : (x y : ℕ) → y ≤ x → nat_lt x y ≡ false
not-less x y upto = grind (arith, nat_tests)

before-put : (now i : ℕ) (fit : List Source) → All (λ s. s.feed < i) fit → before i (map (candidate_of now) fit) ≡ map (candidate_of now) fit
before-put now i [] below = refl
before-put now i (s ∷ fit) below =
    let here = is-less s.feed i (All-head (λ (x : Source). x.feed < i) s fit below) in
    ap (λ (b : Bool). cond b (candidate_of now s ∷ before i (map (candidate_of now) fit)) (before i (map (candidate_of now) fit))) here
    ∙ ap (λ (cs : List Candidate). candidate_of now s ∷ cs) (before-put now i fit (All-tail (λ (x : Source). x.feed < i) s fit below))

after-put : (now i : ℕ) (fit : List Source) → All (λ s. s.feed < i) fit → after i (map (candidate_of now) fit) ≡ []
after-put now i [] below = refl
after-put now i (s ∷ fit) below =
    let less = All-head (λ (x : Source). x.feed < i) s fit below in
    let here = not-less i s.feed (omega arith) in
    ap (λ (b : Bool). cond b (candidate_of now s ∷ after i (map (candidate_of now) fit)) (after i (map (candidate_of now) fit))) here
    ∙ after-put now i fit (All-tail (λ (x : Source). x.feed < i) s fit below)

-- of what is to come none is of a lesser feed, and those of greater ones are to come after the next
before-from : (i : ℕ) (cs : List Candidate) → before i (from_feed i cs) ≡ []
before-from i [] = refl
before-from i (c ∷ cs) = by_test (nat_le i c.feed) (from_feed i cs) refl (before-from i cs)
  where
    by_test : (b : Bool) (rest : List Candidate) → nat_le i c.feed ≡ b → before i rest ≡ [] → before i (cond b (c ∷ rest) rest) ≡ []
    by_test true rest reached further = ap (λ (t : Bool). cond t (c ∷ before i rest) (before i rest)) not_less ∙ further
      where
        not_less : nat_lt c.feed i ≡ false
        not_less = grind (arith, nat_tests)
    by_test false rest lesser further = further

after-from : (i : ℕ) (cs : List Candidate) → after i (from_feed i cs) ≡ from_feed (i + 1) cs
after-from i [] = refl
after-from i (c ∷ cs) = by_test (nat_le i c.feed) (from_feed i cs) refl (after-from i cs)
  where
    next : Bool → List Candidate
    next b = cond b (c ∷ from_feed (i + 1) cs) (from_feed (i + 1) cs)

    by_test : (b : Bool) (rest : List Candidate) → nat_le i c.feed ≡ b → after i rest ≡ from_feed (i + 1) cs → after i (cond b (c ∷ rest) rest) ≡ next (nat_le (i + 1) c.feed)
    by_test true rest reached further = (λ k. cond (same k) (c ∷ further k) (further k))
      where
        same : nat_lt i c.feed ≡ nat_le (i + 1) c.feed
        same = grind (arith, nat_tests)
    by_test false rest lesser further = further ∙ ap next (sym later)
      where
        later : nat_le (i + 1) c.feed ≡ false
        later = grind (arith, nat_tests)

seen-below : (cut now i : ℕ) (feeds : List Feed) (fit : List Source) → i < length feeds → AreFit cut now (take i feeds) fit → All (λ s. s.feed < i) fit
seen-below cut now i feeds fit below sources =
    subst (λ (n : ℕ). All (λ s. s.feed < n) fit) (length-take-le i feeds (omega arith))
    (subst (All (λ s. s.feed < length (take i feeds))) (sym sources.value)
    (subst (λ (n : ℕ). All (λ s. s.feed < n) (fit_feeds cut now (take i feeds))) (omega arith) (numbers-from cut now 0 (take i feeds))))

others-seen : (cut now i : ℕ) (feeds : List Feed) (fit : List Source) (old sweep : List Candidate) → i < length feeds → AreFit cut now (take i feeds) fit → sweep ≡ map (candidate_of now) fit ++ from_feed i old
    → others i sweep ≡ map (candidate_of now) fit ++ from_feed (i + 1) old
others-seen cut now i feeds fit old sweep below sources standing =
    ap (others i) standing
    ∙ filter-append (λ (c : Candidate). not (c.feed == i)) (map (candidate_of now) fit) (from_feed i old)
    ∙ (λ k. others-put now i fit (seen-below cut now i feeds fit below sources) k ++ others-from i old k)

with-seen : (cut now i : ℕ) (feeds : List Feed) (fit : List Source) (old sweep : List Candidate) (c : Candidate) → c.feed ≡ i → i < length feeds → AreFit cut now (take i feeds) fit → sweep ≡ map (candidate_of now) fit ++ from_feed i old
    → with_candidate c sweep ≡ map (candidate_of now) fit ++ c ∷ from_feed (i + 1) old
with-seen cut now i feeds fit old sweep c is below sources standing =
    (λ k. before (is k) (standing k) ++ c ∷ after (is k) (standing k))
    ∙ (λ k. filter-append (λ (x : Candidate). nat_lt x.feed i) (map (candidate_of now) fit) (from_feed i old) k ++ c ∷ filter-append (λ (x : Candidate). nat_lt i x.feed) (map (candidate_of now) fit) (from_feed i old) k)
    ∙ (λ k. (before-put now i fit seen k ++ before-from i old k) ++ c ∷ (after-put now i fit seen k ++ after-from i old k))
    ∙ (λ k. append-nil (map (candidate_of now) fit) k ++ c ∷ from_feed (i + 1) old)
  where
    seen : All (λ s. s.feed < i) fit
    seen = seen-below cut now i feeds fit below sources

-- there is room for the next feed's candidate
pub room-next : (cut now i : ℕ) (feeds : List Feed) (fit : List Source) (old sweep : List Candidate) → i < length feeds → length feeds ≤ 16 → AreFew (length feeds) old → AreFit cut now (take i feeds) fit → sweep ≡ map (candidate_of now) fit ++ from_feed i old
    → length (others i sweep) < 16
room-next cut now i feeds fit old sweep below most few sources standing =
    let ahead = few.upward (i + 1) in
    let following = sources.few in
    let seen : length (take i feeds) ≡ i = length-take-le i feeds (omega arith) in
    omega (arith, ap (λ (cs : List Candidate). length cs) (others-seen cut now i feeds fit old sweep below sources standing), length-append (map (candidate_of now) fit) (from_feed (i + 1) old), length-map fit (candidate_of now))

-- one feed more
pub standing-next : (cut now i : ℕ) (feeds : List Feed) (fit more : List Source) (old sweep new : List Candidate) (o : Option Source) → i < length feeds → AreFit cut now (take i feeds) fit → sweep ≡ map (candidate_of now) fit ++ from_feed i old
    → IfSome o (λ s. s.feed ≡ i) → new ≡ with_some i (option_map (candidate_of now) o) sweep → more ≡ fit ++ cons_option o [] → new ≡ map (candidate_of now) more ++ from_feed (i + 1) old
standing-next cut now i feeds fit more old sweep new None below sources standing here put pushed =
    put
    ∙ others-seen cut now i feeds fit old sweep below sources standing
    ∙ ap (λ (xs : List Source). map (candidate_of now) xs ++ from_feed (i + 1) old) (sym (append-nil fit) ∙ sym pushed)
standing-next cut now i feeds fit more old sweep new (Some s) below sources standing here put pushed =
    put
    ∙ with-seen cut now i feeds fit old sweep (candidate_of now s) here below sources standing
    ∙ sym (append_assoc (map (candidate_of now) fit) (candidate_of now s ∷ []) (from_feed (i + 1) old))
    ∙ ap (λ (cs : List Candidate). cs ++ from_feed (i + 1) old) (sym (map-append (candidate_of now) fit (s ∷ [])) ∙ ap (map (candidate_of now)) (sym pushed))

none-left : (cs : List Candidate) → length cs ≤ 0 → cs ≡ []
none-left [] few = refl
none-left (c ∷ cs) few = absurd (omega arith)

-- after the last feed nothing is left of what stood before
pub standing-all : (now n i : ℕ) (fit : List Source) (old sweep : List Candidate) → n ≤ i → AreFew n old → sweep ≡ map (candidate_of now) fit ++ from_feed i old → sweep ≡ map (candidate_of now) fit
standing-all now n i fit old sweep below few standing =
    standing ∙ ap (λ (cs : List Candidate). map (candidate_of now) fit ++ cs) (none-left (from_feed i old) (let none = few.upward i in omega arith)) ∙ append-nil (map (candidate_of now) fit)

-- no feed is fit that has no sample
blank-none : (cut now a : ℕ) (kinds : List SourceKind) → filter_map (fit_source cut now) (enumerate_from a (map blank kinds)) ≡ []
blank-none cut now a [] = refl
blank-none cut now a (kind ∷ kinds) = blank-none cut now (a + 1) kinds

pub blank-fit : (cut now : ℕ) (feeds : List Feed) (kinds : List SourceKind) (fit : List Source) → feeds ≡ map blank kinds → fit ≡ [] → AreFit cut now feeds fit
blank-fit cut now feeds kinds fit same none = subst (AreFit cut now feeds) (sym none) (record {
  value = sym (ap (fit_feeds cut now) same ∙ blank-none cut now 0 kinds);
  all = All-nil (IsFit now);
  few = omega arith;
})

pub none-standing : (now : ℕ) (fit : List Source) (sweep : List Candidate) → fit ≡ [] → sweep ≡ [] → sweep ≡ map (candidate_of now) fit
none-standing now fit sweep none same = same ∙ ap (map (candidate_of now)) (sym none)

-- a journal and a longer one have as many feeds
pub stands-same : (old new : FoldFields) (settings : SettingsFields) (journal longer : List Entry) → StandsForJournal old settings journal → StandsForJournal new settings longer → length new.feeds ≡ length old.feeds
stands-same old new settings journal longer before after =
    ap (λ (fs : List Feed). length fs) after.feeds ∙ feeds-length settings longer ∙ sym (feeds-length settings journal) ∙ sym (ap (λ (fs : List Feed). length fs) before.feeds)
