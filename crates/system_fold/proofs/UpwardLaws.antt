-- The fit sources stand in the order of their feeds' numbers.
use Rattle.std.proofs.Common.{◌≡◌, ℕ, zero, suc, ◌+◌, ◌≤◌, ◌<◌, Bool, true, false, cond, List, [], ◌∷◌, refl, sym, ap, ◌∙◌, arith, subst, length}
use Rattle.std.specs.Prelude.{All, IfSome, Option, None, Some, find, ◌==◌, slice_index_or}
use Rattle.std.specs.List.{filter_map, cons_option, enumerate_from}
use Rattle.std.proofs.lemmas.Bool.Decides.{nat_tests}
use Rattle.std.proofs.lemmas.List.Elements.{All-cons, All-nil, All-weaker}
use Rattle.system_fold.specs.Fit.{AreUpward, fit_feeds, fit_source}
use Rattle.system_fold.specs.declared.feed.Feed.{Feed}
use Rattle.system_fold.specs.declared.source.Source.{Source}
use Rattle.system_fold.proofs.SweepLaws.{fit-number}

-- none has a number below that of the first feed
from-least : (cut now a : ℕ) (feeds : List Feed) → All (λ s. a ≤ s.feed) (filter_map (fit_source cut now) (enumerate_from a feeds))
from-least cut now a [] = All-nil (λ s. a ≤ s.feed)
from-least cut now a (feed ∷ feeds) = by_source (fit_source cut now (a, feed)) (filter_map (fit_source cut now) (enumerate_from (a + 1) feeds)) (fit-number cut now a feed) (from-least cut now (a + 1) feeds)
  where
    lower : (rest : List Source) → All (λ s. a + 1 ≤ s.feed) rest → All (λ s. a ≤ s.feed) rest
    lower rest = All-weaker (λ s. a + 1 ≤ s.feed) (λ s. a ≤ s.feed) (λ s h. omega arith) rest

    by_source : (o : Option Source) (rest : List Source) → IfSome o (λ s. s.feed ≡ a) → All (λ s. a + 1 ≤ s.feed) rest → All (λ s. a ≤ s.feed) (cons_option o rest)
    by_source None rest here further = lower rest further
    by_source (Some s) rest here further = All-cons (λ t. a ≤ t.feed) s rest (omega arith) (lower rest further)

upward-from : (cut now a : ℕ) (feeds : List Feed) → AreUpward (filter_map (fit_source cut now) (enumerate_from a feeds))
upward-from cut now a [] = record { upward = λ i j d before within. absurd (omega arith) }
upward-from cut now a (feed ∷ feeds) = by_source (fit_source cut now (a, feed)) (filter_map (fit_source cut now) (enumerate_from (a + 1) feeds)) (fit-number cut now a feed) (from-least cut now (a + 1) feeds) (upward-from cut now (a + 1) feeds)
  where
    by_place : (s : Source) (rest : List Source) → s.feed ≡ a → All (λ t. a + 1 ≤ t.feed) rest → AreUpward rest → (i j : ℕ) (d : Source) → i < j → j < length (s ∷ rest) → (slice_index_or (s ∷ rest) i d).feed < (slice_index_or (s ∷ rest) j d).feed
    by_place s rest here least further i zero d before within = absurd (omega arith)
    by_place s rest here least further zero (suc j) d before within = let above = least j d (omega arith) in omega arith
    by_place s rest here least further (suc i) (suc j) d before within = further.upward i j d (omega arith) (omega arith)

    by_source : (o : Option Source) (rest : List Source) → IfSome o (λ s. s.feed ≡ a) → All (λ s. a + 1 ≤ s.feed) rest → AreUpward rest → AreUpward (cons_option o rest)
    by_source None rest here least further = further
    by_source (Some s) rest here least further = record { upward = by_place s rest here least further }

pub feeds-upward : (cut now : ℕ) (feeds : List Feed) (fit : List Source) → fit ≡ fit_feeds cut now feeds → AreUpward fit
feeds-upward cut now feeds fit is = subst AreUpward (sym is) (upward-from cut now 0 feeds)

-- so the source of a feed that is found at a place is the only one
pub found-at : (fit : List Source) (place feed : ℕ) (d : Source) → AreUpward fit → place < length fit → (slice_index_or fit place d).feed ≡ feed → find (λ (s : Source). s.feed == feed) fit ≡ Some (slice_index_or fit place d)
found-at [] place feed d upward within is = absurd (omega arith)
found-at (s ∷ fit) zero feed d upward within is = ap (λ (b : Bool). cond b (Some s) (find (λ (t : Source). t.feed == feed) fit)) (same s.feed feed is)
  where
    same : (x y : ℕ) → x ≡ y → (x == y) ≡ true
    same x y h = grind (arith, nat_tests)
found-at (s ∷ fit) (suc place) feed d upward within is =
    let before : s.feed < (slice_index_or fit place d).feed = upward.upward 0 (suc place) d (omega arith) within in
    let further : AreUpward fit = record { upward = λ i j e lower upper. upward.upward (suc i) (suc j) e (omega arith) (omega arith) } in
    ap (λ (b : Bool). cond b (Some s) (find (λ (t : Source). t.feed == feed) fit)) (apart s.feed feed (omega arith)) ∙ found-at fit place feed d further (omega arith) is
  where
    apart : (x y : ℕ) → x < y → (x == y) ≡ false
    apart x y h = grind (arith, nat_tests)
