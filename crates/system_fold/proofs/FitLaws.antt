-- What is fit of the feeds that are kept.
use Rattle.std.proofs.Common.{◌≡◌, ℕ, ◌+◌, ◌≤◌, ◌<◌, ◌^◌, true, List, [], ◌∷◌, ◌++◌, refl, sym, ap, ◌∙◌, arith, subst, length, take, get_or, pos, ◌≤ℤ◌}
use Rattle.std.specs.Prelude.{All, IfSome, Option, None, Some}
use Rattle.std.specs.List.{filter_map, cons_option, enumerate_from}
use Rattle.std.proofs.lemmas.List.{append-nil, length-append, take_more, length-take-le}
use Rattle.std.proofs.lemmas.List.Elements.{All-append, All-cons, All-nil, filter_map-append}
use Rattle.clock_filter.specs.Figures.{figures_of}
use Rattle.clock_filter.specs.Held.{held}
use Rattle.clock_filter.specs.declared.figures.Figures.{Figures}
use Rattle.clock_filter.proofs.FigureLaws.{newest-upto}
use Rattle.clock_filter.proofs.HeldLaws.{held-all}
use Rattle.clock_filter.specs.Bounds.{IsMeasured, IsTimely}
use Rattle.clock_filter.specs.Distance.{distance_of, is_fit_at}
use Rattle.std.proofs.lemmas.Bool.Decides.{nat_tests}
use Rattle.std.proofs.lemmas.Int.{ints}
use Rattle.system_fold.specs.Fit.{AreFit, IsFit, IsSound, fit_source, fit_feeds}
use Rattle.system_fold.specs.declared.feed.Feed.{Feed}
use Rattle.system_fold.specs.declared.source.Source.{Source}

-- no sample is newer than now
pub newest-by : (cut now : ℕ) (feed : Feed) (f : Figures) → IsSound now feed → Some f ≡ figures_of (held cut feed.filter) → f.newest ≤ now
newest-by cut now feed f sound is = subst (λ (o : Option Figures). IfSome o (λ g. g.newest ≤ now)) (sym is) (newest-upto now (held cut feed.filter) (held-all (λ x. x.at ≤ now) cut feed.filter sound.timely))

pub enumerate-append : {X : Type 0} (a : ℕ) (xs ys : List X) → enumerate_from a (xs ++ ys) ≡ enumerate_from a xs ++ enumerate_from (a + length xs) ys
enumerate-append a [] ys = ap (λ (n : ℕ). enumerate_from n ys) (omega arith)
enumerate-append {X} a (x ∷ xs) ys = ap (λ (zs : List (ℕ × X)). (a, x) ∷ zs) (enumerate-append (a + 1) xs ys ∙ ap (λ (n : ℕ). enumerate_from (a + 1) xs ++ enumerate_from n ys) (omega arith))

-- one feed more that was looked at
pub fit-more : (cut now : ℕ) (feeds : List Feed) (i : ℕ) (d : Feed) → i < length feeds → fit_feeds cut now (take (i + 1) feeds) ≡ fit_feeds cut now (take i feeds) ++ cons_option (fit_source cut now (i, get_or feeds i d)) []
fit-more cut now feeds i d below =
    ap (fit_feeds cut now) (take_more feeds i d below)
    ∙ ap (filter_map (fit_source cut now)) (enumerate-append 0 (take i feeds) (get_or feeds i d ∷ []))
    ∙ filter_map-append (fit_source cut now) (enumerate_from 0 (take i feeds)) ((0 + length (take i feeds), get_or feeds i d) ∷ [])
    ∙ ap (λ (n : ℕ). fit_feeds cut now (take i feeds) ++ cons_option (fit_source cut now (n, get_or feeds i d)) []) place
  where
    place : 0 + length (take i feeds) ≡ i
    place = let same : length (take i feeds) ≡ i = length-take-le i feeds (omega arith) in omega arith

fit-near : (now : ℕ) (f : Figures) → true ≡ is_fit_at now f → distance_of now f ≤ℤ pos (2 ^ 32)
fit-near now f fit = grind (arith, ints)

fit-low : (now : ℕ) (f : Figures) → true ≡ is_fit_at now f → f.stratum < 15
fit-low now f fit = grind (arith, ints, nat_tests)

-- the figures of a sound feed, where they make it fit
pub fit-by : (cut now : ℕ) (s : Source) (feed : Feed) (o : Option Figures) → IsSound now feed → o ≡ Some s.figures → o ≡ figures_of (held cut feed.filter) → IfSome o (IsTimely cut) → IfSome o (λ f. f.jitter2 ≤ 2 ^ 80) → IfSome o IsMeasured
    → true ≡ is_fit_at now s.figures → IsFit now s
fit-by cut now s feed o sound some is timely jitter measured fit = record {
  measured = subst (λ (p : Option Figures). IfSome p IsMeasured) some measured;
  jitter = subst (λ (p : Option Figures). IfSome p (λ f. f.jitter2 ≤ 2 ^ 80)) some jitter;
  taken = (subst (λ (p : Option Figures). IfSome p (IsTimely cut)) some timely).newest;
  newest = newest-by cut now feed s.figures sound (sym some ∙ is);
  most = fit-near now s.figures fit;
  stratum = fit-low now s.figures fit;
}

one-more : (now : ℕ) (fit : List Source) (o : Option Source) → All (IsFit now) fit → IfSome o (IsFit now) → All (IsFit now) (fit ++ cons_option o [])
one-more now fit None all here = subst (All (IsFit now)) (sym (append-nil fit)) all
one-more now fit (Some s) all here = All-append (IsFit now) fit (s ∷ []) all (All-cons (IsFit now) s [] here (All-nil (IsFit now)))

-- the fit ones of one feed more
pub fit-push : (cut now : ℕ) (feeds : List Feed) (i : ℕ) (feed : Feed) (fit new : List Source) (o : Option Source) → i < length feeds → feed ≡ get_or feeds i feed → AreFit cut now (take i feeds) fit → o ≡ fit_source cut now (i, feed) → IfSome o (IsFit now) → new ≡ fit ++ cons_option o [] → length new ≤ length fit + 1
    → AreFit cut now (take (i + 1) feeds) new
fit-push cut now feeds i feed fit new o below here before is sound same longer = record {
  value = same ∙ ap (λ (fs : List Source). fs ++ cons_option o []) before.value ∙ ap (λ (p : Option Source). fit_feeds cut now (take i feeds) ++ cons_option p []) (is ∙ ap (λ (f : Feed). fit_source cut now (i, f)) here) ∙ sym (fit-more cut now feeds i feed below);
  all = subst (All (IsFit now)) (sym same) (one-more now fit o before.all sound);
  few = let was = length-take-le i feeds (omega arith) in let now_is = length-take-le (i + 1) feeds (omega arith) in let few = before.few in omega arith;
}

pub fit-none : (cut now : ℕ) (fit : List Source) → fit ≡ [] → AreFit cut now [] fit
fit-none cut now fit none = subst (AreFit cut now []) (sym none) (record { value = refl; all = All-nil (IsFit now); few = omega arith })

-- with one source more, where there is one, a list is longer by one at most
pub one-longer : (fit new : List Source) (o : Option Source) → new ≡ fit ++ cons_option o [] → length new ≤ length fit + 1
one-longer fit new None same = omega (arith, ap length (same ∙ append-nil fit))
one-longer fit new (Some s) same = omega (arith, ap length same, length-append fit (s ∷ []))
