-- Candidates that come and go, and their ends: what a sweep keeps.
use Rattle.std.proofs.Common.{◌≡◌, ◌≢◌, ℕ, zero, suc, ◌+◌, ◌<◌, ◌≤◌, ◌⊎◌, inl, inr, Bool, true, false, not, cond, List, [], ◌∷◌, ◌++◌, ℤ, refl, sym, ap, ◌∙◌, arith, subst, length, get_or, length-append}
use Rattle.std.specs.Prelude.{◌&&◌, ◌==◌, nat_lt, int_lt, map, filter, count_by, insert, remove, set, All, Contains}
use Rattle.std.specs.List.{AllPairs}
use Rattle.std.specs.List.Sorted.{IsPartitionedBy, IsPartitionPoint}
use Rattle.std.proofs.lemmas.Bool.{and_from, and_parts, cases_order, eq-eqb, ne_eqb, not-true, not_from_false, not_from_true}
use Rattle.std.proofs.lemmas.Bool.Decides.{nat_tests}
use Rattle.std.proofs.lemmas.List.{get_or-set_other, get_or-set_same, length-map, length-set}
use Rattle.std.proofs.lemmas.List.Elements.{All-head, All-tail}
use Rattle.std.proofs.lemmas.List.Quantifiers.{all_pairs_remove}
use Rattle.std.proofs.lemmas.List.Sums.{count_by-le-length, length-filter, sum_by-cons, sum_by-insert, sum_by-remove, sum_by-set}
use Rattle.select_core.specs.KeptSweep.{IsStanding}
use Rattle.select_core.specs.Points.{AreAlike}
use Rattle.select_core.specs.Selection.{are_measured, is_measured}
use Rattle.select_core.specs.Sweeping.{after, before, others, with_candidate}
use Rattle.select_core.specs.declared.chime.Candidate.{Candidate}
use Rattle.select_core.proofs.AlikeLaws.{count-at, count-map, filter-none, length-alike}
use Rattle.select_core.proofs.OrderLaws.{all_pairs_insert}
use Rattle.select_core.proofs.PointLaws.{never-less, same-point}

-- a point that is counted is there
abbrev same : ℤ → ℤ → Bool
same point x = not (int_lt x point) && not (int_lt point x)

same-itself : (point : ℤ) → same point point ≡ true
same-itself point = let no = not_from_false (int_lt point point) (never-less point) in and_from (not (int_lt point point)) (not (int_lt point point)) no no

same-is : (point x : ℤ) → same point x ≡ true → x ≡ point
same-is point x h = let parts = and_parts (not (int_lt x point)) (not (int_lt point x)) h in same-point x point (not-true (int_lt x point) parts.0) (not-true (int_lt point x) parts.1)

found-by-count : {X : Type 0} (p : X → Bool) (xs : List X) (d : X) → 1 ≤ count_by p xs → (k : ℕ) × (k < length xs) × (p (get_or xs k d) ≡ true)
found-by-count p [] d some = absurd (omega arith)
found-by-count {X} p (x ∷ xs) d some = by_test (p x) refl (found-by-count p xs d)
  where
    by_test : (b : Bool) → p x ≡ b → (1 ≤ count_by p xs → (k : ℕ) × (k < length xs) × (p (get_or xs k d) ≡ true)) → (k : ℕ) × (k < length (x ∷ xs)) × (p (get_or (x ∷ xs) k d) ≡ true)
    by_test true passed further = (0, omega arith, passed)
    by_test false failed further =
        let there = further (omega (arith, sum_by-cons (λ y. cond (p y) 1 0) x xs, ap (λ (b : Bool). cond {A = ℕ} b 1 0) failed)) in
        (suc there.0, omega (arith, there.1), there.2)

contains-by-count : (point : ℤ) (points : List ℤ) → 1 ≤ count_by (same point) points → Contains points point
contains-by-count point points some = let there = found-by-count (same point) points point some in (there.0, there.1, same-is point (get_or points there.0 point) there.2)

-- the end of a candidate is among the ends
pub has-end : (end : Candidate → ℤ) (cs : List Candidate) (points : List ℤ) (i : ℕ) (c : Candidate) → AreAlike points (map end cs) → i < length cs → c ≡ get_or cs i c → Contains points (end c)
has-end end cs points i c alike below is =
    let here = count-at (λ (x : Candidate). same (end c) (end x)) cs i c below is in
    let itself = ap (λ (b : Bool). cond {A = ℕ} b 1 0) (same-itself (end c)) in
    contains-by-count (end c) points (omega (arith, alike (same (end c)), count-map (same (end c)) end cs, here, itself))

-- the ends of a candidate more, of one less, and of one in place of another
pub ends-insert : (end : Candidate → ℤ) (cs : List Candidate) (points more : List ℤ) (i : ℕ) (c : Candidate) → AreAlike points (map end cs) → AreAlike more (end c ∷ points) → AreAlike more (map end (insert cs i c))
ends-insert end cs points more i c old new = λ test. omega (arith, old test, new test, count-map test end cs, count-map test end (insert cs i c), sum_by-insert (λ (x : Candidate). cond (test (end x)) 1 0) cs i c, sum_by-cons (λ x. cond (test x) 1 0) (end c) points)

pub ends-remove : (end : Candidate → ℤ) (cs : List Candidate) (points less : List ℤ) (i : ℕ) (c : Candidate) → i < length cs → c ≡ get_or cs i c → AreAlike points (map end cs) → AreAlike points (end c ∷ less) → AreAlike less (map end (remove cs i))
ends-remove end cs points less i c below is old new = λ test.
    omega (arith, old test, new test, count-map test end cs, count-map test end (remove cs i), sum_by-remove (λ (x : Candidate). cond (test (end x)) 1 0) cs i c below, ap (λ (x : Candidate). cond {A = ℕ} (test (end x)) 1 0) is, sum_by-cons (λ x. cond (test x) 1 0) (end c) less)

pub ends-set : (end : Candidate → ℤ) (cs : List Candidate) (points more : List ℤ) (i : ℕ) (was c : Candidate) → i < length cs → was ≡ get_or cs i was → AreAlike points (map end cs) → AreAlike (end c ∷ points) (end was ∷ more) → AreAlike more (map end (set cs i c))
ends-set end cs points more i was c below is old new = λ test.
    omega (arith, old test, new test, count-map test end cs, count-map test end (set cs i c), sum_by-set (λ (x : Candidate). cond (test (end x)) 1 0) cs i c was below, ap (λ (x : Candidate). cond {A = ℕ} (test (end x)) 1 0) is, sum_by-cons (λ x. cond (test x) 1 0) (end c) points, sum_by-cons (λ x. cond (test x) 1 0) (end was) more)

pub length-points : (end : Candidate → ℤ) (cs : List Candidate) (points : List ℤ) → AreAlike points (map end cs) → length points ≡ length cs
length-points end cs points alike = length-alike points (map end cs) alike ∙ length-map cs end

pub measured-at : (cs : List Candidate) (i : ℕ) (c : Candidate) → are_measured cs ≡ true → i < length cs → c ≡ get_or cs i c → is_measured c ≡ true
measured-at cs i c measured below is = subst (λ (x : Candidate). is_measured x ≡ true) (sym is) (at cs i c measured below)
  where
    at : (cs : List Candidate) (i : ℕ) (d : Candidate) → are_measured cs ≡ true → i < length cs → is_measured (get_or cs i d) ≡ true
    at [] i d measured below = absurd (omega arith)
    at (x ∷ xs) zero d measured below = (and_parts (is_measured x) (are_measured xs) measured).0
    at (x ∷ xs) (suc i) d measured below = at xs i d (and_parts (is_measured x) (are_measured xs) measured).1 (omega arith)

-- a candidate less
measured-remove : (cs : List Candidate) (i : ℕ) → i < length cs → are_measured cs ≡ true → are_measured (remove cs i) ≡ true
measured-remove [] i below measured = absurd (omega arith)
measured-remove (c ∷ cs) zero below measured = (and_parts (is_measured c) (are_measured cs) measured).1
measured-remove (c ∷ cs) (suc i) below measured =
    let parts = and_parts (is_measured c) (are_measured cs) measured in
    and_from (is_measured c) (are_measured (remove cs i)) parts.0 (measured-remove cs i (omega arith) parts.1)

pub standing-remove : (cs : List Candidate) (i : ℕ) → IsStanding cs → i < length cs → IsStanding (remove cs i)
standing-remove cs i standing below = record {
  measured = measured-remove cs i below standing.measured;
  feeds = all_pairs_remove (λ x y. x.feed < y.feed) cs i below standing.feeds;
}

-- one more
measured-insert : (cs : List Candidate) (i : ℕ) (c : Candidate) → are_measured cs ≡ true → is_measured c ≡ true → are_measured (insert cs i c) ≡ true
measured-insert [] zero c all here = and_from (is_measured c) true here refl
measured-insert [] (suc i) c all here = and_from (is_measured c) true here refl
measured-insert (x ∷ xs) zero c all here = and_from (is_measured c) (are_measured (x ∷ xs)) here all
measured-insert (x ∷ xs) (suc i) c all here =
    let parts = and_parts (is_measured x) (are_measured xs) all in
    and_from (is_measured x) (are_measured (insert xs i c)) parts.0 (measured-insert xs i c parts.1 here)

pub standing-insert : (cs : List Candidate) (i : ℕ) (c : Candidate) → i ≤ length cs → IsStanding cs → is_measured c ≡ true
    → ((k : ℕ) (d : Candidate) → k < i → (get_or cs k d).feed < c.feed) → ((k : ℕ) (d : Candidate) → i ≤ k → k < length cs → c.feed < (get_or cs k d).feed) → IsStanding (insert cs i c)
standing-insert cs i c within standing measured before after = record {
  measured = measured-insert cs i c standing.measured measured;
  feeds = all_pairs_insert (λ (x y : Candidate). x.feed < y.feed) cs i c within standing.feeds (λ k d below. before k d below) (λ k d past below. after k d past below);
}

-- one in place of another
measured-set : (cs : List Candidate) (i : ℕ) (c : Candidate) → are_measured cs ≡ true → is_measured c ≡ true → are_measured (set cs i c) ≡ true
measured-set [] i c all here = all
measured-set (x ∷ xs) zero c all here = and_from (is_measured c) (are_measured xs) here (and_parts (is_measured x) (are_measured xs) all).1
measured-set (x ∷ xs) (suc i) c all here =
    let parts = and_parts (is_measured x) (are_measured xs) all in
    and_from (is_measured x) (are_measured (set xs i c)) parts.0 (measured-set xs i c parts.1 here)

feed-set : (cs : List Candidate) (i : ℕ) (c : Candidate) (k : ℕ) (d : Candidate) → i < length cs → ((d : Candidate) → (get_or cs i d).feed ≡ c.feed) → (get_or (set cs i c) k d).feed ≡ (get_or cs k d).feed
feed-set cs i c k d below there = by_order (cases_order k i)
  where
    by_order : (k ≡ i) ⊎ ((k < i) ⊎ (i < k)) → (get_or (set cs i c) k d).feed ≡ (get_or cs k d).feed
    by_order (inl at) = ap (λ (n : ℕ). (get_or (set cs i c) n d).feed) at ∙ ap (λ (x : Candidate). x.feed) (get_or-set_same cs i c d below) ∙ sym (there d) ∙ ap (λ (n : ℕ). (get_or cs n d).feed) (sym at)
    by_order (inr (inl less)) = ap (λ (x : Candidate). x.feed) (get_or-set_other cs i k c d (λ e. absurd (omega arith)))
    by_order (inr (inr more)) = ap (λ (x : Candidate). x.feed) (get_or-set_other cs i k c d (λ e. absurd (omega arith)))

pub standing-set : (cs : List Candidate) (i : ℕ) (c : Candidate) → i < length cs → ((d : Candidate) → (get_or cs i d).feed ≡ c.feed) → IsStanding cs → is_measured c ≡ true → IsStanding (set cs i c)
standing-set cs i c below there standing measured = record {
  measured = measured-set cs i c standing.measured measured;
  feeds = λ a b d apart less. omega (arith, feed-set cs i c a d below there, feed-set cs i c b d below there, standing.feeds a b d apart (omega (arith, length-set cs i c)));
}

-- where all pass a test
filter-all : {X : Type 0} (p : X → Bool) (xs : List X) → ((k : ℕ) (d : X) → k < length xs → p (get_or xs k d) ≡ true) → filter p xs ≡ xs
filter-all {X} p [] all = refl
filter-all {X} p (x ∷ xs) all = ap (λ (b : Bool). cond b (x ∷ filter p xs) (filter p xs)) (all 0 x (omega arith)) ∙ ap (λ (ys : List X). x ∷ ys) (filter-all p xs (λ k d below. all (suc k) d (omega arith)))

is-less : (x y : ℕ) → x < y → nat_lt x y ≡ true
is-less x y less = grind (arith, nat_tests)

not-less : (x y : ℕ) → y ≤ x → nat_lt x y ≡ false
not-less x y upto = grind (arith, nat_tests)

-- a candidate stands between those of lesser and those of greater feeds where it was put in, and where it stands for another
pub with-insert : (feed : ℕ) (cs : List Candidate) (i : ℕ) (c : Candidate) → i ≤ length cs
    → ((k : ℕ) (d : Candidate) → k < i → (get_or cs k d).feed < feed) → ((k : ℕ) (d : Candidate) → i ≤ k → k < length cs → feed < (get_or cs k d).feed) → insert cs i c ≡ before feed cs ++ c ∷ after feed cs
with-insert feed [] zero c within less more = refl
with-insert feed [] (suc i) c within less more = absurd (omega arith)
with-insert feed (x ∷ xs) zero c within less more =
    let none = filter-none (λ (y : Candidate). nat_lt y.feed feed) (x ∷ xs) (λ k d below. not-less (get_or (x ∷ xs) k d).feed feed (let up = more k d (omega arith) below in omega arith)) in
    let all = filter-all (λ (y : Candidate). nat_lt feed y.feed) (x ∷ xs) (λ k d below. is-less feed (get_or (x ∷ xs) k d).feed (more k d (omega arith) below)) in
    λ j. sym none j ++ c ∷ sym all j
with-insert feed (x ∷ xs) (suc i) c within less more =
    let here = less 0 x (omega arith) in
    let keeps = is-less x.feed feed here in
    let drops = not-less feed x.feed (omega arith) in
    ap (λ (ys : List Candidate). x ∷ ys) (with-insert feed xs i c (omega arith) (λ k d below. less (suc k) d (omega arith)) (λ k d past below. more (suc k) d (omega arith) (omega arith)))
    ∙ (λ j. cond (sym keeps j) (x ∷ before feed xs) (before feed xs) ++ c ∷ cond (sym drops j) (x ∷ after feed xs) (after feed xs))

pub with-set : (feed : ℕ) (cs : List Candidate) (i : ℕ) (c : Candidate) → i < length cs → ((d : Candidate) → (get_or cs i d).feed ≡ feed) → AllPairs (λ x y. x.feed < y.feed) cs
    → set cs i c ≡ before feed cs ++ c ∷ after feed cs
with-set feed [] i c below there order = absurd (omega arith)
with-set feed (x ∷ xs) zero c below there order =
    let here = there x in
    let above : (k : ℕ) (d : Candidate) → k < length xs → feed < (get_or xs k d).feed = λ k d less. (let up = order 0 (suc k) d (omega arith) (omega arith) in let at = there d in omega arith) in
    let none = filter-none (λ (y : Candidate). nat_lt y.feed feed) xs (λ k d less. not-less (get_or xs k d).feed feed (let up = above k d less in omega arith)) in
    let all = filter-all (λ (y : Candidate). nat_lt feed y.feed) xs (λ k d less. is-less feed (get_or xs k d).feed (above k d less)) in
    let not_before = not-less x.feed feed (omega arith) in
    let not_after = not-less feed x.feed (omega arith) in
    (λ j. sym none j ++ c ∷ sym all j)
    ∙ (λ j. cond (sym not_before j) (x ∷ before feed xs) (before feed xs) ++ c ∷ cond (sym not_after j) (x ∷ after feed xs) (after feed xs))
with-set feed (x ∷ xs) (suc i) c below there order =
    let here : x.feed < feed = let up = order 0 (suc i) x (omega arith) (omega arith) in let at = there x in omega arith in
    let keeps = is-less x.feed feed here in
    let drops = not-less feed x.feed (omega arith) in
    ap (λ (ys : List Candidate). x ∷ ys) (with-set feed xs i c (omega arith) there (λ a b d apart less. order (suc a) (suc b) d (omega arith) (omega arith)))
    ∙ (λ j. cond (sym keeps j) (x ∷ before feed xs) (before feed xs) ++ c ∷ cond (sym drops j) (x ∷ after feed xs) (after feed xs))

-- a place after those of lesser feeds, where the feed's is not there, is before those of greater ones
pub below-place : (feed : ℕ) (cs : List Candidate) (i : ℕ) → IsPartitionPoint (λ x. nat_lt x.feed feed ≡ true) (λ x. nat_lt x.feed feed ≡ false) cs i → i ≤ length cs → (k : ℕ) (d : Candidate) → k < i → (get_or cs k d).feed < feed
below-place feed cs i point within k d below = let less = point.0 k d (omega arith) below in grind (arith, nat_tests)

at-or-above : (x y : ℕ) → nat_lt x y ≡ false → y ≤ x
at-or-above x y h = grind (arith, nat_tests)

pub above-place : (feed : ℕ) (cs : List Candidate) (i : ℕ) → IsPartitionPoint (λ x. nat_lt x.feed feed ≡ true) (λ x. nat_lt x.feed feed ≡ false) cs i → IsStanding cs
    → (i < length cs → (d : Candidate) → (get_or cs i d).feed ≢ feed) → (k : ℕ) (d : Candidate) → i ≤ k → k < length cs → feed < (get_or cs k d).feed
above-place feed cs i point standing absent k d past below = by_order (cases_order i k)
  where
    by_order : (i ≡ k) ⊎ ((i < k) ⊎ (k < i)) → feed < (get_or cs k d).feed
    by_order (inl at) = subst (λ (n : ℕ). feed < (get_or cs n d).feed) at (let up = at-or-above (get_or cs i d).feed feed (point.1 i d (omega arith) (omega arith)) in let other = absent (omega arith) d in omega arith)
    by_order (inr (inl less)) = let up = at-or-above (get_or cs i d).feed feed (point.1 i d (omega arith) (omega arith)) in let more = standing.feeds i k d less below in omega arith
    by_order (inr (inr more)) = absurd (omega arith)

under : (x y : ℕ) → nat_lt x y ≡ true → x < y
under x y h = grind (arith, nat_tests)

-- those of lesser feeds stand before the others
pub feeds-partitioned : (cs : List Candidate) (feed : ℕ) → AllPairs (λ x y. x.feed < y.feed) cs → IsPartitionedBy (λ x. nat_lt x.feed feed) cs
feeds-partitioned cs feed order = λ i j d up below passed. by_order i j d up below passed (cases_order i j)
  where
    by_order : (i j : ℕ) (d : Candidate) → i ≤ j → j < length cs → nat_lt (get_or cs j d).feed feed ≡ true → (i ≡ j) ⊎ ((i < j) ⊎ (j < i)) → nat_lt (get_or cs i d).feed feed ≡ true
    by_order i j d up below passed (inl same) = subst (λ (k : ℕ). nat_lt (get_or cs k d).feed feed ≡ true) (sym same) passed
    by_order i j d up below passed (inr (inl less)) =
        let first = order i j d less below in
        let second = under (get_or cs j d).feed feed passed in
        is-less (get_or cs i d).feed feed (omega arith)
    by_order i j d up below passed (inr (inr more)) = absurd (omega arith)

pub differ-all : (feed : ℕ) (cs : List Candidate) (i : ℕ) → i ≤ length cs → ((k : ℕ) (d : Candidate) → k < i → (get_or cs k d).feed < feed) → ((k : ℕ) (d : Candidate) → i ≤ k → k < length cs → feed < (get_or cs k d).feed)
    → All (λ c. c.feed ≢ feed) cs
differ-all feed cs i within less more = λ k d below. by_order k d below (cases_order k i)
  where
    by_order : (k : ℕ) (d : Candidate) → k < length cs → (k ≡ i) ⊎ ((k < i) ⊎ (i < k)) → (get_or cs k d).feed ≢ feed
    by_order k d below (inl at) = let up = more k d (omega arith) below in λ e. absurd (omega arith)
    by_order k d below (inr (inl before)) = let down = less k d before in λ e. absurd (omega arith)
    by_order k d below (inr (inr past)) = let up = more k d (omega arith) below in λ e. absurd (omega arith)

pub feeds-differ : (cs : List Candidate) → AllPairs (λ x y. x.feed < y.feed) cs → AllPairs (λ x y. x.feed ≢ y.feed) cs
feeds-differ cs order = λ a b d apart below. let less = order a b d apart below in λ e. absurd (omega arith)

-- those of the other feeds are all but the one of the feed
pub others-all : (feed : ℕ) (cs : List Candidate) → All (λ c. c.feed ≢ feed) cs → cs ≡ others feed cs
others-all feed [] differ = refl
others-all feed (c ∷ cs) differ =
    let other = not_from_false (c.feed == feed) (ne_eqb c.feed feed (All-head (λ x. x.feed ≢ feed) c cs differ)) in
    ap (λ xs. c ∷ xs) (others-all feed cs (All-tail (λ x. x.feed ≢ feed) c cs differ)) ∙ (λ i. cond (sym other i) (c ∷ others feed cs) (others feed cs))

pub others-remove : (feed : ℕ) (cs : List Candidate) (i : ℕ) → i < length cs → ((d : Candidate) → (get_or cs i d).feed ≡ feed) → AllPairs (λ x y. x.feed ≢ y.feed) cs → remove cs i ≡ others feed cs
others-remove feed [] i below there apart = absurd (omega arith)
others-remove feed (c ∷ cs) zero below there apart =
    let same = not_from_true (c.feed == feed) (eq-eqb c.feed feed (there c)) in
    others-all feed cs (λ k d small. λ e. apart 0 (suc k) d (omega arith) (omega arith) (there d ∙ sym e))
    ∙ (λ i. cond (sym same i) (c ∷ others feed cs) (others feed cs))
others-remove feed (c ∷ cs) (suc i) below there apart =
    let other = not_from_false (c.feed == feed) (ne_eqb c.feed feed (λ e. apart 0 (suc i) c (omega arith) (omega arith) (e ∙ sym (there c)))) in
    ap (λ xs. c ∷ xs) (others-remove feed cs i (omega arith) there (λ j k d less small. apart (suc j) (suc k) d (omega arith) (omega arith)))
    ∙ (λ i. cond (sym other i) (c ∷ others feed cs) (others feed cs))

-- nothing stands at first
pub standing-none : (cs : List Candidate) → length cs ≡ 0 → IsStanding cs
standing-none [] none = record { measured = refl; feeds = λ i j d apart below. absurd (omega arith) }
standing-none (c ∷ cs) none = absurd (omega arith)

-- no more stand than before, and with a candidate at most one more
pub others-few : (feed : ℕ) (cs : List Candidate) → length (others feed cs) ≤ length cs
others-few feed cs = omega (arith, length-filter (λ (c : Candidate). not (c.feed == feed)) cs, count_by-le-length (λ (c : Candidate). not (c.feed == feed)) cs)

sides-few : (feed : ℕ) (cs : List Candidate) → length (before feed cs) + length (after feed cs) ≤ length cs
sides-few feed [] = omega arith
sides-few feed (x ∷ xs) = by_tests (nat_lt x.feed feed) (nat_lt feed x.feed) refl refl (sides-few feed xs)
  where
    by_tests : (b d : Bool) → nat_lt x.feed feed ≡ b → nat_lt feed x.feed ≡ d → length (before feed xs) + length (after feed xs) ≤ length xs
        → length (cond b (x ∷ before feed xs) (before feed xs)) + length (cond d (x ∷ after feed xs) (after feed xs)) ≤ suc (length xs)
    by_tests true true less more further = absurd (let down = under x.feed feed less in let up = under feed x.feed more in omega arith)
    by_tests true false less more further = omega arith
    by_tests false true less more further = omega arith
    by_tests false false less more further = omega arith

pub with-few : (c : Candidate) (cs : List Candidate) → length (with_candidate c cs) ≤ length cs + 1
with-few c cs = omega (arith, length-append (before c.feed cs) (c ∷ after c.feed cs), sides-few c.feed cs)
