-- The ends in place of the candidates: how many intervals are open at a point is how many contain it, and the first edges
-- from both sides are the ends of the interval that selection asks for.
use Rattle.std.proofs.Common.{◌≡◌, ℕ, ◌+◌, ◌-◌, ◌≤◌, Bool, true, false, not, cond, List, [], ◌∷◌, ℤ, pos, refl, sym, ap, ◌∙◌, arith, length}
use Rattle.std.specs.Prelude.{◌&&◌, nat_le, map, filter, count_by, int_lt, int_le}
use Rattle.std.specs.List.{list_all}
use Rattle.std.proofs.lemmas.Bool.{and_parts, false≢true}
use Rattle.std.proofs.lemmas.Bool.Decides.{nat_tests}
use Rattle.std.proofs.lemmas.Int.{ints}
use Rattle.std.proofs.lemmas.List.Elements.{filter_agree}
use Rattle.std.proofs.lemmas.List.Sums.{sum_by-cons}
use Rattle.tick_units.specs.Orders.{best}
use Rattle.select_core.specs.Ends.{edge, is_open}
use Rattle.select_core.specs.KeptSweep.{AreEnds}
use Rattle.select_core.specs.Selection.{are_measured, contains, cover, high_of, is_held, is_measured, low_of, lower, upper}
use Rattle.select_core.specs.declared.chime.Candidate.{Candidate}
use Rattle.select_core.specs.declared.ends.Side.{Side}
use Rattle.select_core.specs.declared.ends.Side.TheVariants.{Lower, Upper}
use Rattle.select_core.proofs.AlikeLaws.{alike-filter, best-alike, count-map}
use Rattle.select_core.proofs.NarrowLaws.{in_order, measured-least}

-- where one count is two others for each item, it is for all
count-splits : {X : Type 0} (p q r keeps : X → Bool) (xs : List X) → list_all keeps xs ≡ true → ((x : X) → keeps x ≡ true → cond {A = ℕ} (p x) 1 0 + cond (q x) 1 0 ≡ cond (r x) 1 0)
    → count_by p xs + count_by q xs ≡ count_by r xs
count-splits p q r keeps [] all each = refl
count-splits p q r keeps (x ∷ xs) all each =
    let kept = and_parts (keeps x) (list_all keeps xs) all in
    omega (arith, sum_by-cons (λ y. cond (p y) 1 0) x xs, sum_by-cons (λ y. cond (q y) 1 0) x xs, sum_by-cons (λ y. cond (r y) 1 0) x xs, each x kept.0, count-splits p q r keeps xs kept.1 each)

lt-is : (x y : ℤ) → int_lt x y ≡ not (int_le y x)
lt-is x y = grind (arith, ints)

ge-is : (x y : ℤ) → not (int_lt x y) ≡ int_le y x
ge-is x y = grind (arith, ints)

-- an interval's lower end is not above its upper one
in-one-or-other : (c : Candidate) (x : ℤ) → is_measured c ≡ true → int_le (lower c) x ≡ false → int_le x (upper c) ≡ true
in-one-or-other c x measured above = let least = in_order (pos 1) c.distance (measured-least c measured) in grind (arith, ints)

-- upward an interval has begun by a point where it contains it or has ended before it; downward, the same
begun-up : (u v : Bool) → (u ≡ false → v ≡ true) → cond {A = ℕ} (not v) 1 0 + cond (u && v) 1 0 ≡ cond u 1 0
begun-up true true h = refl
begun-up true false h = refl
begun-up false true h = refl
begun-up false false h = absurd (false≢true (h refl))

begun-down : (u v : Bool) → (u ≡ false → v ≡ true) → cond {A = ℕ} (not u) 1 0 + cond (u && v) 1 0 ≡ cond v 1 0
begun-down true true h = refl
begun-down true false h = refl
begun-down false true h = refl
begun-down false false h = absurd (false≢true (h refl))

-- how many intervals have begun by a point and have ended before it, from either side, by the candidates
begun-is : (from : Side) → List Candidate → ℤ → ℕ
begun-is Lower cs x = count_by (λ c. not (int_lt x (lower c))) cs
begun-is Upper cs x = count_by (λ c. not (int_lt (upper c) x)) cs

ended-is : (from : Side) → List Candidate → ℤ → ℕ
ended-is Lower cs x = count_by (λ c. int_lt (upper c) x) cs
ended-is Upper cs x = count_by (λ c. int_lt x (lower c)) cs

-- those that have begun are those that contain the point and those that have ended before it
open-is-cover : (from : Side) (cs : List Candidate) (x : ℤ) → are_measured cs ≡ true → ended-is from cs x + cover cs x ≡ begun-is from cs x
unfolding begun-is ended-is
open-is-cover Lower cs x measured =
    count-splits (λ c. int_lt (upper c) x) (contains x) (λ c. not (int_lt x (lower c))) is_measured cs measured
    (λ c fit. (λ i. cond {A = ℕ} (lt-is (upper c) x i) 1 0 + cond (contains x c) 1 0) ∙ begun-up (int_le (lower c) x) (int_le x (upper c)) (in-one-or-other c x fit) ∙ (λ i. cond (sym (ge-is x (lower c)) i) 1 0))
open-is-cover Upper cs x measured =
    count-splits (λ c. int_lt x (lower c)) (contains x) (λ c. not (int_lt (upper c) x)) is_measured cs measured
    (λ c fit. (λ i. cond {A = ℕ} (lt-is x (lower c) i) 1 0 + cond (contains x c) 1 0) ∙ begun-down (int_le (lower c) x) (int_le x (upper c)) (in-one-or-other c x fit) ∙ (λ i. cond (sym (ge-is (upper c) x) i) 1 0))

le-shift : (over count begun all allowed : ℕ) → over + count ≡ begun → allowed ≤ all → nat_le (over + (all - allowed)) begun ≡ nat_le all (count + allowed)
le-shift over count begun all allowed sum few = grind (arith, nat_tests)

open-low : (cs : List Candidate) (lows highs : List ℤ) (allowed : ℕ) (x : ℤ) → are_measured cs ≡ true → AreEnds cs lows highs → allowed ≤ length cs → is_open Lower (length cs - allowed) lows highs x ≡ is_held cs allowed x
unfolding begun-is ended-is
open-low cs lows highs allowed x measured ends few =
    (λ i. nat_le ((ends.uppers (λ y. int_lt y x) ∙ count-map (λ y. int_lt y x) upper cs) i + (length cs - allowed)) ((ends.lowers (λ y. not (int_lt x y)) ∙ count-map (λ y. not (int_lt x y)) lower cs) i))
    ∙ le-shift (ended-is Lower cs x) (cover cs x) (begun-is Lower cs x) (length cs) allowed (open-is-cover Lower cs x measured) few

open-high : (cs : List Candidate) (lows highs : List ℤ) (allowed : ℕ) (x : ℤ) → are_measured cs ≡ true → AreEnds cs lows highs → allowed ≤ length cs → is_open Upper (length cs - allowed) highs lows x ≡ is_held cs allowed x
unfolding begun-is ended-is
open-high cs lows highs allowed x measured ends few =
    (λ i. nat_le ((ends.lowers (λ y. int_lt x y) ∙ count-map (λ y. int_lt x y) lower cs) i + (length cs - allowed)) ((ends.uppers (λ y. not (int_lt y x)) ∙ count-map (λ y. not (int_lt y x)) upper cs) i))
    ∙ le-shift (ended-is Upper cs x) (cover cs x) (begun-is Upper cs x) (length cs) allowed (open-is-cover Upper cs x measured) few

-- the first edges from both sides
pub edge-low : (cs : List Candidate) (lows highs : List ℤ) (allowed : ℕ) → are_measured cs ≡ true → AreEnds cs lows highs → allowed ≤ length cs → edge Lower (length cs - allowed) lows highs ≡ low_of cs allowed
edge-low cs lows highs allowed measured ends few =
    ap (best int_lt) (filter_agree (is_open Lower (length cs - allowed) lows highs) (is_held cs allowed) (λ x. open-low cs lows highs allowed x measured ends few) lows)
    ∙ best-alike Lower (filter (is_held cs allowed) lows) (filter (is_held cs allowed) (map lower cs)) (alike-filter (is_held cs allowed) lows (map lower cs) ends.lowers)

pub edge-high : (cs : List Candidate) (lows highs : List ℤ) (allowed : ℕ) → are_measured cs ≡ true → AreEnds cs lows highs → allowed ≤ length cs → edge Upper (length cs - allowed) highs lows ≡ high_of cs allowed
edge-high cs lows highs allowed measured ends few =
    ap (best (λ x y. int_lt y x)) (filter_agree (is_open Upper (length cs - allowed) highs lows) (is_held cs allowed) (λ x. open-high cs lows highs allowed x measured ends few) highs)
    ∙ best-alike Upper (filter (is_held cs allowed) highs) (filter (is_held cs allowed) (map upper cs)) (alike-filter (is_held cs allowed) highs (map upper cs) ends.uppers)
