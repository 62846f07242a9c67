-- A count over places and a sum of weights, one place on.
use Rattle.std.proofs.Common.{◌≡◌, ℕ, suc, ◌+◌, ◌-◌, ◌*◌, ◌<◌, ◌≤◌, Bool, true, false, List, length, get_or, drop, count_by, refl, arith, add_assoc}
use Rattle.std.proofs.lemmas.List.{drop_more}
use Rattle.std.proofs.lemmas.List.Sums.{sum_by-cons}
use Rattle.std.specs.Prelude.{if◌then◌else◌}
use Rattle.std.specs.List.{range_with_len}
use Rattle.frame_rules.specs.Fields.{is_set, bit_at, value}
use Rattle.tick_units.specs.declared.marks.Mark.{Mark}
use Rattle.tick_units.specs.declared.marks.Symbol.{Symbol}

pub count_by-range_more : (p : ℕ → Bool) (place last : ℕ) → place ≤ last →
    count_by p (range_with_len place (last + 1 - place)) ≡ (if p place then 1 else 0) + count_by p (range_with_len (place + 1) (last + 1 - (place + 1)))
count_by-range_more p place last h = let e : last + 1 - place ≡ suc (last + 1 - (place + 1)) = omega arith in rw e (sum_by-cons (λ x. if p x then 1 else 0) place (range_with_len (place + 1) (last + 1 - (place + 1))))

pub value_more : (bit : Symbol → Bool) (marks : List Mark) (place i : ℕ) (weights : List ℕ) → i < length weights →
    value bit marks (place + i) (drop i weights) ≡ get_or weights i 0 * bit_at bit marks (place + i) + value bit marks (place + (i + 1)) (drop (i + 1) weights)
value_more bit marks place i weights lt = rw (drop_more weights i 0 lt, ← add_assoc place i 1) refl

-- the sum so far and that of the rest, over one place
pub value_set : (bit : Symbol → Bool) (marks : List Mark) (place i : ℕ) (weights : List ℕ) → i < length weights → is_set bit marks (place + i) ≡ true →
    value bit marks (place + i) (drop i weights) ≡ get_or weights i 0 + value bit marks (place + (i + 1)) (drop (i + 1) weights)
value_set bit marks place i weights lt e =
    let one : bit_at bit marks (place + i) ≡ 1 = rw e refl in
    let more = rw one at (value_more bit marks place i weights lt) in
    omega arith

pub value_unset : (bit : Symbol → Bool) (marks : List Mark) (place i : ℕ) (weights : List ℕ) → i < length weights → is_set bit marks (place + i) ≡ false →
    value bit marks (place + i) (drop i weights) ≡ value bit marks (place + (i + 1)) (drop (i + 1) weights)
value_unset bit marks place i weights lt e =
    let none : bit_at bit marks (place + i) ≡ 0 = rw e refl in
    let more = rw none at (value_more bit marks place i weights lt) in
    omega arith

-- and the count
pub ones_set : (p : ℕ → Bool) (place last : ℕ) → place ≤ last → p place ≡ true →
    count_by p (range_with_len place (last + 1 - place)) ≡ 1 + count_by p (range_with_len (place + 1) (last + 1 - (place + 1)))
ones_set p place last h e = rw e at (count_by-range_more p place last h)

pub ones_unset : (p : ℕ → Bool) (place last : ℕ) → place ≤ last → p place ≡ false →
    count_by p (range_with_len place (last + 1 - place)) ≡ count_by p (range_with_len (place + 1) (last + 1 - (place + 1)))
ones_unset p place last h e = let more = rw e at (count_by-range_more p place last h) in omega arith

-- past the last place nothing is counted
pub ones_end : (p : ℕ → Bool) (place last : ℕ) → last < place → count_by p (range_with_len place (last + 1 - place)) ≡ 0
ones_end p place last h = let e : last + 1 - place ≡ 0 = omega arith in rw e refl
