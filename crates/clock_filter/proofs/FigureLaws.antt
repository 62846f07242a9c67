-- What holds of the figures.
use Rattle.std.proofs.Common.{◌≡◌, ℕ, zero, suc, ◌+◌, ◌-◌, ◌/◌, ◌^◌, ◌<◌, ◌≤◌, List, [], ◌∷◌, ℤ, pos, negsuc, ◌+ℤ◌, ◌≤ℤ◌, unsigned_abs, max, arith, subst, sym, map, add-one}
use Rattle.std.specs.Prelude.{All, Bool, true, false, cond, IfSome, slice_get, nat_lt, Option, None, Some, fold, neg_ℤ, ◌-ℤ◌, ◌*ℤ◌}
use Rattle.std.specs.Int.{int_max, int_min}
use Rattle.std.proofs.lemmas.Int.{ints, clamps}
use Rattle.std.proofs.lemmas.Nat.{pow_pos}
use Rattle.std.proofs.Math.Nat.{div-eq_of_lt}
use Rattle.std.proofs.lemmas.List.Elements.{All-head, All-tail, All-weaker}
use Rattle.tick_units.specs.Samples.{IsValid}
use Rattle.tick_units.specs.Orders.{in_order}
use Rattle.tick_units.specs.Units.{IsRate, ceil_div, floor_div, most_rate, phi}
use Rattle.tick_units.proofs.OrderLaws.{in_order-all}
use Rattle.clock_filter.specs.Bounds.{AreValid, IsMeasured, IsTimely}
use Rattle.clock_filter.specs.Figures.{aged, figures_by, figures_of, newest_of, staged}
use Rattle.clock_filter.specs.Held.{may_precede}
use Rattle.clock_filter.specs.Rate.{earliest, latest, held_rate, rate_between, rate_of}
use Rattle.clock_filter.specs.declared.taken.Taken.{Taken}
use Rattle.clock_filter.proofs.StageLaws.{Within, staged-more, within-more, within-none}

fold-max-least : (n most : ℕ) (ns : List ℕ) → n ≤ most → n ≤ fold max most ns
fold-max-least n most [] below = below
fold-max-least n most (m ∷ ns) below = fold-max-least n (max most m) ns (omega arith)

-- the best sample is not from before the cut, and the newest is not older than it
timely-by : (cut : ℕ) (rate : ℤ) (held : List Taken) → All (λ x. cut ≤ x.at) held → IfSome (figures_by rate held) (IsTimely cut)
timely-by cut rate [] all = tt
timely-by cut rate (best ∷ others) all = record {
  from_cut = All-head (λ x. cut ≤ x.at) best others all;
  newest = fold-max-least best.at (max 0 best.at) (map (λ x. x.at) others) (omega arith);
}

pub timely : (cut : ℕ) (taken : List Taken) → All (λ x. cut ≤ x.at) taken → IfSome (figures_of taken) (IsTimely cut)
timely cut taken all = timely-by cut (rate_of taken) (in_order may_precede taken) (in_order-all (λ x. cut ≤ x.at) may_precede taken all)

-- half of a length is one
half-least : (n : ℕ) (z : ℤ) → 0 < n → pos 0 ≤ℤ z → pos 0 ≤ℤ ceil_div z n
half-least n (pos zero) some least = let none : 0 / n ≡ 0 = div-eq_of_lt some in omega (arith, ints)
half-least n (pos (suc a)) some least = omega (arith, ints)
half-least n (negsuc a) some least = absurd (omega (arith, ints))

-- the age of a stage whose sample is valid, or that is empty
record IsAge (age : ℤ) : Type 0 where
  least : pos 0 ≤ℤ age
  most : age ≤ℤ pos (2 ^ 36)

age-small : (age : ℤ) → IsAge age → unsigned_abs age < 2 ^ 70
age-small age valid = let least = valid.least in let most = valid.most in omega (arith, ints)

sum-least : (x y : ℤ) → pos 0 ≤ℤ x → pos 0 ≤ℤ y → pos 0 ≤ℤ (x +ℤ y)
sum-least x y g h = omega (arith, ints)

abbrev HasLength : Taken → Type 0
HasLength x = pos 0 ≤ℤ x.sample.dispersion

aged-by : (dispersion : ℤ) (drift : ℕ) → pos 0 ≤ℤ dispersion → IsAge (int_min (pos (2 ^ 36)) (dispersion +ℤ pos drift))
aged-by dispersion drift least = record { least = omega (arith, ints, clamps); most = omega (arith, ints, clamps) }

aged-valid : (now : ℕ) (o : Option Taken) → IfSome o HasLength → IsAge (aged now o)
aged-valid now None valid = record { least = omega (arith, ints); most = omega (arith, ints) }
aged-valid now (Some x) valid = aged-by x.sample.dispersion (phi (now - x.at)) valid

at-valid : (taken : List Taken) (i : ℕ) → All HasLength taken → IfSome (slice_get taken i) HasLength
at-valid [] i all = tt
at-valid (x ∷ xs) zero all = All-head HasLength x xs all
at-valid (x ∷ xs) (suc i) all = at-valid xs i (All-tail HasLength x xs all)

within-most : (i : ℕ) (sum : ℤ) → Within i sum → sum ≤ℤ pos (2 ^ 36)
within-most i sum within = omega (arith, ints)

record IsStaged (i : ℕ) (sum : ℤ) : Type 0 where
  least : pos 0 ≤ℤ sum
  within : Within i sum

staged-by : (i : ℕ) (sum age : ℤ) → i < 8 → IsAge age → IsStaged i sum → IsStaged (i + 1) (sum +ℤ ceil_div age (2 ^ (i + 1)))
staged-by i sum age few valid before =
    let half = half-least (2 ^ (i + 1)) age (pow_pos (i + 1)) valid.least in
    let small : unsigned_abs age < 2 ^ 70 = age-small age valid in
    record { least = sum-least sum (ceil_div age (2 ^ (i + 1))) before.least half; within = within-more i sum age few small valid.most before.within }

staged-valid : (i now : ℕ) (taken : List Taken) → i ≤ 8 → All HasLength taken → IsStaged i (staged i now taken)
unfolding staged
staged-valid zero now taken few all = record { least = omega (arith, ints); within = within-none }
staged-valid (suc i) now taken few all =
    let before = staged-valid i now taken (omega arith) all in
    let age = aged-valid now (slice_get taken i) (at-valid taken i all) in
    subst (λ n. IsStaged n (staged n now taken)) (add-one i) (subst (IsStaged (i + 1)) (sym (staged-more i now taken)) (staged-by i (staged i now taken) (aged now (slice_get taken i)) (omega arith) age before))

-- a rate is held to its bound
held-rate : (quotient : ℤ) → IsRate (int_max (neg_ℤ (pos most_rate)) (int_min (pos most_rate) quotient))
held-rate quotient = record { least = omega (arith, ints, clamps); most = omega (arith, ints, clamps) }

between-rate : (first last : Option Taken) → IsRate (rate_between first last)
between-rate None last = record { least = omega (arith, ints); most = omega (arith, ints) }
between-rate (Some a) None = record { least = omega (arith, ints); most = omega (arith, ints) }
between-rate (Some a) (Some b) = by_test (nat_lt (b.at - a.at) 30000000)
  where
    by_test : (soon : Bool) → IsRate (cond soon (pos 0) (held_rate a.sample.offset b.sample.offset (b.at - a.at)))
    by_test true = record { least = omega (arith, ints); most = omega (arith, ints) }
    by_test false = held-rate (floor_div ((b.sample.offset -ℤ a.sample.offset) *ℤ pos (10 ^ 6)) (b.at - a.at))

-- the figures of valid samples
measured-by : (rate : ℤ) (held : List Taken) → IsRate rate → AreValid held → IfSome (figures_by rate held) IsMeasured
measured-by rate [] bounded all = tt
measured-by rate (best ∷ others) bounded all =
    let first = All-head (λ x. IsValid x.sample) best others all in
    let lengths = All-weaker (λ x. IsValid x.sample) HasLength (λ x h. h.dispersion.least) (best ∷ others) all in
    let stages = staged-valid 8 (newest_of (best ∷ others)) (best ∷ others) (omega arith) lengths in
    record { offset = first.offset; delay = first.delay; least = stages.least; most = within-most 8 _ stages.within; rate = bounded }

pub measured : (taken : List Taken) → AreValid taken → IfSome (figures_of taken) IsMeasured
measured taken all = measured-by (rate_of taken) (in_order may_precede taken) (between-rate (earliest taken) (latest taken)) (in_order-all (λ x. IsValid x.sample) may_precede taken all)

-- the newest of samples that are from up to now
newest-upto-by : (now : ℕ) (rate : ℤ) (held : List Taken) → All (λ x. x.at ≤ now) held → IfSome (figures_by rate held) (λ f. f.newest ≤ now)
newest-upto-by now rate [] all = tt
newest-upto-by now rate (x ∷ xs) all = fold-max-most now (max 0 x.at) xs (let first = All-head (λ y. y.at ≤ now) x xs all in omega arith) (All-tail (λ y. y.at ≤ now) x xs all)
  where
    fold-max-most : (now most : ℕ) (ys : List Taken) → most ≤ now → All (λ y. y.at ≤ now) ys → fold max most (map (λ y. y.at) ys) ≤ now
    fold-max-most now most [] below all = below
    fold-max-most now most (y ∷ ys) below all = fold-max-most now (max most y.at) ys (let here = All-head (λ z. z.at ≤ now) y ys all in omega arith) (All-tail (λ z. z.at ≤ now) y ys all)

pub newest-upto : (now : ℕ) (taken : List Taken) → All (λ x. x.at ≤ now) taken → IfSome (figures_of taken) (λ f. f.newest ≤ now)
newest-upto now taken all = newest-upto-by now (rate_of taken) (in_order may_precede taken) (in_order-all (λ x. x.at ≤ now) may_precede taken all)
