-- The intervals that are open at a point, by the points at which they begin and end. The intersection algorithm of RFC 5905,
-- section 11.2.1, visits them from either side in this way.
use Rattle.std.specs.Prelude.{ℕ, ◌+◌, Bool, not, nat_le, Option, List, filter, reverse, count_by, ℤ, int_lt}
use Rattle.tick_units.specs.Orders.{best}
use Rattle.select_core.specs.declared.ends.Side.{Side}
use Rattle.select_core.specs.declared.ends.Side.TheVariants.{Lower, Upper}

-- a point is visited before another: upward, from the lower side, or downward, from the upper one
abbrev pub is_sooner : Side → ℤ → ℤ → Bool
is_sooner Lower x y = int_lt x y
is_sooner Upper x y = int_lt y x

-- how many intervals have begun by a point, and how many have ended before it: an interval contains both its ends
abbrev pub begun : Side → List ℤ → ℤ → ℕ
begun from begins x = count_by (λ y. not (is_sooner from x y)) begins

abbrev pub ended : Side → List ℤ → ℤ → ℕ
ended from ends x = count_by (λ y. is_sooner from y x) ends

-- this many intervals are open at a point, or more
abbrev pub is_open : Side → ℕ → List ℤ → List ℤ → ℤ → Bool
is_open from wanted begins ends x = nat_le (ended from ends x + wanted) (begun from begins x)

-- of the points at which an interval begins and this many are open, the one that is visited first
abbrev pub edge : Side → ℕ → List ℤ → List ℤ → Option ℤ
edge from wanted begins ends = best (is_sooner from) (filter (is_open from wanted begins ends) begins)

-- the points in the order in which they are visited
abbrev pub on_the_way : Side → List ℤ → List ℤ
on_the_way Lower points = points
on_the_way Upper points = reverse points
