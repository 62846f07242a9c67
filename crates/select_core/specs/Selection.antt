-- The interval that enough sources agree on (RFC 5905, section 11.2.1). In this project's profile only the ends of the sources'
-- intervals are considered. The offsets outside are counted once the interval is known.
use Rattle.std.specs.Prelude.{ℕ, ◌+◌, ◌*◌, ◌^◌, Bool, not, ◌&&◌, nat_lt, nat_le, Option, None, Some, List, length, filter, map, count_by, slice_get, ℤ, pos, ◌+ℤ◌, ◌-ℤ◌, int_le, int_lt, unsigned_abs, if◌then◌else◌}
use Rattle.std.specs.List.{filter_map, list_all, range_with_len}
use Rattle.tick_units.specs.Orders.{best}
use Rattle.select_core.specs.declared.chime.Candidate.{Candidate}
use Rattle.select_core.specs.declared.chime.Chime.{Chime}

-- what selection asks of a source: a distance above 0 and at most 1 s, and an offset of at most 2^68 units
abbrev pub is_measured : Candidate → Bool
is_measured c = int_le (pos 1) c.distance && int_le c.distance (pos (2 ^ 32)) && nat_le (unsigned_abs c.offset) (2 ^ 68)

abbrev pub are_measured : List Candidate → Bool
are_measured candidates = list_all is_measured candidates

-- the ends of a source's interval
abbrev pub lower : Candidate → ℤ
lower c = c.offset -ℤ c.distance

abbrev pub upper : Candidate → ℤ
upper c = c.offset +ℤ c.distance

-- an interval contains its ends
abbrev pub is_within : ℤ → ℤ → ℤ → Bool
is_within low high x = int_le low x && int_le x high

abbrev pub contains : ℤ → Candidate → Bool
contains x c = is_within (lower c) (upper c) x

-- how many intervals contain a point
abbrev pub cover : List Candidate → ℤ → ℕ
cover candidates x = count_by (contains x) candidates

-- all intervals but this many contain a point, or more do
abbrev pub is_held : List Candidate → ℕ → ℤ → Bool
is_held candidates allowed x = nat_le (length candidates) (cover candidates x + allowed)

abbrev pub least : List ℤ → Option ℤ
least xs = best int_lt xs

abbrev pub greatest : List ℤ → Option ℤ
greatest xs = best (λ x y. int_lt y x) xs

-- the least lower end that all intervals but this many contain, and the greatest such upper end
abbrev pub low_of : List Candidate → ℕ → Option ℤ
low_of candidates allowed = least (filter (is_held candidates allowed) (map lower candidates))

abbrev pub high_of : List Candidate → ℕ → Option ℤ
high_of candidates allowed = greatest (filter (is_held candidates allowed) (map upper candidates))

-- how many offsets lie outside
abbrev pub outside : List Candidate → ℤ → ℤ → ℕ
outside candidates low high = count_by (λ c. not (is_within low high c.offset)) candidates

-- this many may stand outside where they are fewer than half of all; the two ends are apart; no more than these stand outside
abbrev pub serves : List Candidate → ℕ → ℤ → ℤ → Bool
serves candidates allowed low high = nat_lt (2 * allowed) (length candidates) && int_lt low high && nat_le (outside candidates low high) allowed

-- the interval of the two ends, where there are both and they satisfy this
abbrev pub chime_between : List Candidate → ℕ → Option ℤ → Option ℤ → Option Chime
chime_between candidates allowed None high = None
chime_between candidates allowed (Some low) None = None
chime_between candidates allowed (Some low) (Some high) = if serves candidates allowed low high
    then Some (record { low = low; high = high; allowed = allowed })
    else None

abbrev pub chime_allowing : List Candidate → ℕ → Option Chime
chime_allowing candidates allowed = chime_between candidates allowed (low_of candidates allowed) (high_of candidates allowed)

-- that of the least number of sources outside for which there is one
abbrev pub chime_of : List Candidate → Option Chime
chime_of candidates = slice_get (filter_map (chime_allowing candidates) (range_with_len 0 (length candidates))) 0

-- an offset lies in the interval, so its source is a survivor
abbrev pub is_in : Chime → ℤ → Bool
is_in chime offset = is_within chime.low chime.high offset
