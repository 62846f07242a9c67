-- The fields of a frame: the bits of its places, the weights of those that are 1, and how many are. The tables of PTB
-- (DCF77), NPL (MSF) and NIST (SP 432, WWVB) have this form. Places count from 0.
use Rattle.std.specs.Prelude.{ℕ, ◌+◌, ◌-◌, ◌*◌, ◌%◌, Bool, true, false, ◌&&◌, ◌==◌, List, [], ◌∷◌, map, slice_index_or, count_by, if◌then◌else◌}
use Rattle.std.specs.Bool.{beq}
use Rattle.std.specs.List.{range_with_len}
use Rattle.tick_units.specs.declared.marks.Mark.{Mark}
use Rattle.tick_units.specs.declared.marks.Symbol.{Symbol}
use Rattle.tick_units.specs.declared.marks.Symbol.TheVariants.{Zero, One, OnlyB, Both, Long, Odd}

-- the bit of a symbol in DCF77 and WWVB
abbrev pub is_one : Symbol → Bool
is_one One = true
is_one Zero = false
is_one OnlyB = false
is_one Both = false
is_one Long = false
is_one Odd = false

-- bit A of MSF
abbrev pub has_a : Symbol → Bool
has_a One = true
has_a Both = true
has_a Zero = false
has_a OnlyB = false
has_a Long = false
has_a Odd = false

-- bit B of MSF
abbrev pub has_b : Symbol → Bool
has_b OnlyB = true
has_b Both = true
has_b Zero = false
has_b One = false
has_b Long = false
has_b Odd = false

abbrev pub symbols_of : List Mark → List Symbol
symbols_of marks = map (λ mark. mark.symbol) marks

-- whether the bit of a place is 1; a place that the segment does not have counts as Zero
abbrev pub is_set : (Symbol → Bool) → List Mark → ℕ → Bool
is_set bit marks place = bit (slice_index_or (symbols_of marks) place Zero)

-- the bit as a number
abbrev pub bit_at : (Symbol → Bool) → List Mark → ℕ → ℕ
bit_at bit marks place = if is_set bit marks place then 1 else 0

-- the sum of those weights whose bit is 1; the first weight is that of the place, and each next one of the next place
abbrev pub value : (Symbol → Bool) → List Mark → ℕ → List ℕ → ℕ
value bit marks place [] = 0
value bit marks place (weight ∷ weights) = weight * bit_at bit marks place + value bit marks (place + 1) weights

-- how many places from the first to the last, both included, have the bit 1
abbrev pub ones : (Symbol → Bool) → List Mark → ℕ → ℕ → ℕ
ones bit marks first last = count_by (is_set bit marks) (range_with_len first (last + 1 - first))

-- that count is odd
abbrev pub is_odd_over : (Symbol → Bool) → List Mark → ℕ → ℕ → Bool
is_odd_over bit marks first last = ones bit marks first last % 2 == 1

-- the bits of the places from the first on are these
abbrev pub has_pattern : (Symbol → Bool) → List Mark → ℕ → List Bool → Bool
has_pattern bit marks first [] = true
has_pattern bit marks first (wanted ∷ pattern) = beq (is_set bit marks first) wanted && has_pattern bit marks (first + 1) pattern
