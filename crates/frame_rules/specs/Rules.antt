-- What the rules of the three code plans share. The bounds in microseconds are this project's own.
use Rattle.std.specs.Prelude.{ℕ, ◌+◌, Bool, true, false, not, ◌&&◌, ◌||◌, nat_lt, List, [], ◌∷◌, ◌++◌, map}
use Rattle.std.specs.List.{list_any}
use Rattle.tick_units.specs.Marks.{is_between}
use Rattle.tick_units.specs.declared.marks.Mark.{Mark}
use Rattle.tick_units.specs.declared.marks.Symbol.{Symbol}
use Rattle.tick_units.specs.declared.marks.Symbol.TheVariants.{Zero, One, OnlyB, Both, Long, Odd}

abbrev pub starts_of : List Mark → List ℕ
starts_of marks = map (λ mark. mark.at) marks

-- each start comes 900000 to 1100000 after the one before it
abbrev pub are_spaced : List ℕ → Bool
are_spaced [] = true
are_spaced (start ∷ []) = true
are_spaced (start ∷ next ∷ starts) = is_between (start + 900000) (start + 1100000) next && are_spaced (next ∷ starts)

-- that, and so does the mark that closes them after the last of them
abbrev pub are_spaced_to : List Mark → ℕ → Bool
are_spaced_to marks close = are_spaced (starts_of marks ++ close ∷ [])

abbrev pub is_odd : Symbol → Bool
is_odd Odd = true
is_odd Zero = false
is_odd One = false
is_odd OnlyB = false
is_odd Both = false
is_odd Long = false

-- a width is in no class
abbrev pub has_odd_symbol : List Mark → Bool
has_odd_symbol marks = list_any (λ mark. is_odd mark.symbol) marks

-- a number of two digits is invalid: its ones digit is above 9, or it is not in its range
abbrev pub is_out_of : ℕ → ℕ → ℕ → ℕ → Bool
is_out_of least most ones number = nat_lt 9 ones || not (is_between least most number)
