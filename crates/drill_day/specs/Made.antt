-- A made log: the reductions of its seconds, each late by a number of a generator, and its text. The generator is the one in an
-- example of the C standard (ISO/IEC 9899, `rand`), modulo 2^31. The code plan says each width. Moments and widths are in
-- microseconds.
use Rattle.std.specs.Prelude.{◌≡◌, ℕ, zero, suc, None, ◌+◌, ◌*◌, ◌%◌, ◌^◌, List, [], ◌∷◌, ◌++◌}
use Rattle.std.specs.List.{flat_map}
use Rattle.tick_units.specs.Log.{pulses, bad_at_end}
use Rattle.tick_units.specs.declared.marks.Plan.{Plan}
use Rattle.tick_units.specs.declared.marks.Reduction.{Reduction}
use Rattle.tick_units.specs.declared.marks.Symbol.{Symbol}
use Rattle.tick_units.specs.declared.marks.Symbol.TheVariants.{Zero, One, OnlyB, Both, Long, Odd}
use Rattle.code_plans.specs.Codes.{sending_of}
use Rattle.pulse_log.specs.Writing.{line_of}
use Rattle.drill_day.specs.Minutes.{seconds_of}
use Rattle.drill_day.specs.declared.seconds.Second.{Second}

-- number 0 of the generator
abbrev pub seeded : Plan → ℕ → ℕ
seeded plan seed = (seed + (sending_of plan).number) % 2 ^ 31

abbrev pub number_after : ℕ → ℕ
number_after n = (1103515245 * n + 12345) % 2 ^ 31

-- the j-th number after this one
abbrev pub number_from : ℕ → ℕ → ℕ
number_from start zero = start
number_from start (suc j) = number_after (number_from start j)

-- the width that says a symbol; one in no class stands for a symbol that the plan does not have
abbrev pub width_of : Plan → Symbol → ℕ
width_of plan symbol = (sending_of plan).width symbol

-- second index 0 is at 5 s, and each mark is up to 2 ms late
abbrev pub start_of : ℕ → ℕ → ℕ
start_of index number = 5000000 + index * 1000000 + number % 2001

-- the reductions that say a symbol from a start on; an MSF second in two parts has two
abbrev pub parts_of : Plan → ℕ → Symbol → List Reduction
parts_of plan start Zero = record { at = start; width = width_of plan Zero } ∷ []
parts_of plan start One = record { at = start; width = width_of plan One } ∷ []
parts_of plan start OnlyB = record { at = start; width = width_of plan OnlyB } ∷ record { at = start + 200000; width = width_of plan OnlyB } ∷ []
parts_of plan start Both = record { at = start; width = width_of plan Both } ∷ []
parts_of plan start Long = record { at = start; width = width_of plan Long } ∷ []
parts_of plan start Odd = record { at = start; width = width_of plan Odd } ∷ []

-- the reductions of these seconds, of which the first is the j-th of its log: it is late by the j-th number
abbrev pub reductions_from : Plan → ℕ → ℕ → List Second → List Reduction
reductions_from plan start j [] = []
reductions_from plan start j (second ∷ more) = parts_of plan (start_of second.index (number_from start j)) second.symbol ++ reductions_from plan start (suc j) more

-- seconds count from 1
abbrev pub reductions_of : Plan → ℕ → List Second → List Reduction
reductions_of plan start seconds = reductions_from plan start 1 seconds

-- the lines of reductions, each with its line feed
abbrev pub text_of : List Reduction → List ℕ
text_of reductions = flat_map (λ r. line_of r ++ 10 ∷ []) reductions

-- the made log of this many minutes, the first of which begins at the absolute second `first`
abbrev pub made : Plan → ℕ → ℕ → ℕ → List Reduction
made plan first minutes seed = reductions_of plan (seeded plan seed) (seconds_of plan first minutes seed)

-- a reader of this text as a log finds these reductions, and no bad line
pub record IsReadAs (text : List ℕ) (reductions : List Reduction) : Type 0 where
  pub found : pulses text ≡ reductions
  pub bad : bad_at_end text ≡ None
