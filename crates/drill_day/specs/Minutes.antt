-- What a made log says at each of its seconds, before the first minute and after the last. Minutes are as PTB (DCF77), NPL (MSF)
-- and NIST (SP 432, WWVB) spell them, one after another. The choice of damaged minutes is this project's own.
use Rattle.std.specs.Prelude.{ℕ, ◌+◌, ◌*◌, ◌%◌, Bool, false, not, ◌&&◌, ◌==◌, List, [], ◌∷◌, ◌++◌}
use Rattle.std.specs.List.{flat_map, range_with_len}
use Rattle.tick_units.specs.declared.marks.Plan.{Plan}
use Rattle.tick_units.specs.declared.marks.Symbol.{Symbol}
use Rattle.tick_units.specs.declared.verdicts.Coded.{Coded}
use Rattle.frame_rules.specs.Sendings.{damaged_if}
use Rattle.code_plans.specs.Codes.{sending_of}
use Rattle.drill_day.specs.declared.seconds.Second.{Second}

-- a minute of the log, counted from 0, is damaged: every 50th, but never the first of all
abbrev pub is_damaged : ℕ → ℕ → Bool
is_damaged seed minute = not (minute == 0) && minute % 50 == seed % 50

-- what the frame of a minute says: the second at which the minute after it begins
abbrev pub coded_of : ℕ → ℕ → Coded
coded_of first minute = record { minute = first + 60 * (minute + 1); leap_at = 0; summer = false }

abbrev pub spelt_by : Plan → Coded → List Symbol
spelt_by plan c = (sending_of plan).spelt c

abbrev pub symbols_of : Plan → ℕ → ℕ → ℕ → List Symbol
symbols_of plan first seed minute = damaged_if (is_damaged seed minute) (spelt_by plan (coded_of first minute))

-- the seconds that have these symbols, one after another from this index on
abbrev pub seconds_from : ℕ → List Symbol → List Second
seconds_from index [] = []
seconds_from index (symbol ∷ more) = record { index = index; symbol = symbol } ∷ seconds_from (index + 1) more

-- what stands before the first minute, so that its beginning can be found
abbrev pub opening_symbols : Plan → List Symbol
opening_symbols plan = (sending_of plan).opening

abbrev pub opening_index : Plan → ℕ
opening_index plan = (sending_of plan).opening_index

-- what stands after the last minute: the first mark of the next, which closes it, and whatever shows that this mark is whole
abbrev pub closing_symbols : Plan → List Symbol
closing_symbols plan = (sending_of plan).closing

-- minute 0 begins at second index 2
abbrev pub index_of : ℕ → ℕ
index_of minute = 2 + 60 * minute

-- the first minutes of the log, with what stands before them
abbrev pub begun : Plan → ℕ → ℕ → ℕ → List Second
begun plan first seed minutes = seconds_from (opening_index plan) (opening_symbols plan) ++ flat_map (λ minute. seconds_from (index_of minute) (symbols_of plan first seed minute)) (range_with_len 0 minutes)

-- the seconds of the log that have a mark
abbrev pub seconds_of : Plan → ℕ → ℕ → ℕ → List Second
seconds_of plan first minutes seed = begun plan first seed minutes ++ seconds_from (index_of minutes) (closing_symbols plan)
