-- A number of two digits, as the tables of PTB (DCF77), NPL (MSF) and NIST (SP 432, WWVB) have it. Some places stand for its
-- tens, by weights as 10, 20, 40, 80; four stand for its ones, by the weights 1, 2, 4, 8.
use Rattle.std.specs.Prelude.{ℕ, ◌+◌}
use Rattle.frame_rules.specs.declared.numbers.Number.{Number}

-- the sum of all weights whose bit is 1
abbrev pub both_digits : Number → ℕ
both_digits n = n.tens + n.ones
