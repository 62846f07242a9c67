-- MSF as it is sent (NPL): the carrier is off for 100 ms where both bits are 0, for 200 ms where bit A is 1, for 300 ms where both
-- are, twice for 100 ms where bit B is, and for 500 ms in the first second of a minute. What a log has before and after its
-- minutes is this project's own.
use Rattle.std.specs.Prelude.{ℕ, [], ◌∷◌}
use Rattle.frame_rules.specs.Sendings.{Sending, odd_width}
use Rattle.plan_msf.specs.Spelling.{spelt}
use Rattle.tick_units.specs.declared.marks.Symbol.{Symbol}
use Rattle.tick_units.specs.declared.marks.Symbol.TheVariants.{Zero, One, OnlyB, Both, Long, Odd}

abbrev pub width_of : Symbol → ℕ
width_of Zero = 100000
width_of One = 200000
width_of OnlyB = 100000
width_of Both = 300000
width_of Long = 500000
width_of Odd = odd_width

-- a log ends with one mark more than closes it, since only the reduction after a mark shows that it has no second part
abbrev pub msf_sending : Sending
msf_sending = record {
  spelt = spelt;
  width = width_of;
  opening = [];
  opening_index = 0;
  closing = Long ∷ Zero ∷ [];
  number = 1;
}
