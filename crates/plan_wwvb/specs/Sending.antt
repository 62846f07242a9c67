-- WWVB as it is sent (NIST SP 432): the power is low for 200 ms in a second that says 0, for 500 ms in one that says 1, and for
-- 800 ms in a marker. What a log has before and after its minutes is this project's own.
use Rattle.std.specs.Prelude.{ℕ, [], ◌∷◌}
use Rattle.frame_rules.specs.Sendings.{Sending, odd_width}
use Rattle.plan_wwvb.specs.Spelling.{spelt}
use Rattle.tick_units.specs.declared.marks.Symbol.{Symbol}
use Rattle.tick_units.specs.declared.marks.Symbol.TheVariants.{Zero, One, OnlyB, Both, Long, Odd}

abbrev pub width_of : Symbol → ℕ
width_of Zero = 200000
width_of One = 500000
width_of OnlyB = odd_width
width_of Both = odd_width
width_of Long = 800000
width_of Odd = odd_width

-- a log begins with the last marker of the minute before
abbrev pub wwvb_sending : Sending
wwvb_sending = record {
  spelt = spelt;
  width = width_of;
  opening = Long ∷ [];
  opening_index = 1;
  closing = Long ∷ [];
  number = 2;
}
