-- DCF77 as it is sent (PTB): a mark of 100 ms says 0, one of 200 ms says 1. What a log has before and after its minutes is this
-- project's own.
use Rattle.std.specs.Prelude.{ℕ, [], ◌∷◌}
use Rattle.frame_rules.specs.Sendings.{Sending, odd_width}
use Rattle.plan_dcf.specs.Spelling.{spelt}
use Rattle.tick_units.specs.declared.marks.Symbol.{Symbol}
use Rattle.tick_units.specs.declared.marks.Symbol.TheVariants.{Zero, One, OnlyB, Both, Long, Odd}

abbrev pub width_of : Symbol → ℕ
width_of Zero = 100000
width_of One = 200000
width_of OnlyB = odd_width
width_of Both = odd_width
width_of Long = odd_width
width_of Odd = odd_width

-- a log begins with the last mark of the minute before, after which one second has none
abbrev pub dcf_sending : Sending
dcf_sending = record {
  spelt = spelt;
  width = width_of;
  opening = Zero ∷ [];
  opening_index = 0;
  closing = Zero ∷ [];
  number = 0;
}
