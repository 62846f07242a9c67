-- Which bit of a symbol the readers of the three plans look at (PTB on DCF77, NPL on MSF, NIST SP 432 on WWVB).
use Rattle.std.specs.Prelude.{Bool}
use Rattle.frame_rules.specs.Fields.{is_one, has_a, has_b}
use Rattle.tick_units.specs.declared.marks.Symbol.{Symbol}
use Rattle.frame_rules.specs.declared.bits.Bit.{Bit}
use Rattle.frame_rules.specs.declared.bits.Bit.TheVariants.{Only, A, B}

abbrev pub has_bit : Bit → Symbol → Bool
has_bit Only = is_one
has_bit A = has_a
has_bit B = has_b
