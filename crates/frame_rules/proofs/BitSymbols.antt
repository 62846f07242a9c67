-- The symbol of a bit: which bit it is, and that it is neither a marker nor of no class.
use Rattle.std.proofs.Common.{◌≡◌, Bool, true, false, refl}
use Rattle.frame_rules.specs.Digits.{bit_symbol}
use Rattle.frame_rules.specs.Fields.{is_one}
use Rattle.tick_units.specs.Marks.{is_long}
use Rattle.frame_rules.specs.Rules.{is_odd}

pub is_one-bit_symbol : (bit : Bool) → is_one (bit_symbol bit) ≡ bit
is_one-bit_symbol true = refl
is_one-bit_symbol false = refl

pub is_long-bit_symbol : (bit : Bool) → is_long (bit_symbol bit) ≡ false
is_long-bit_symbol true = refl
is_long-bit_symbol false = refl

pub is_odd-bit_symbol : (bit : Bool) → is_odd (bit_symbol bit) ≡ false
is_odd-bit_symbol true = refl
is_odd-bit_symbol false = refl
