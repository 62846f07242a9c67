-- The texts of the arguments so far.
use Rattle.std.proofs.Common.{◌≡◌, map, take}
use Rattle.std.specs.String.{string_bytes}
use Rattle.radio_ntpd.proofs.arguments.listed_texts.Given as goal

abbrev pub invariant-loop-argument : goal.invariant-loop-argument
invariant-loop-argument l = map (λ t. t.now) l.texts.items ≡ map (λ w. string_bytes w) (take l.argument-index l.arguments)
