-- The invariants of the loop of `spelling::Spelling::append`.
use Rattle.std.proofs.Common.{◌≡◌, ◌+◌, ◌++◌, length, take}
use Rattle.frame_rules.proofs.spelling.Spelling.append.Given as goal

abbrev pub invariant-loop-symbol : goal.invariant-loop-symbol
invariant-loop-symbol l = record {
  count : length l.self ≡ length l.initial.self + l.symbol-index;
  list : l.self ≡ l.initial.self ++ take l.symbol-index l.other;
}
