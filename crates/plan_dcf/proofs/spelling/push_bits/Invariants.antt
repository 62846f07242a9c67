-- The invariants of the loop of `spelling::push_bits`.
use Rattle.std.proofs.Common.{◌≡◌, ◌+◌, ◌-◌, ◌++◌, length}
use Rattle.plan_dcf.specs.Spelling.{bits_of}
use Rattle.plan_dcf.proofs.spelling.push_bits.Given as goal

-- what is written, with the bits that are left, is the same throughout
abbrev pub invariant-loop-i : goal.invariant-loop-i
invariant-loop-i l = record {
  count : length l.frame ≡ length l.initial.frame + l._i;
  bits : l.frame ++ bits_of (l.count - l._i) l.rest ≡ l.initial.frame ++ bits_of l.count l.number;
}
