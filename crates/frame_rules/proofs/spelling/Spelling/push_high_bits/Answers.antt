-- What the proof of `spelling::Spelling::push_high_bits` needs.
use Rattle.std.proofs.Common.{◌≡◌, suc, ◌-◌, append_assoc, arith}
use Rattle.frame_rules.proofs.spelling.Spelling.push_high_bits.Goals as goal

pub loop-left-preserved : goal.loop-left-preserved
loop-left-preserved c =
    let next : c.loop-left.left ≡ suc (c.loop-left.left - 1) = omega arith in
    let before = rw next at c.loop-left.invariant.bits in
    record {
      few = omega arith;
      count = omega arith;
      bits = rw (c.push.ensures.list, c.bit_symbol.ensures, append_assoc) before;
    }
