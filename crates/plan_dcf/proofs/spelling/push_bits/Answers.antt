-- What the proof of `spelling::push_bits` needs.
use Rattle.std.proofs.Common.{◌≡◌, suc, ◌+◌, ◌-◌, append_assoc, arith}
use Rattle.plan_dcf.proofs.spelling.push_bits.Goals as goal

pub loop-i-preserved : goal.loop-i-preserved
loop-i-preserved c =
    let left = c.args.count - (c.loop-i._i + 1) in
    let next : c.args.count - c.loop-i._i ≡ suc left = omega arith in
    let before = rw next at c.loop-i.invariant.bits in
    record {
      count = omega arith;
      bits = rw (c.push.ensures.list, c.bit_symbol.ensures, append_assoc) before;
    }
