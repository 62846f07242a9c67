-- What the proof of `bits::is_odd_over` needs.
use Rattle.std.proofs.Common.{◌≤◌, sym, arith}
use Rattle.frame_rules.specs.Fields.{is_set}
use Rattle.frame_rules.specs.Bits.{has_bit}
use Rattle.frame_rules.proofs.Sums.{ones_set, ones_unset}
use Rattle.frame_rules.proofs.bits.is_odd_over.Goals as goal
use Rattle.frame_rules.proofs.bits.is_odd_over.Goals.{then-is_set, else-is_set}

pub loop-place-preserved : goal.loop-place-preserved
loop-place-preserved g c =
    let place = c.loop-place.place in
    let within : place ≤ c.args.last = omega arith in
    elim c.if-is_set.branch [
      | then-is_set w ↦ record {
        few = omega arith;
        so_far = λ marks h. let rest = ones_set (is_set (has_bit c.args.bit) marks) place c.args.last within (sym (w.if-is_set.ensures marks h)) in omega (arith, c.loop-place.invariant.so_far marks h);
      }
      | else-is_set w ↦ record {
        few = omega arith;
        so_far = λ marks h. let rest = ones_unset (is_set (has_bit c.args.bit) marks) place c.args.last within (sym (w.if-is_set.ensures marks h)) in omega (arith, c.loop-place.invariant.so_far marks h);
      }
    ]
