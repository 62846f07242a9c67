-- What the proof of `bits::value` needs.
use Rattle.std.proofs.Common.{◌≡◌, ℕ, ◌+◌, ◌<◌, length, get_or, drop, sum, sym, arith}
use Rattle.std.proofs.lemmas.List.Sums.{sum_by-drop_more}
use Rattle.frame_rules.specs.Bits.{has_bit}
use Rattle.frame_rules.proofs.Sums.{value_set, value_unset}
use Rattle.frame_rules.proofs.bits.value.Goals as goal
use Rattle.frame_rules.proofs.bits.value.Goals.{then-is_set, else-is_set}

pub loop-i-preserved : goal.loop-i-preserved
loop-i-preserved g c =
    let weights = c.args.weights.now in
    let i = c.loop-i.i in
    let lt : i < length weights = omega arith in
    let left : sum (drop i weights) ≡ get_or weights i 0 + sum (drop (i + 1) weights) = sum_by-drop_more (λ (w : ℕ). w) weights i 0 lt in
    elim c.if-is_set.branch [
      | then-is_set w ↦ record {
        small = omega arith;
        most = omega arith;
        so_far = λ marks h. let rest = value_set (has_bit c.args.bit) marks c.args.place i weights lt (sym (w.if-is_set.ensures marks h)) in omega (arith, c.loop-i.invariant.so_far marks h);
      }
      | else-is_set w ↦ record {
        small = omega arith;
        most = omega arith;
        so_far = λ marks h. let rest = value_unset (has_bit c.args.bit) marks c.args.place i weights lt (sym (w.if-is_set.ensures marks h)) in omega (arith, c.loop-i.invariant.so_far marks h);
      }
    ]
