-- What the search leaves open of `ready::Ready::of_short`.
use Rattle.std.proofs.Common.{◌∙◌, ◌+ℤ◌, sym, arith}
use Rattle.std.proofs.lemmas.Int.{ints}
use Rattle.clock_filter.proofs.ReadyLaws.{dispersion-short, distance-short}
use Rattle.clock_filter.proofs.ready.Ready.of_short.Goals as goal

pub invariant_of-result : goal.invariant_of-result
invariant_of-result c =
    let dispersion_small = c.steady_dispersion-dispersion.ensures.small in
    let half_small = c.half_of_delay.ensures.small in
    let sum = c.add-distance.ensures in
    record {
      dispersion_is = c.steady_dispersion-dispersion.ensures.value ∙ sym (dispersion-short c.args.figures c.requires);
      distance_is = sum ∙ (λ i. c.half_of_delay.ensures.value i +ℤ c.steady_dispersion-dispersion.ensures.value i) ∙ sym (distance-short c.args.figures c.requires);
      dispersion_small = dispersion_small;
      distance_small = omega (arith, ints);
    }
