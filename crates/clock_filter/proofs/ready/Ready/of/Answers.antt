-- What the search leaves open of `ready::Ready::of`.
use Rattle.std.proofs.Common.{◌∙◌, sym, arith}
use Rattle.std.proofs.lemmas.Int.{ints}
use Rattle.clock_filter.proofs.ReadyLaws.{dispersion-long, distance-long}
use Rattle.clock_filter.proofs.ready.Ready.of.Goals as goal

pub invariant_of-result : goal.invariant_of-result
invariant_of-result c =
    let long = sym c.are_short.ensures ∙ c.if-are_short.false in
    let nothing = c.from-nothing.ensures in
    record {
      dispersion_is = nothing ∙ sym (dispersion-long c.args.figures long);
      distance_is = nothing ∙ sym (distance-long c.args.figures long);
      dispersion_small = omega (arith, ints);
      distance_small = omega (arith, ints);
    }
