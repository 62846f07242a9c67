-- What stays true in the loops of `rate::ends_of`.
use Rattle.std.proofs.Common.{◌≡◌, take, filter, nat_le}
use Rattle.std.specs.Prelude.{option_map}
use Rattle.clock_filter.specs.Rate.{earliest, latest}
use Rattle.clock_filter.proofs.rate.ends_of.Given as goal

abbrev pub invariant-loop-taken : goal.invariant-loop-taken
invariant-loop-taken l = (option_map (λ t. t.now) l.ends.first ≡ earliest (filter (λ x. nat_le l.cut x.at) (take l.taken-index l.eight))) × (option_map (λ t. t.now) l.ends.last ≡ latest (filter (λ x. nat_le l.cut x.at) (take l.taken-index l.eight)))
