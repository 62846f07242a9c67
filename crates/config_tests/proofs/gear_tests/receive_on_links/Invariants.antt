-- What stays true in the loop of `gear_tests::receive_on_links`.
use Rattle.std.proofs.Common.{◌≡◌, map}
use Rattle.std.specs.Prelude.{vec_len}
use Rattle.config_tests.proofs.gear_tests.receive_on_links.Given as goal

abbrev pub invariant-loop-place : goal.invariant-loop-place
invariant-loop-place g l = record {
  count : vec_len l.links ≡ vec_len l.fn.links;
  same : map (λ x. g.T.Link.opening x) l.links.items ≡ map (λ x. g.T.Link.opening x) l.fn.links.items;
}
