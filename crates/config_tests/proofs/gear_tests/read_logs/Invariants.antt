-- What stays true in the loop of `gear_tests::read_logs`.
use Rattle.std.proofs.Common.{◌≡◌, map}
use Rattle.std.specs.Prelude.{vec_len}
use Rattle.config_tests.proofs.gear_tests.read_logs.Given as goal

abbrev pub invariant-loop-place : goal.invariant-loop-place
invariant-loop-place g l = record {
  count : vec_len l.logs ≡ vec_len l.fn.logs;
  same : map (λ x. g.L.Source.opening x) l.logs.items ≡ map (λ x. g.L.Source.opening x) l.fn.logs.items;
}
