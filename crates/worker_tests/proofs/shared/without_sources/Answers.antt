-- What the search leaves open of `shared::without_sources`.
use Rattle.std.proofs.Common.{rules, arith}
use Rattle.worker_tests.proofs.shared.without_sources.Goals as goal

pub returns : goal.returns
returns c = record { milliseconds = 1000; least = omega arith; most = omega arith; bound = search rules }
