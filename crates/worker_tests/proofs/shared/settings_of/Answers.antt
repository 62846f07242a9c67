-- What the search leaves open of `shared::settings_of`.
use Rattle.std.proofs.Common.{rules, arith}
use Rattle.worker_tests.proofs.shared.settings_of.Goals as goal

pub returns-clause-valid : goal.returns-clause-valid
returns-clause-valid c = record { milliseconds = 1000; least = omega arith; most = omega arith; bound = search rules }
