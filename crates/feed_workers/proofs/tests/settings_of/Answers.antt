-- What the search leaves open of `tests::settings_of`.
use Rattle.std.proofs.Common.{rules, arith}
use Rattle.feed_workers.proofs.tests.settings_of.Goals as goal

pub returns : goal.returns
returns c = record { milliseconds = 500; least = omega arith; most = omega arith; bound = search rules }
