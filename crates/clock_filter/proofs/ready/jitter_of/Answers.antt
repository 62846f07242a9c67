-- What the search leaves open of `ready::jitter_of`.
use Rattle.std.proofs.Common.{◌∙◌, ap, sym, arith}
use Rattle.tick_units.specs.Units.{root}
use Rattle.tick_units.proofs.RootLaws.{root_from}
use Rattle.clock_filter.proofs.ready.jitter_of.Goals as goal

pub returns-then-jitter2-eq0 : goal.returns-then-jitter2-eq0
returns-then-jitter2-eq0 c = root_from 0 0 (omega arith) (omega arith) ∙ ap root (sym c.if-jitter2-eq0.true)
