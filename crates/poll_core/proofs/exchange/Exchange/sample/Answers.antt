-- What the search leaves open of `exchange::Exchange::sample`.
use Rattle.std.proofs.Common.{rules, arith, sym, subst}
use Rattle.tick_units.specs.Samples.{IsValid}
use Rattle.poll_core.proofs.Lengths.{sample_of-is_valid}
use Rattle.poll_core.proofs.exchange.Exchange.sample.Goals as goal

pub returns-clause-value : goal.returns-clause-value
returns-clause-value c = search rules

pub returns-clause-valid : goal.returns-clause-valid
returns-clause-valid c =
    subst IsValid (sym (returns-clause-value c)) (sample_of-is_valid c.args.server c.args.self.now.asked c.args.at c.args.self.now.header c.requires (omega arith) (omega arith) (omega arith))
