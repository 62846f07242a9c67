-- What the search leaves open of `plain::take_own`.
use Rattle.std.proofs.Common.{List, sym, subst, rules}
use Rattle.clock_filter.specs.Held.{StandsFor}
use Rattle.clock_filter.specs.declared.taken.Taken.{Taken}
use Rattle.system_fold.specs.Samples.{samples_of}
use Rattle.system_fold.proofs.PlainLaws.{samples-own}
use Rattle.system_fold.proofs.plain.take_own.Goals as goal

pub returns-then-e-number-clause-filter : goal.returns-then-e-number-clause-filter
returns-then-e-number-clause-filter c = λ journal h.
    subst (λ (xs : List Taken). StandsFor c.take.new.self.filter xs) (sym (samples-own c.args.feed.now.kind c.args.number journal c.args.e.now (search rules))) (c.take.ensures.filter (samples_of c.args.feed.now.kind c.args.number journal) h)
