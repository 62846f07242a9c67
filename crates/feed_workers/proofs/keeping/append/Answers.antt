-- What the search leaves open of `keeping::append`.
use Rattle.feed_workers.proofs.KeepLaws.{keeps_one}
use Rattle.feed_workers.proofs.keeping.append.Goals as goal

pub returns-in-Ok-clause-kept : goal.returns-in-Ok-clause-kept
returns-in-Ok-clause-kept g c = λ start due k. keeps_one start c.args.pass.now c.append.new.f _ c.in-Ok.field-0 c.args.entry due c.args.full.now k c.in-Ok.ensures.pass c.in-Ok.ensures.ok
