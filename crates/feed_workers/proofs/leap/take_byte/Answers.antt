-- What the search leaves open of `leap::take_byte`.
use Rattle.page_cell.specs.Passes.{claim_of}
use Rattle.feed_workers.proofs.LeapLaws.{noticed_on}
use Rattle.feed_workers.proofs.leap.take_byte.Goals as goal

pub returns-in-Ok-clause-noticed : goal.returns-in-Ok-clause-noticed
returns-in-Ok-clause-noticed g c = λ begin bytes h.
    noticed_on c.args.reader.now c.take.new.self c.args.start _ bytes h c.args.byte c.take.result c.in-Ok.found (claim_of c.notice.new.pass.view) c.notice.new.full
    (c.take.ensures.taken bytes h.read) c.in-Ok.is (c.notice.ensures.kept begin)
