-- What the search leaves open of `radio::read_log`.
use Rattle.std.proofs.Common.{rules, subst}
use Rattle.page_cell.specs.Passes.{claim_of}
use Rattle.page_cell.specs.declared.view.Claim.{Claim}
use Rattle.feed_workers.specs.Receiving.{Since}
use Rattle.feed_workers.specs.Keeping.{share_of}
use Rattle.feed_workers.specs.Logs.{RunsLog, intake_of}
use Rattle.feed_workers.proofs.LogLaws.{received_none}
use Rattle.feed_workers.proofs.radio.read_log.Goals as goal

pub returns-clause-runs : goal.returns-clause-runs
returns-clause-runs g c = λ plan delay h.
    let read = c.read_pieces-read in
    let since : Since = record { tuning = record { plan = plan; delay = delay }; begun = claim_of c.args.pass.now.view } in
    let intake = intake_of (g.L.Source.state c.args.log.now) (g.L.Source.state read.new.file) c.args.limit in
    let heard = read.ensures.ends since (received_none _ c.args.decoder.now since.tuning since.begun g.K.Recorder.limit h) in
    let runs = c.end_of-end.ensures since.tuning (intake (share_of since.begun read.new.taker.pass.now g.K.Recorder.limit read.new.taker.full)) heard in
    subst (λ (claim : Claim). RunsLog plan delay (intake (record { begun = since.begun; claim = claim; limit = g.K.Recorder.limit; full = read.new.taker.full })) c.end_of-end.result)
    (search rules) runs
