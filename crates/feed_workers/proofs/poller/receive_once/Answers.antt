-- What the search leaves open of `poller::receive_once`.
use Rattle.std.proofs.Common.{refl, take, ◌∙◌}
use Rattle.outside_traits.specs.States.NetEvent.{Came, Silent}
use Rattle.page_cell.specs.Passes.{claim_of}
use Rattle.feed_workers.specs.Keeping.{share_of}
use Rattle.feed_workers.specs.Polling.{session_at}
use Rattle.feed_workers.specs.Polls.{history_of}
use Rattle.feed_workers.proofs.RoundLaws.{receives_datagram, receives_quiet, receives_end}
use Rattle.feed_workers.proofs.poller.receive_once.Goals as goal

pub returns-then-accepted-clause-receives : goal.returns-then-accepted-clause-receives
returns-then-accepted-clause-receives g c = λ server before begun events done same.
    let session = session_at server before (g.L.Link.state c.args.link.now) (share_of begun c.args.pass.now g.K.Recorder.limit c.args.full.now) in
    let a = c.in-Ok-Datagram.arrival in
    let j = c.judge_datagram-judged in
    let h = receives_datagram session c.args.poll.now j.new.poll (g.L.Link.state c.hear.new.self) (claim_of c.enter.new.pass.view) c.enter.new.full j.result.accepted events
    c.in-Ok-Datagram.field-0 a c.hear.new.piece c.args.feed j.result.what done same c.in-Ok-Datagram.ensures.heard c.in-Ok-Datagram.field-0-is c.in-Ok-Datagram.ensures.cause.kept
    (j.ensures.polled server (history_of events) done.polled) (j.ensures.what server (history_of events) done.polled) (j.ensures.accepted server (history_of events) done.polled) (c.enter.ensures.kept begun) in
    (Came a.from a.at (take a.length c.hear.new.piece), refl, h.0 ∙ c.if-accepted.true, refl, h.1)

pub returns-else-accepted-clause-receives : goal.returns-else-accepted-clause-receives
returns-else-accepted-clause-receives g c = λ server before begun events done same.
    let session = session_at server before (g.L.Link.state c.args.link.now) (share_of begun c.args.pass.now g.K.Recorder.limit c.args.full.now) in
    let a = c.in-Ok-Datagram.arrival in
    let j = c.judge_datagram-judged in
    let h = receives_datagram session c.args.poll.now j.new.poll (g.L.Link.state c.hear.new.self) (claim_of c.enter.new.pass.view) c.enter.new.full j.result.accepted events
    c.in-Ok-Datagram.field-0 a c.hear.new.piece c.args.feed j.result.what done same c.in-Ok-Datagram.ensures.heard c.in-Ok-Datagram.field-0-is c.in-Ok-Datagram.ensures.cause.kept
    (j.ensures.polled server (history_of events) done.polled) (j.ensures.what server (history_of events) done.polled) (j.ensures.accepted server (history_of events) done.polled) (c.enter.ensures.kept begun) in
    (Came a.from a.at (take a.length c.hear.new.piece), refl, h.0 ∙ c.if-accepted.false, refl, h.1)

pub returns-in-Ok-Quiet-clause-receives : goal.returns-in-Ok-Quiet-clause-receives
returns-in-Ok-Quiet-clause-receives g c = λ server before begun events done same.
    let session = session_at server before (g.L.Link.state c.args.link.now) (share_of begun c.args.pass.now g.K.Recorder.limit c.args.full.now) in (
      Silent,
      refl,
      refl,
      refl,
      receives_quiet session c.args.poll.now _ events c.in-Ok-Quiet.field-0 c.hear.new.piece done c.in-Ok-Quiet.ensures.heard c.in-Ok-Quiet.field-0-is c.in-Ok-Quiet.ensures.cause.kept,
    )

pub returns-in-Ok-End-clause-receives : goal.returns-in-Ok-End-clause-receives
returns-in-Ok-End-clause-receives g c = λ server before begun events done same.
    let session = session_at server before (g.L.Link.state c.args.link.now) (share_of begun c.args.pass.now g.K.Recorder.limit c.args.full.now) in
    receives_end session c.args.poll.now _ events c.in-Ok-End.field-0 c.hear.new.piece done c.in-Ok-End.ensures.heard c.in-Ok-End.field-0-is c.in-Ok-End.ensures.cause.kept
