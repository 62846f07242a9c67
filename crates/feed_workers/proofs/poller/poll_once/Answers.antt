-- What the search leaves open of `poller::poll_once`.
use Rattle.std.proofs.Common.{rules, ◌∙◌}
use Rattle.page_cell.specs.Passes.{claim_of}
use Rattle.feed_workers.specs.Keeping.{share_of}
use Rattle.feed_workers.specs.Polling.{session_at}
use Rattle.feed_workers.proofs.RoundLaws.{asked, is_timely, unsent, round_on, round_over, round_end, round_cut, round_full}
use Rattle.feed_workers.proofs.poller.poll_once.Goals as goal

pub returns-in-Err-clause-stops : goal.returns-in-Err-clause-stops
returns-in-Err-clause-stops g c = λ before begun count polls lt p same.
    let session = session_at c.args.peer.server before (g.L.Link.state c.args.link.now) (share_of begun c.args.pass.now g.K.Recorder.limit c.args.full.now) in
    unsent session c.args.poll.now _ _ count polls c.moment-moment.result lt p c.moment-moment.ensures.reported c.in-Err.ensures.sent.event c.in-Err.ensures.cause.rose

pub hearings-init : goal.hearings-init
hearings-init g c = record {
  link = c.in-Ok.ensures.number ∙ c.moment-moment.ensures.number;
  pass = c.requires.pass;
  asked = λ x e. is_timely _ c.moment-moment.result _ x c.ask-request.ensures.asked (c.in-Ok.ensures.sent.same ∙ c.moment-moment.ensures.reported.latest) e;
  so_far = λ before begun count p same.
      let session = session_at c.args.peer.server before (g.L.Link.state c.args.link.now) (share_of begun c.args.pass.now g.K.Recorder.limit c.args.full.now) in
      asked session c.args.poll.now c.ask-request.new.self _ _ count c.moment-moment.result c.ask-request.result p c.moment-moment.ensures.reported (c.ask-request.ensures.polled c.args.peer.server)
      c.in-Ok.ensures.sent.event c.in-Ok.ensures.cause.kept c.ask-request.ensures.request;
}

pub returns-in-Over-clause-goes : goal.returns-in-Over-clause-goes
returns-in-Over-clause-goes g c = λ before begun count p same.
    let r = c.hearings.invariant.so_far before begun count p same in
    let session = session_at c.args.peer.server before (g.L.Link.state c.hearings.link) (share_of begun c.hearings.pass g.K.Recorder.limit c.hearings.full) in
    round_over session c.hearings.poll c.receive_once.new.poll (g.L.Link.state c.receive_once.new.link) (claim_of c.receive_once.new.pass.view) c.receive_once.new.full count c.hearings.counter r
    (search rules) (c.in-Over.ensures.receives c.args.peer.server before begun _ r.done same)

pub returns-in-End-clause-stops : goal.returns-in-End-clause-stops
returns-in-End-clause-stops g c = λ before begun count polls lt p same.
    let r = c.hearings.invariant.so_far before begun count p same in
    let session = session_at c.args.peer.server before (g.L.Link.state c.hearings.link) (share_of begun c.hearings.pass g.K.Recorder.limit c.hearings.full) in
    round_end session c.hearings.poll c.receive_once.new.poll (g.L.Link.state c.receive_once.new.link) (claim_of c.receive_once.new.pass.view) c.receive_once.new.full count c.hearings.counter r polls lt
    (search rules) (c.in-End.ensures.receives c.args.peer.server before begun _ r.done same)

pub returns-in-Fault-clause-stops : goal.returns-in-Fault-clause-stops
returns-in-Fault-clause-stops g c = λ before begun count polls lt p same.
    let r = c.hearings.invariant.so_far before begun count p same in
    let session = session_at c.args.peer.server before (g.L.Link.state c.hearings.link) (share_of begun c.hearings.pass g.K.Recorder.limit c.hearings.full) in
    round_cut session c.hearings.poll c.receive_once.new.poll (g.L.Link.state c.receive_once.new.link) (claim_of c.receive_once.new.pass.view) c.receive_once.new.full count c.hearings.counter r polls lt
    (search rules) (c.in-Fault.ensures.receives c.args.peer.server before begun _ r.done same)

pub hearings-preserved : goal.hearings-preserved
hearings-preserved g c = record {
  link = search rules;
  pass = c.in-On.ensures.pass;
  asked = c.in-On.ensures.asked;
  so_far = λ before begun count p same.
      let r = c.hearings.invariant.so_far before begun count p same in
      let session = session_at c.args.peer.server before (g.L.Link.state c.hearings.link) (share_of begun c.hearings.pass g.K.Recorder.limit c.hearings.full) in
      round_on session c.hearings.poll c.receive_once.new.poll (g.L.Link.state c.receive_once.new.link) (claim_of c.receive_once.new.pass.view) c.receive_once.new.full count c.hearings.counter r
      (c.in-On.ensures.receives c.args.peer.server before begun _ r.done same);
}

pub returns-clause-goes : goal.returns-clause-goes
returns-clause-goes g c = λ before begun count p same.
    let r = c.hearings.invariant.so_far before begun count p same in
    let session = session_at c.args.peer.server before (g.L.Link.state c.hearings.link) (share_of begun c.hearings.pass g.K.Recorder.limit c.hearings.full) in
    round_full session c.hearings.poll count c.hearings.counter (search rules) r
