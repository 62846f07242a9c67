-- What the search leaves open of `state::Responder::answer`.
use Rattle.std.proofs.Common.{◌≡◌, ◌∷◌, [], Ok, ap, refl, sym, ◌∙◌, subst}
use Rattle.outside_traits.specs.Faults.{RoseByOne}
use Rattle.outside_traits.specs.States.NetEvent.{Timed, Went}
use Rattle.outside_traits.proofs.StateLaws.{Adds-more}
use Rattle.sealed_reply.specs.Replies.{reply_to}
use Rattle.responder.specs.Desks.{desk_of}
use Rattle.responder.specs.Steps.{with_sent}
use Rattle.responder.specs.Turns.{Request, Reading}
use Rattle.responder.specs.Turns.Turn.{Dropped, Unsent, Answered}
use Rattle.responder.specs.declared.served.End.TheVariants.{LinkFault}
use Rattle.responder.specs.declared.served.Served.{Served}
use Rattle.responder.proofs.TurnLaws.{torn_goes, read_one}
use Rattle.responder.proofs.state.Responder.answer.Goals as goal

pub returns-in_default-clause-goes : goal.returns-in_default-clause-goes
returns-in_default-clause-goes g c =
    let e = c.in_default.ensures.again in
    let d : Request = record { from = c.args.arrival.now.from; at = c.args.arrival.now.at; bytes = c.args.datagram.now } in
    torn_goes (desk_of g.L.Link.state c.args.self.now) c.try_read.new.r.view d c.args.served.now e.torn e.seen e.readings e.above e.greatest

pub returns-in_default-read-clause-goes : goal.returns-in_default-read-clause-goes
returns-in_default-read-clause-goes g c =
    let e = c.in-Ok.ensures.ok in
    let d : Request = record { from = c.args.arrival.now.from; at = c.args.arrival.now.at; bytes = c.args.datagram.now } in
    let r : Reading = record { length = c.try_read.new.r.view.seen; page = c.in-Ok.page } in
    let m = c.moment-sent.result in
    let t = Dropped d r m in
    let before = desk_of g.L.Link.state c.args.self.now in
    let now = record before { link = g.L.Link.state c.moment-sent.new.self; view = c.try_read.new.r.view } in
    record {
      turn = t;
      took = read_one before now t d c.in-Ok.page (Timed m ∷ []) refl refl refl refl
          (c.in_default-read.field-0, c.in_default-read.ensures.dropped) refl c.moment-sent.ensures.reported.event e.torn e.later e.reading e.page e.greatest;
      goes = refl;
      counted = refl;
      faults = c.moment-sent.ensures.reported.no_fault;
    }

pub returns-in-Ok-send-clause-goes : goal.returns-in-Ok-send-clause-goes
returns-in-Ok-send-clause-goes g c =
    let e = c.in-Ok.ensures.ok in
    let d : Request = record { from = c.args.arrival.now.from; at = c.args.arrival.now.at; bytes = c.args.datagram.now } in
    let r : Reading = record { length = c.try_read.new.r.view.seen; page = c.in-Ok.page } in
    let m = c.moment-sent.result in
    let j = c.judge-judged.result in
    let t = Answered d r j m c.bytes.result.now in
    let before = desk_of g.L.Link.state c.args.self.now in
    let now = record before { gate = c.judge-judged.new.self; link = g.L.Link.state c.send.new.self; view = c.try_read.new.r.view } in
    let replied = subst (λ bytes. reply_to before.keys j.code c.in-Ok.page bytes d.at m ≡ Ok c.reply_in.new.out) c.in-Ok-read.ensures.read c.reply_in.ensures.replied in
    record {
      turn = t;
      took = read_one before now t d c.in-Ok.page (Timed m ∷ Went d.from c.bytes.result.now ∷ []) refl refl refl refl
          (c.judge-judged.ensures.judged, replied ∙ ap Ok (sym c.bytes.ensures.value)) c.judge-judged.ensures.table (Adds-more _ _ _ (Timed m ∷ []) (Went d.from c.bytes.result.now ∷ []) c.moment-sent.ensures.reported.event c.in-Ok-send.ensures.sent.event) e.torn e.later e.reading e.page e.greatest;
      goes = refl;
      counted = c.count_sent.ensures ∙ ap (λ s. with_sent j.code s) c.count_judged.ensures.counted;
      faults = c.in-Ok-send.ensures.cause.kept ∙ c.moment-sent.ensures.reported.no_fault;
    }

pub returns-in-Err-clause-stops : goal.returns-in-Err-clause-stops
returns-in-Err-clause-stops g c =
    let e = c.in-Ok.ensures.ok in
    let d : Request = record { from = c.args.arrival.now.from; at = c.args.arrival.now.at; bytes = c.args.datagram.now } in
    let r : Reading = record { length = c.try_read.new.r.view.seen; page = c.in-Ok.page } in
    let m = c.moment-sent.result in
    let j = c.judge-judged.result in
    let t = Unsent d r j m c.bytes.result.now in
    let before = desk_of g.L.Link.state c.args.self.now in
    let now = record before { gate = c.judge-judged.new.self; link = g.L.Link.state c.send.new.self; view = c.try_read.new.r.view } in
    let replied = subst (λ bytes. reply_to before.keys j.code c.in-Ok.page bytes d.at m ≡ Ok c.reply_in.new.out) c.in-Ok-read.ensures.read c.reply_in.ensures.replied in
    record {
      request = d;
      reading = r;
      judged = j;
      moment = m;
      reply = c.bytes.result.now;
      took = read_one before now t d c.in-Ok.page (Timed m ∷ []) refl refl refl refl
          (c.judge-judged.ensures.judged, replied ∙ ap Ok (sym c.bytes.ensures.value)) c.judge-judged.ensures.table (Adds-more _ _ _ (Timed m ∷ []) [] c.moment-sent.ensures.reported.event c.in-Err.ensures.sent.event) e.torn e.later e.reading e.page e.greatest;
      rose = subst (λ n. RoseByOne n (g.L.Link.state c.send.new.self).faults) c.moment-sent.ensures.reported.no_fault c.in-Err.ensures.cause.rose;
      counted = ap (λ (s : Served). record s { end = LinkFault }) c.count_judged.ensures.counted;
    }
