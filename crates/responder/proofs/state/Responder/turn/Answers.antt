-- What the search leaves open of `state::Responder::turn`.
use Rattle.std.proofs.Common.{rules, ◌∷◌, [], take}
use Rattle.outside_traits.specs.States.NetEvent.{Came}
use Rattle.responder.specs.Desks.{desk_of}
use Rattle.responder.specs.Steps.{Goes, Stops}
use Rattle.responder.proofs.TurnLaws.{on_false, on_true, whole_goes, whole_unsent}
use Rattle.responder.proofs.state.Responder.turn.Goals as goal

pub returns-in-Ok-Datagram-clause-goes : goal.returns-in-Ok-Datagram-clause-goes
returns-in-Ok-Datagram-clause-goes g c =
    let before = desk_of g.L.Link.state c.args.self.now in
    let now = desk_of g.L.Link.state c.answer.new.self in
    let past = Came c.in-Ok-Datagram.arrival.from c.in-Ok-Datagram.arrival.at (take c.in-Ok-Datagram.arrival.length c.hear.new.piece) ∷ [] in
    on_true c.answer.result _ (Goes before now [] c.args.served.now c.answer.new.served)
    (λ h. whole_goes before now (g.L.Link.state c.hear.new.self) past c.args.served.now c.answer.new.served (search rules) (search rules) h)
    c.answer.ensures.goes

pub returns-in-Ok-Datagram-clause-stops : goal.returns-in-Ok-Datagram-clause-stops
returns-in-Ok-Datagram-clause-stops g c =
    let before = desk_of g.L.Link.state c.args.self.now in
    let now = desk_of g.L.Link.state c.answer.new.self in
    let past = Came c.in-Ok-Datagram.arrival.from c.in-Ok-Datagram.arrival.at (take c.in-Ok-Datagram.arrival.length c.hear.new.piece) ∷ [] in
    on_false c.answer.result _ (Stops before now c.args.served.now c.answer.new.served)
    (λ h. whole_unsent before now (g.L.Link.state c.hear.new.self) past c.args.served.now c.answer.new.served (search rules) (search rules) h)
    c.answer.ensures.stops
