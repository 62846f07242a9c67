-- What stays true in the loops of `state::Responder::serve`.
use Rattle.responder.specs.Desks.{IsSame, desk_of}
use Rattle.responder.specs.Steps.{Serving}
use Rattle.responder.proofs.state.Responder.serve.Given as goal

abbrev pub invariant-loop : goal.invariant-loop
invariant-loop g l = record {
  same : IsSame g.L.Link.opening l.initial.self l.self;
  serving : Serving (desk_of g.L.Link.state l.initial.self) (desk_of g.L.Link.state l.self) l.counter l.served;
}
