-- What the search leaves open of `run::run_station`: its status is that of what came of the command.
use Rattle.std.proofs.Common.{◌⊎◌, map, subst, sym}
use Rattle.command_words.specs.Commands.{Asked, AskFor}
use Rattle.outside_traits.specs.Faults.{Rose}
use Rattle.command_ends.specs.Effects.{Effect, effect_of}
use Rattle.command_ends.specs.Unopened.{Lacks, Refuses}
use Rattle.command_ends.specs.declared.ending.status.Status.{Status}
use Rattle.radio_engine.specs.Run.{IsComplete, IsFaultless, Runs}
use Rattle.radio_engine.proofs.run.run_station.Goals as goal

pub returns-clause-refused : goal.returns-clause-refused
returns-clause-refused g c =
    let effect : Status → Effect = effect_of (g.O.Outside.state c.args.outside.now) (g.O.Outside.state c.run_to_outcome.new.outside) (g.K.Sink.state c.args.out.now) (g.K.Sink.state c.run_to_outcome.new.out) in
    subst (λ (s : Status). ((asked : Asked) → AskFor (map (λ w. w.now) c.args.words.now) asked → ⊥) → Refuses (effect s) ⊎ Lacks (effect s))
    (sym c.status.ensures) c.run_to_outcome.ensures.refused

pub returns-clause-runs : goal.returns-clause-runs
returns-clause-runs g c =
    let effect : Status → Effect = effect_of (g.O.Outside.state c.args.outside.now) (g.O.Outside.state c.run_to_outcome.new.outside) (g.K.Sink.state c.args.out.now) (g.K.Sink.state c.run_to_outcome.new.out) in
    subst (λ (s : Status). (asked : Asked) → AskFor (map (λ w. w.now) c.args.words.now) asked → Lacks (effect s) ⊎ Runs asked (effect s))
    (sym c.status.ensures) c.run_to_outcome.ensures.runs

pub returns-clause-complete : goal.returns-clause-complete
returns-clause-complete g c =
    subst (λ (s : Status). (asked : Asked) → AskFor (map (λ w. w.now) c.args.words.now) asked →
    IsFaultless asked (g.O.Outside.state c.args.outside.now) (g.O.Outside.state c.run_to_outcome.new.outside) →
    (Rose (g.K.Sink.state c.args.out.now).faults (g.K.Sink.state c.run_to_outcome.new.out).faults → ⊥) → IsComplete asked s)
    (sym c.status.ensures) c.run_to_outcome.ensures.complete
