-- What the search leaves open of `run::run_to_outcome`.
use Rattle.std.proofs.Common.{◌⊎◌, refl, subst}
use Rattle.command_words.specs.Commands.{Asked}
use Rattle.command_ends.specs.Effects.{effect_of}
use Rattle.command_ends.specs.Reports.{status_in}
use Rattle.command_ends.specs.Unopened.{Lacks}
use Rattle.radio_engine.specs.Run.{Runs}
use Rattle.radio_engine.proofs.RunLaws.{lacks_done, runs_done}
use Rattle.radio_engine.proofs.run.run_to_outcome.Goals as goal

pub returns-in-Ok-clause-runs : goal.returns-in-Ok-clause-runs
returns-in-Ok-clause-runs g c = λ asked h.
    let effect = effect_of (g.O.Outside.state c.args.outside.now) (g.O.Outside.state c.run_command.new.outside) (g.K.Sink.state c.args.out.now) (g.K.Sink.state c.run_command.new.out) (status_in c.run_command.result.report) in
    subst (λ (a : Asked). Lacks effect ⊎ Runs a effect) (c.in-Ok.ensures.only asked h) c.run_command.ensures.runs

pub returns-in-Ok-clause-complete : goal.returns-in-Ok-clause-complete
returns-in-Ok-clause-complete g c = λ asked h good no_write.
    runs_done asked _ good no_write (returns-in-Ok-clause-runs g c asked h)

pub returns-in-Err-Usage-clause-runs : goal.returns-in-Err-Usage-clause-runs
returns-in-Err-Usage-clause-runs g c = λ asked h. absurd (c.in-Err-Usage.ensures.usage c.in-Err-Usage.fault c.in-Err-Usage.field-0-is asked h)

pub returns-in-Err-Usage-clause-complete : goal.returns-in-Err-Usage-clause-complete
returns-in-Err-Usage-clause-complete g c = λ asked h good no_write. absurd (c.in-Err-Usage.ensures.usage c.in-Err-Usage.fault c.in-Err-Usage.field-0-is asked h)

pub returns-clause-complete : goal.returns-clause-complete
returns-clause-complete g c = λ asked h good no_write. lacks_done asked
    (effect_of (g.O.Outside.state c.args.outside.now) (g.O.Outside.state c.args.outside.now) (g.K.Sink.state c.args.out.now) (g.K.Sink.state c.end_without_memory.new.out) (status_in c.end_without_memory.result.report))
    good no_write (record { unchanged = refl; written = c.end_without_memory.ensures.answers })
