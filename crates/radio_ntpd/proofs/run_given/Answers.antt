-- Where no memory is found for what the command is handed, nothing was opened.
use Rattle.std.proofs.Common.{subst}
use Rattle.outside_traits.specs.States.{SinkState}
use Rattle.command_ends.specs.Endings.{status_of, status_line}
use Rattle.command_ends.specs.Reports.{Reports, status_in}
use Rattle.command_ends.specs.Writing.{Answers}
use Rattle.command_ends.specs.declared.ending.Ending.TheVariants.{NoMemory}
use Rattle.radio_engine.proofs.RunLaws.{run_unbegun}
use Rattle.radio_ntpd.proofs.run_given.Goals as goal

pub returns-in-Err-clause-run : goal.returns-in-Err-clause-run
returns-in-Err-clause-run g c = rw c.in-Ok.is (run_unbegun _ _ (record {
  unchanged = c.in-Err.ensures.0;
  written = subst (λ (s : SinkState). Answers (status_of NoMemory) (status_in c.lacking-in-Err.result.outcome.report) s (g.K.Sink.state c.lacking-in-Err.new.out) (status_line NoMemory)) c.in-Err.ensures.1 c.lacking-in-Err.ensures.answers;
}))

pub returns-in-Err-clause-reports : goal.returns-in-Err-clause-reports
returns-in-Err-clause-reports g c = subst (λ (s : SinkState). Reports c.lacking-in-Err.result.outcome.report s (g.K.Sink.state c.lacking-in-Err.new.out)) c.in-Err.ensures.1 c.lacking-in-Err.ensures.reports
