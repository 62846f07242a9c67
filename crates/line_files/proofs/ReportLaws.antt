-- What the last line reports, where a file was read before it.
use Rattle.std.proofs.Common.{ℕ, ◌++◌}
use Rattle.outside_traits.specs.States.{SourceState, SinkState}
use Rattle.command_ends.specs.Reports.{Reports}
use Rattle.line_files.specs.Taking.{EndsItself, EndsStopped, Holds, Says, flow_of}
use Rattle.command_ends.specs.declared.report.Report.{Report}
use Rattle.command_ends.specs.declared.report.Report.TheVariants.{Unwritten}
use Rattle.file_reader.specs.declared.log_end.LogEnd.{LogEnd}
use Rattle.outside_traits.proofs.WritingLaws.{writes_prefix}
use Rattle.command_ends.proofs.ReportLaws.{reports_more}

-- the reading of a file ended by itself, and then the command did
pub reports_ended : (holds : Holds) (limit : ℕ) (file file_now : SourceState) (a b c : SinkState) (end : LogEnd) (report : Report) →
    EndsItself holds limit (flow_of file file_now a b) end → Reports report b c → Reports report a c
reports_ended holds limit file file_now a b c end report h k = reports_more report a b c h.text h.written k

-- or it was stopped by a write that failed
pub reports_stopped : (says : Says) (limit : ℕ) (file file_now : SourceState) (a b : SinkState) → EndsStopped says limit (flow_of file file_now a b) → Reports Unwritten a b
reports_stopped says limit file file_now a b h = (h.stops.text ++ h.stops.more, writes_prefix a h.stops.between b h.stops.text h.stops.more h.stops.whole h.stops.failed)
