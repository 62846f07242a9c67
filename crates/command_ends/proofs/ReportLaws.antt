-- What the last line reports, where other texts were written before it.
use Rattle.std.proofs.Common.{ℕ, List, [], ◌++◌, append_assoc, sym, subst}
use Rattle.outside_traits.specs.States.{SinkState}
use Rattle.command_ends.specs.Endings.{status_line}
use Rattle.command_ends.specs.Reports.{EndsInLine, Reports}
use Rattle.command_ends.specs.StationFile.{station_line}
use Rattle.command_ends.specs.declared.report.Report.{Report}
use Rattle.command_ends.specs.declared.report.Report.TheVariants.{Ended, Refused, Unwritten}
use Rattle.outside_traits.specs.Writing.{WritesAll, WritesPrefix}
use Rattle.outside_traits.proofs.WritingLaws.{writes_prefix, writes_more}

-- a line alone
pub line_alone : (line : List ℕ) (a b : SinkState) → WritesAll a b line → EndsInLine line a b
line_alone line a b h = ([], h)

-- a line after a text
line_after : (line : List ℕ) (a b c : SinkState) (x : List ℕ) → WritesAll a b x → EndsInLine line b c → EndsInLine line a c
line_after line a b c x h k = (x ++ k.0, subst (λ (t : List ℕ). WritesAll a c t) (sym (append_assoc x k.0 line)) (writes_more a b c x (k.0 ++ line) h k.1))

-- a write failed
pub reports_none : (a b : SinkState) (x : List ℕ) → WritesPrefix a b x → Reports Unwritten a b
reports_none a b x h = (x, h)

pub reports_more : (report : Report) (a b c : SinkState) (x : List ℕ) → WritesAll a b x → Reports report b c → Reports report a c
reports_more (Ended ending) a b c x h k = line_after (status_line ending) a b c x h k
reports_more (Refused fault) a b c x h k = line_after (station_line fault) a b c x h k
reports_more Unwritten a b c x h k = (x ++ k.0, writes_prefix a b c x k.0 h k.1)
