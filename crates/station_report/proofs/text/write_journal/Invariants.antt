-- What stays true in the loops of `serve::text::write_journal`.
use Rattle.std.proofs.Common.{drop}
use Rattle.std.specs.List.{flat_map}
use Rattle.verdict_journal.specs.Journals.{numbered_of}
use Rattle.station_report.proofs.EachLaws.{HasWritten}
use Rattle.station_report.proofs.JournalTextLaws.{line_of}
use Rattle.station_report.proofs.text.write_journal.Given as goal

-- the lines of the entries so far are written
abbrev pub invariant-loop-place : goal.invariant-loop-place
invariant-loop-place g l =
    let lines = numbered_of l.journal.settings l.journal.entries in
    HasWritten (g.K.Sink.state l.fn.out) (g.K.Sink.state l.out) (flat_map line_of lines) (flat_map line_of (drop l.place lines))
