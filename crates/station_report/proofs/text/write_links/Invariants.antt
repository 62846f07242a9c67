-- What stays true in the loops of `serve::text::write_links`.
use Rattle.std.proofs.Common.{drop}
use Rattle.station_report.specs.Crewing.{line_of_work}
use Rattle.station_report.specs.Headline.{each_text}
use Rattle.station_report.proofs.EachLaws.{HasWritten}
use Rattle.station_report.proofs.text.write_links.Given as goal

-- the lines of the links so far are written
abbrev pub invariant-loop-number : goal.invariant-loop-number
invariant-loop-number g l = HasWritten (g.K.Sink.state l.fn.out) (g.K.Sink.state l.out) (each_text line_of_work 0 l.works) (each_text line_of_work l.number (drop l.number l.works))
