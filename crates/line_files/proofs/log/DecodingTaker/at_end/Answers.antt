-- What the search leaves open of `log::DecodingTaker::at_end`.
use Rattle.std.proofs.Common.{Some, None}
use Rattle.line_files.proofs.LogTakingLaws.{late_line}
use Rattle.line_files.proofs.log.DecodingTaker.at_end.Goals as goal

pub returns-in-Ok : goal.returns-in-Ok
returns-in-Ok g c = λ plan bytes text h. late_line _ c.args.self.now plan bytes text None h (c.in-Ok.ensures 0 plan 0 bytes h.decoded)

pub returns-in-Err : goal.returns-in-Err
returns-in-Err g c = λ plan bytes text h. late_line _ c.args.self.now plan bytes text (Some c.in-Err.bad.line) h (c.in-Err.ensures 0 plan 0 bytes h.decoded)
