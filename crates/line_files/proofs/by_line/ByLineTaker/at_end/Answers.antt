-- What the search leaves open of `by_line::ByLineTaker::at_end`.
use Rattle.line_files.proofs.LineTakingLaws.{tail_bad}
use Rattle.line_files.proofs.by_line.ByLineTaker.at_end.Goals as goal

pub returns-then-has_tail : goal.returns-then-has_tail
returns-then-has_tail g c = λ of bytes text h. tail_bad _ _ (g.T.LineTaker.way of) (g.met.T.LineTaker.is_way of) c.args.self.now bytes text c.has_tail.result h (c.has_tail.ensures _) c.if-has_tail.true
