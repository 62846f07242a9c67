-- What the search leaves open of `by_line::ByLineTaker::take`.
use Rattle.line_files.proofs.LineTakingLaws.{took_none, took_more, took_line, took_long}
use Rattle.line_files.proofs.by_line.ByLineTaker.take.Goals as goal

pub returns-then-is_full-clause-holds : goal.returns-then-is_full-clause-holds
returns-then-is_full-clause-holds g c = λ of before text h. took_none _ _ (g.T.LineTaker.way of) (g.met.T.LineTaker.is_way of) c.args.self.now before text h c.args.bytes.now c.requires.some (c.is_full.ensures.full c.if-is_full.true)

pub returns-in-More-clause-holds : goal.returns-in-More-clause-holds
returns-in-More-clause-holds g c = λ of before text h.
    took_more _ _ (g.T.LineTaker.way of) (g.met.T.LineTaker.is_way of) c.args.self.now before text h c.args.bytes.now c.take-taken.result c.take-taken.new.self (c.take-taken.ensures.taken _) (c.is_full.ensures.room c.if-is_full.false) c.in-More.is

pub returns-in-Line-clause-holds : goal.returns-in-Line-clause-holds
returns-in-Line-clause-holds g c = λ of before text h.
    took_line _ _ (g.T.LineTaker.way of) (g.met.T.LineTaker.is_way of) c.args.self.now before text h c.args.bytes.now c.take-taken.result c.take-taken.new.self (c.take-taken.ensures.taken _)
    c.give_line.new.self c.give_line.new.line c.give_line.result c.in-Line.is c.give_line.ensures.cutter c.give_line.ensures.count (c.give_line.ensures.gives of)

pub returns-in-TooLong-clause-holds : goal.returns-in-TooLong-clause-holds
returns-in-TooLong-clause-holds g c = λ of before text h.
    took_long _ _ (g.T.LineTaker.way of) (g.met.T.LineTaker.is_way of) c.args.self.now before text h c.args.bytes.now c.take-taken.result c.take-taken.new.self (c.take-taken.ensures.taken _) (c.is_full.ensures.room c.if-is_full.false) c.in-TooLong.is
