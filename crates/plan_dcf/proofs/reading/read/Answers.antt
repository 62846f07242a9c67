-- What the proof of `reading::read` needs.
use Rattle.std.proofs.Common.{refl}
use Rattle.plan_dcf.proofs.reading.read.Goals as goal

pub returns-clause-least : goal.returns-clause-least
returns-clause-least c = c.judge.ensures.least c.args.segment.now refl
