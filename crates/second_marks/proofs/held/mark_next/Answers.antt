-- What the proof of `held::mark_next` needs.
use Rattle.std.proofs.Common.{sym}
use Rattle.second_marks.proofs.MarkLaws.{held_on, mark_joined}
use Rattle.second_marks.proofs.held.mark_next.Goals as goal

pub returns-clause-held : goal.returns-clause-held
returns-clause-held g c = λ reductions h. held_on g.C.CodePlan.code c.args.held.now _ reductions c.args.reduction c.held_after.ensures h

pub returns-clause-marks : goal.returns-clause-marks
returns-clause-marks g c = λ reductions h.
    mark_joined g.C.CodePlan.code c.args.held.now _ reductions c.args.reduction (sym c.if-not-has_parts.ensures) c.mark_before-mark.ensures h
