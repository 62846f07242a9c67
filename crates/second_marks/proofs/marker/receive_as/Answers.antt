-- What the proof of `marker::receive_as` needs.
use Rattle.second_marks.proofs.MarkLaws.{held_as, marks_as}
use Rattle.second_marks.proofs.marker.receive_as.Goals as goal

pub returns-clause-heard : goal.returns-clause-heard
returns-clause-heard g c = λ plan reductions is h. record {
  plan_is = h.plan_is;
  held = held_as g.C.CodePlan.code g.C.CodePlan.which plan g.met.C.Listed.listed is c.args.marker.now.held _ reductions c.args.reduction (c.mark_next.ensures.held reductions) h.held;
}

pub returns-clause-marks : goal.returns-clause-marks
returns-clause-marks g c = λ plan reductions is h.
    marks_as g.C.CodePlan.code g.C.CodePlan.which plan g.met.C.Listed.listed is c.args.marker.now.held _ reductions c.args.reduction (c.mark_next.ensures.marks reductions) h.held
