-- What the search leaves open of `intersection::low_allowing`.
use Rattle.std.proofs.Common.{sym, ap, ◌∙◌}
use Rattle.std.specs.Prelude.{int_lt}
use Rattle.select_core.specs.Selection.{is_held, lower}
use Rattle.select_core.proofs.SelectionLaws.{end-passed, end-taken}
use Rattle.select_core.proofs.intersection.low_allowing.Goals as goal
use Rattle.select_core.proofs.intersection.low_allowing.Goals.{then-is_held, else-is_held}

pub loop-c-preserved : goal.loop-c-preserved
loop-c-preserved c =
    let cs = c.args.candidates.now in
    let end = c.lower-end.ensures ∙ ap lower c.c-item.is in
    let test = is_held cs c.args.allowed in
    elim c.if-is_held.branch [
      | then-is_held w ↦ end-taken int_lt test lower cs c.loop-c.c-index c.c-item.result c.lower-end.result c.loop-c.low c.if-is_held.low c.loop-c-test.true end (sym c.is_held.ensures ∙ w.if-is_held.true) c.loop-c.invariant (w.low-is ∙ w.lesser-low.ensures)
      | else-is_held w ↦ w.low-is ∙ end-passed int_lt test lower cs c.loop-c.c-index c.c-item.result c.lower-end.result c.loop-c.low c.loop-c-test.true end (sym c.is_held.ensures ∙ w.if-is_held.false) c.loop-c.invariant
    ]
