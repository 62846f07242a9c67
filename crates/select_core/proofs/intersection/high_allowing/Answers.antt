-- What the search leaves open of `intersection::high_allowing`.
use Rattle.std.proofs.Common.{sym, ap, ◌∙◌}
use Rattle.std.specs.Prelude.{int_lt}
use Rattle.select_core.specs.Selection.{is_held, upper}
use Rattle.select_core.proofs.SelectionLaws.{end-passed, end-taken}
use Rattle.select_core.proofs.intersection.high_allowing.Goals as goal
use Rattle.select_core.proofs.intersection.high_allowing.Goals.{then-is_held, else-is_held}

pub loop-c-preserved : goal.loop-c-preserved
loop-c-preserved c =
    let cs = c.args.candidates.now in
    let end = c.upper-end.ensures ∙ ap upper c.c-item.is in
    let test = is_held cs c.args.allowed in
    elim c.if-is_held.branch [
      | then-is_held w ↦ end-taken (λ x y. int_lt y x) test upper cs c.loop-c.c-index c.c-item.result c.upper-end.result c.loop-c.high c.if-is_held.high c.loop-c-test.true end (sym c.is_held.ensures ∙ w.if-is_held.true) c.loop-c.invariant (w.high-is ∙ w.greater-high.ensures)
      | else-is_held w ↦ w.high-is ∙ end-passed (λ x y. int_lt y x) test upper cs c.loop-c.c-index c.c-item.result c.upper-end.result c.loop-c.high c.loop-c-test.true end (sym c.is_held.ensures ∙ w.if-is_held.false) c.loop-c.invariant
    ]
