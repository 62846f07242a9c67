-- What the search leaves open of `number::number_of`.
use Rattle.std.proofs.Common.{◌≡◌, subst, refl, take, decimal, arith}
use Rattle.decimal_text.proofs.NumberLaws.{is_text, not_empty, not_padded}
use Rattle.decimal_text.proofs.number.number_of.Goals as goal
use Rattle.decimal_text.proofs.number.number_of.Goals.{else-count-gt1-via-then-count-gt1+else-text-eq-ZERO, else-count-gt1-via-else-count-gt1}

pub returns-then-count-eq0-clause-none : goal.returns-then-count-eq0-clause-none
returns-then-count-eq0-clause-none c = λ e.
    not_empty c.args.text.now c.args.value c.requires.small (subst (λ k. take k c.args.text.now ≡ decimal c.args.value) c.if-count-eq0.true e)

pub returns-then-text-eq-ZERO-clause-none : goal.returns-then-text-eq-ZERO-clause-none
returns-then-text-eq-ZERO-clause-none c = λ e.
    not_padded c.args.text.now c.args.count c.args.value c.requires.within c.requires.small c.if-count-gt1.true c.if-text-eq-ZERO.true e

pub returns-clause-number : goal.returns-clause-number
returns-clause-number c = (
  refl,
  refl,
  is_text c.args.text.now c.args.count c.args.value c.requires.digits c.requires.within c.requires.small (let some = c.if-count-eq0.false in omega arith) (λ nought.
      elim c.else-count-gt1.branch [
        | else-count-gt1-via-then-count-gt1+else-text-eq-ZERO w ↦ absurd (w.if-text-eq-ZERO.false nought)
        | else-count-gt1-via-else-count-gt1 w ↦ (let some = c.if-count-eq0.false in let few = w.if-count-gt1.false in omega arith)
      ]),
)
