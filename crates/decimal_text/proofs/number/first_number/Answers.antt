-- What the search leaves open of `number::first_number`.
use Rattle.std.proofs.Common.{rules, ◌≡◌, ◌+◌, ◌*◌, ◌<◌, ap, subst, length, get_or, sym, ◌∙◌, arith}
use Rattle.std.specs.Char.{digit_value}
use Rattle.decimal_text.specs.Reading.{SaysSoFar}
use Rattle.decimal_text.proofs.NumberLaws.{says_more, most_said, found, begins}
use Rattle.decimal_text.proofs.number.first_number.Goals as goal

pub loop-count-preserved : goal.loop-count-preserved
loop-count-preserved c =
    let text = c.args.text.now in
    let i = c.loop-count.count in
    let digit = subst (λ b. digit_value b < 10) c.from.ensures c.in-Some.ensures.value.0 in
    let more = says_more text i c.loop-count.value c.loop-count.invariant.says c.loop-count-test.true digit in
    let is : c.from-in-loop-count.result ≡ digit_value (get_or text i 0) = c.from-in-loop-count.ensures ∙ c.in-Some.ensures.value.1 ∙ ap digit_value c.from.ensures in
    record { says = subst (λ d. SaysSoFar text (i + 1) (c.loop-count.value * 10 + d)) (sym is) more; small = search rules }

pub returns-in_default-clause-number : goal.returns-in_default-clause-number
returns-in_default-clause-number c =
    let within = c.loop-count-test.true in
    begins c.number_of.result c.args.text.now c.loop-count.count c.loop-count.value c.args.most (omega arith) c.loop-count.invariant.small
    (λ _ digit. c.in_default.ensures.value (subst (λ b. digit_value b < 10) (sym c.from.ensures) digit))
    c.number_of.ensures.number

pub returns-in_default-clause-every : goal.returns-in_default-clause-every
returns-in_default-clause-every c = λ n rest most ends e.
    let bound = c.requires in
    let within = c.loop-count-test.true in
    found c.number_of.result c.args.text.now n c.loop-count.count c.loop-count.value rest ends (omega arith) e c.loop-count.invariant.says (omega arith)
    (λ _ digit. c.in_default.ensures.value (subst (λ b. digit_value b < 10) (sym c.from.ensures) digit))
    c.number_of.ensures.number c.number_of.ensures.none

pub returns-then-value-most-clause-every : goal.returns-then-value-most-clause-every
returns-then-value-most-clause-every c = λ n rest most ends e.
    let text = c.args.text.now in
    let i = c.loop-count.count in
    let bound = c.requires in
    let within = c.loop-count-test.true in
    let digit = subst (λ b. digit_value b < 10) c.from.ensures c.in-Some.ensures.value.0 in
    let more = says_more text i c.loop-count.value c.loop-count.invariant.says c.loop-count-test.true digit in
    let is : c.from-in-loop-count.result ≡ digit_value (get_or text i 0) = c.from-in-loop-count.ensures ∙ c.in-Some.ensures.value.1 ∙ ap digit_value c.from.ensures in
    let all = most_said text n (i + 1) (c.loop-count.value * 10 + digit_value (get_or text i 0)) rest ends (omega arith) e more (omega arith) in
    let above = c.if-value-most.true in
    absurd (omega arith)

pub returns-clause-number : goal.returns-clause-number
returns-clause-number c =
    begins c.number_of-2.result c.args.text.now (length c.args.text.now) c.loop-count.value c.args.most (omega arith) c.loop-count.invariant.small
    (λ within _. omega arith)
    c.number_of-2.ensures.number

pub returns-clause-every : goal.returns-clause-every
returns-clause-every c = λ n rest most ends e.
    let bound = c.requires in
    let text = c.args.text.now in
    let past = c.loop-count-test.false in
    let within = c.loop-count.auto.count-end in
    let end : c.loop-count.count ≡ length text = omega arith in
    let says = subst (λ k. SaysSoFar text k c.loop-count.value) end c.loop-count.invariant.says in
    found c.number_of-2.result text n (length text) c.loop-count.value rest ends (omega arith) e says (omega arith)
    (λ within _. omega arith)
    c.number_of-2.ensures.number c.number_of-2.ensures.none
