-- What the search leaves open of `fields::value_of`.
use Rattle.std.proofs.Common.{◌+◌, ap, ◌∙◌, arith}
use Rattle.std.specs.Str.Parse.{digits_value}
use Rattle.std.proofs.lemmas.List.{take_all}
use Rattle.journal_entry.proofs.DigitLaws.{digit_of, all_say, prefix_says, says_more}
use Rattle.journal_entry.proofs.fields.value_of.Goals as goal

pub returns-in_default-clause-value : goal.returns-in_default-clause-value
returns-in_default-clause-value c = λ n small e.
    absurd (c.in_default.ensures.value (digit_of c.args.digits.now c.loop-byte.byte-index n c.from.result small e c.loop-byte-test.true c.from.ensures))

pub returns-then-value-ge-TOO_GREAT-clause-value : goal.returns-then-value-ge-TOO_GREAT-clause-value
returns-then-value-ge-TOO_GREAT-clause-value c = λ n small e.
    let ds = c.args.digits.now in
    let i = c.loop-byte.byte-index in
    let more = says_more ds i c.loop-byte.value c.from.result c.from-in-loop-byte.result c.loop-byte-test.true c.loop-byte.invariant.value c.from.ensures (c.from-in-loop-byte.ensures ∙ c.in-Some.ensures.value.1) in
    let most = prefix_says ds (i + 1) n small e in
    absurd (omega arith)

pub loop-byte-preserved : goal.loop-byte-preserved
loop-byte-preserved c =
    let ds = c.args.digits.now in
    let i = c.loop-byte.byte-index in
    let more = says_more ds i c.loop-byte.value c.from.result c.from-in-loop-byte.result c.loop-byte-test.true c.loop-byte.invariant.value c.from.ensures (c.from-in-loop-byte.ensures ∙ c.in-Some.ensures.value.1) in
    record { value = more; small = omega arith }

pub returns-clause-value : goal.returns-clause-value
returns-clause-value c = λ n small e.
    let ds = c.args.digits.now in
    let all = take_all c.loop-byte.byte-index ds (omega arith) in
    c.loop-byte.invariant.value ∙ ap (digits_value 10) all ∙ all_say ds n small e
