-- What the proof of `whole::leading_number` needs.
use Rattle.std.proofs.Common.{arith}
use Rattle.pulse_log.proofs.NumberLaws.{small, is_decimal, is_some}
use Rattle.pulse_log.proofs.whole.leading_number.Goals as goal

pub returns-clause-text : goal.returns-clause-text
returns-clause-text c =
    let number = c.in_ok-number.number in
    let below = small c.args.bytes.now number.count number.found 15 c.in_ok-number.ensures.read c.in_ok-number.ensures.most in
    is_decimal c.args.bytes.now number.count number.found c.in_ok-number.ensures.read c.if-number-eq0.false (omega arith) c.if-bytes-eq48.false

pub returns-clause-some : goal.returns-clause-some
returns-clause-some c = is_some c.args.bytes.now c.in_ok-number.number.count c.in_ok-number.number.found c.if-number-eq0.false c.if-bytes-eq48.false (returns-clause-text c)

pub returns-clause-short : goal.returns-clause-short
returns-clause-short c = λ few. small c.args.bytes.now c.in_ok-number.number.count c.in_ok-number.number.found 6 c.in_ok-number.ensures.read few
