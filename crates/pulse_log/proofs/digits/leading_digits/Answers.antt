-- What the proof of `digits::leading_digits` needs.
use Rattle.std.proofs.Common.{◌≡◌, ℕ, ◌*◌, ◌+◌, ◌^◌, sym, subst, arith}
use Rattle.pulse_log.specs.Words.{SpellsPrefix}
use Rattle.pulse_log.proofs.NumberLaws.{small, in_all, joined}
use Rattle.pulse_log.proofs.digits.leading_digits.Goals as goal

pub returns-then-prefix-lt8-clause-read : goal.returns-then-prefix-lt8-clause-read
returns-then-prefix-lt8-clause-read c =
    let prefix = c.digits_in_eight-prefix in
    in_all c.args.bytes.now c.in-Some.eight.now prefix.result.count prefix.result.found c.in-Some.ensures.cases.0 prefix.ensures.most prefix.ensures.read

pub joined-requires-clause-eight : goal.joined-requires-clause-eight
joined-requires-clause-eight c = small _ _ _ 8 c.digits_in_eight-prefix.ensures.read c.digits_in_eight-prefix.ensures.most

pub joined-requires-clause-back : goal.joined-requires-clause-back
joined-requires-clause-back c = small _ _ _ _ c.digits_in_eight-back.ensures.read (omega arith)

pub returns-clause-read : goal.returns-clause-read
returns-clause-read c =
    let bytes = c.args.bytes.now in
    let prefix = c.digits_in_eight-prefix in
    let back = c.digits_in_eight-back in
    let eight = c.in-Some.ensures.cases in
    let next = c.in-Some-split_first_chunk.ensures.cases in
    let most = prefix.ensures.most in
    let all : prefix.result.count ≡ 8 = omega (arith, c.if-prefix-lt8.false) in
    let first = subst (λ (n : ℕ). SpellsPrefix c.in-Some.eight.now n prefix.result.found) all prefix.ensures.read in
    let both = joined bytes c.in-Some.eight.now c.in-Some.rest.now c.in-Some-split_first_chunk.next.now prefix.result.found back.result.count back.result.found
    eight.0 eight.1 next.0 first back.ensures.read back.ensures.most (omega (arith, eight.2)) in
    subst (λ (n : ℕ). SpellsPrefix bytes c.joined.result.count n) (sym c.joined.ensures.value)
    (subst (λ (n : ℕ). SpellsPrefix bytes n (prefix.result.found * 10 ^ back.result.count + back.result.found)) (sym c.joined.ensures.count) both)
