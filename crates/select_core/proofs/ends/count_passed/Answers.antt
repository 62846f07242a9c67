-- What the search leaves open of `ends::count_passed`.
use Rattle.std.proofs.Common.{◌≡◌, ◌≤◌, ◌<◌, ◌∙◌, ℤ, false, length, sym, arith, rules}
use Rattle.select_core.proofs.EdgeLaws.{passed-is}
use Rattle.select_core.specs.Ends.{is_sooner, on_the_way}
use Rattle.std.proofs.Common.{subst}
use Rattle.select_core.proofs.PointLaws.{default-free}
use Rattle.select_core.proofs.EdgeLaws.{length-way}
use Rattle.select_core.proofs.ends.count_passed.Goals as goal

pub returns-then-not-is_sooner-clause-value : goal.returns-then-not-is_sooner-clause-value
returns-then-not-is_sooner-clause-value c =
    let from = c.args.from in
    let points = c.args.points.now in
    let passed = c.loop-passed.passed in
    let below : passed < length points = omega (arith, c.len-passed-end.ensures.value) in
    let within : passed ≤ length points = omega arith in
    let not_sooner : c.is_sooner.result ≡ false = search rules in
    passed-is from points passed c.args.at c.len-passed-end.ensures.order within c.loop-passed.invariant
    (λ d less. subst (λ (x : ℤ). is_sooner from x c.args.at ≡ false) (c.come_to.ensures ∙ default-free (on_the_way from points) passed c.come_to.result d (omega (arith, length-way from points))) (sym c.is_sooner.ensures ∙ not_sooner))

pub returns-clause-value : goal.returns-clause-value
returns-clause-value c =
    let points = c.args.points.now in
    let within : c.len.result ≤ length points = omega (arith, c.len.ensures.value) in
    let all : c.len.result ≤ c.loop-passed.passed = omega (arith, c.len.ensures.value, c.len-passed-end.ensures.value) in
    passed-is c.args.from points c.len.result c.args.at c.len.ensures.order within (λ k d less. c.loop-passed.invariant k d (omega arith)) (λ d less. absurd (omega (arith, c.len.ensures.value)))
