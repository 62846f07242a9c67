-- What the proof of `dates::coded` needs.
use Rattle.std.proofs.Common.{refl, arith}
use Rattle.plan_wwvb.proofs.Seconds.{sent-whole, dated}
use Rattle.plan_wwvb.proofs.dates.coded.Goals as goal

pub returns-then-announces_leap-clause-dated : goal.returns-then-announces_leap-clause-dated
returns-then-announces_leap-clause-dated g c =
    let second = c.in-Some.second in
    let whole = sent-whole c.args.ordinal.now second c.in-Some.ensures.value in
    let within = c.in-Some.ensures.century in
    let next = c.next_month_start.ensures in
    dated second c.next_month_start.result whole within (λ some. (omega (arith, whole, next.later, next.midnight), next.century within.0 within.1))

pub returns-else-announces_leap-clause-dated : goal.returns-else-announces_leap-clause-dated
returns-else-announces_leap-clause-dated g c =
    dated c.in-Some.second 0 (sent-whole c.args.ordinal.now c.in-Some.second c.in-Some.ensures.value) c.in-Some.ensures.century (λ some. absurd (some refl))
