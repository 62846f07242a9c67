-- What the search leaves open of `counts::plan_excess`.
use Rattle.std.proofs.Common.{◌≡◌, ◌∙◌, ℕ, true, false, Some, ap, arith, codes, map, nat_lt, sym}
use Rattle.std.proofs.lemmas.Bool.Decides.{nat_tests}
use Rattle.station_reader.specs.Faults.{Count, plan_radios}
use Rattle.station_values.specs.KeptStation.{radio_kept}
use Rattle.station_reader.proofs.Firsts.{find-here, find-later}
use Rattle.station_reader.proofs.counts.plan_excess.Goals as goal

pub returns-then-count-gt-OF_A_PLAN : goal.returns-then-count-gt-OF_A_PLAN
returns-then-count-gt-OF_A_PLAN c =
    let radios = map radio_kept c.args.radios.now in
    let counted : ℕ → Count = λ n. record { key = codes "radio"; count = n; most = 4 } in
    let over : nat_lt 4 c.plan_count-count.result ≡ true = grind (arith, nat_tests) in
    ap (λ n. Some (counted n)) c.plan_count-count.ensures
    ∙ sym (find-here (plan_radios radios) (λ k. nat_lt k.most k.count) c.args.some.now c.loop-plan.plan-index _ c.loop-plan-test.true (ap (nat_lt 4) (sym c.plan_count-count.ensures) ∙ over))
    ∙ c.loop-plan.invariant

pub loop-plan-preserved : goal.loop-plan-preserved
loop-plan-preserved c =
    let radios = map radio_kept c.args.radios.now in
    let within : nat_lt 4 c.plan_count-count.result ≡ false = grind (arith, nat_tests) in
    sym (find-later (plan_radios radios) (λ k. nat_lt k.most k.count) c.args.some.now c.loop-plan.plan-index _ c.loop-plan-test.true (ap (nat_lt 4) (sym c.plan_count-count.ensures) ∙ within))
    ∙ c.loop-plan.invariant
