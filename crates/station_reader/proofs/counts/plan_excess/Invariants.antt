-- What stays true in the loops of `counts::plan_excess`.
use Rattle.std.proofs.Common.{◌≡◌, drop, find, map, nat_lt}
use Rattle.station_reader.specs.Faults.{plan_radios}
use Rattle.station_values.specs.KeptStation.{radio_kept}
use Rattle.station_reader.proofs.counts.plan_excess.Given as goal

abbrev pub invariant-loop-plan : goal.invariant-loop-plan
invariant-loop-plan l =
    find (λ c. nat_lt c.most c.count) (map (plan_radios (map radio_kept l.radios)) (drop l.plan-index l.some))
    ≡ find (λ c. nat_lt c.most c.count) (map (plan_radios (map radio_kept l.radios)) l.some)
