-- What stays true in the loop of `opening::open_logs`.
use Rattle.std.proofs.Common.{◌≡◌, ◌≤◌, ◌-◌, None, length, map}
use Rattle.std.specs.Prelude.{vec_capacity, vec_len}
use Rattle.station_gear.specs.Gears.{logs_needed, log_states}
use Rattle.station_gear.specs.Opens.{HoldsOpenings}
use Rattle.station_gear.proofs.opening.open_logs.Given as goal

abbrev pub invariant-loop-radio : goal.invariant-loop-radio
invariant-loop-radio g l = record {
  openings : HoldsOpenings (logs_needed l.station) (map g.O.Log.Source.opening l.logs.items) (log_states g.O.Log.Source.state l.logs.items)
      (g.O.Outside.state l.fn.outside) (g.O.Outside.state l.outside) None;
  room : length l.station.radios ≤ vec_capacity l.logs;
  gate : g.O.Outside.gate_out l.outside ≡ g.O.Outside.gate_out l.fn.outside;
}

abbrev pub decreases-loop-radio : goal.decreases-loop-radio
decreases-loop-radio g l = length l.station.radios - vec_len l.logs
