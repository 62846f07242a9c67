-- What stays true in the loops of `nets::deny_list`.
use Rattle.std.proofs.Common.{◌≡◌, map, take}
use Rattle.kiss_gate.specs.Nets.{nets_of}
use Rattle.station_values.specs.KeptStation.{net_kept}
use Rattle.station_values.proofs.station.deny_list.Given as goal

abbrev pub invariant-loop-net : goal.invariant-loop-net
invariant-loop-net l = nets_of l.list ≡ map net_kept (take l.net-index l.nets)
