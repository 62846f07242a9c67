-- What stays true in the loops of `station::ring_of`.
use Rattle.std.proofs.Common.{◌≡◌, map, take}
use Rattle.packet_auth.specs.Keys.{keys_of}
use Rattle.station_values.specs.KeptStation.{key_kept}
use Rattle.station_values.proofs.station.ring_of.Given as goal

abbrev pub invariant-loop-key : goal.invariant-loop-key
invariant-loop-key l = keys_of l.ring ≡ take l.key-index (map key_kept l.keys)
