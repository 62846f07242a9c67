-- What stays true in the loops of `station::add_radios`.
use Rattle.std.proofs.Common.{◌≡◌, ◌++◌, map, take}
use Rattle.station_values.specs.KeptStation.{radio_kept}
use Rattle.station_values.specs.Station.{kind_of_radio}
use Rattle.station_values.proofs.station.add_radios.Given as goal

abbrev pub invariant-loop-radio : goal.invariant-loop-radio
invariant-loop-radio l = l.settings ≡ record l.initial.settings { sources = l.initial.settings.sources ++ map (λ r. kind_of_radio (radio_kept r)) (take l.radio-index l.radios) }
