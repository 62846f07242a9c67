-- What the hub's name stands for in `station::serve_station`.
use Rattle.station_values.specs.Station.{settings_of}
use Rattle.station_crew.proofs.station.serve_station.Given as goal

abbrev pub ghosts-serve_named : goal.ghosts-serve_named
ghosts-serve_named g a = record { table = a.room.parts.cell.table; settings = settings_of a.station.now; limit = a.orders.limit }
