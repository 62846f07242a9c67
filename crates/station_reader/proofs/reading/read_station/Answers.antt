-- What the search leaves open of `reading::read_station`.
use Rattle.toml.specs.View.{table_view}
use Rattle.station_reader.specs.Faults.{faults_of}
use Rattle.station_reader.proofs.Orders.{refuses}
use Rattle.station_reader.proofs.reading.read_station.Goals as goal

pub returns-in-Ok-fault-clause-refused : goal.returns-in-Ok-fault-clause-refused
returns-in-Ok-fault-clause-refused c =
    let m = table_view c.in-Ok.table in
    refuses c.args.text.now m c.in-Ok-fault.fault (record { utf8 = c.in-Ok.ensures.ok.0; parsed = c.in-Ok.ensures.ok.1 })
    (c.in-Ok-fault.ensures (faults_of m) c.in-Err-read_table.ensures.bad)
