-- What the search leaves open of `drill::serve_day`.
use Rattle.std.proofs.Common.{subst}
use Rattle.memory_links.specs.Memory.{sure_state}
use Rattle.station_values.specs.Station.{StationFields}
use Rattle.feed_workers.specs.Served.{seen, sights_of}
use Rattle.feed_workers.specs.declared.crew.Orders.{Orders}
use Rattle.station_report.proofs.DrillLaws.{drilled}
use Rattle.radio_engine.proofs.ServeLaws.{EndsAll, done_of}
use Rattle.radio_engine.proofs.drill.serve_day.Goals as goal

pub returns-in-Ok-clause-drilled : goal.returns-in-Ok-clause-drilled
returns-in-Ok-clause-drilled g c = λ seed day.
    let orders : Orders = record { limit = c.args.limit; budget = record { during = 0; after = 0 } } in
    let gear = c.args.equipment.gear in
    let reported = c.in-Ok.ensures in
    let ended = c.in-Ok.ended in
    let sights = sights_of (seen sure_state (λ log. 0)) (seen g.O.Net.Link.state g.O.Net.Link.opening) in
    let ends : EndsAll sights c.args.station.now orders gear ended = record {
      of_station = reported.journal;
      radios_served = reported.radios;
      servers_served = reported.servers;
      leap_served = reported.leap;
      links_served = reported.links;
    } in
    drilled (λ log. 0) g.O.Net.Link.state g.O.Net.Link.opening orders seed gear (done_of ended) ended.gear day
    (subst (λ (of : StationFields). EndsAll sights of orders gear ended) c.requires.station ends)
