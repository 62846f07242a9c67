-- What the search leaves open of `phases::run_first`.
use denote.Param.Send.{sendable}
use Rattle.station_crew.proofs.phases.run_first.Goals as goal

pub join_mut-requires-after_bounds : goal.join_mut-requires-after_bounds
join_mut-requires-after_bounds g c κs within =
    let b = c.type_bounds in
    ((c.requires.radios, (c.requires.pollers, (c.requires.leap, (search sendable, search sendable, search sendable, search sendable, search sendable, search sendable)))), (c.requires.responders, (search sendable, search sendable, search sendable, search sendable, search sendable)))
