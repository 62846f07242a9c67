-- What the search leaves open of `station::make_room`.
use Rattle.station_crew.proofs.station.make_room.Goals as goal

pub returns-in-Ok-Ok-Ok-clause-room : goal.returns-in-Ok-Ok-Ok-clause-room
returns-in-Ok-Ok-Ok-clause-room g c =
    let made = c.in-Ok-Ok-Ok in
    record {
      crew = made.ensures;
      work = made.ensures';
      gates = made.ensures''.count;
      alike = made.ensures''.alike;
    }
