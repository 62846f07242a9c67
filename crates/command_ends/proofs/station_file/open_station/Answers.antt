-- What the search leaves open of `station_file::open_station`.
use Rattle.outside_traits.specs.Openings.{log_visit}
use Rattle.outside_traits.proofs.OpeningLaws.{opened_once, out_after}
use Rattle.command_ends.proofs.station_file.open_station.Goals as goal

pub give_back_log-requires : goal.give_back_log-requires
give_back_log-requires g c = out_after _ _ _ _ _ _ c.in-Ok.ensures.opened c.in-Ok.ensures.number c.read_whole-end.ensures.number

pub returns-clause-tried : goal.returns-clause-tried
returns-clause-tried g c =
    let was = g.O.Log.Source.state c.in-Ok.file in
    let is = g.O.Log.Source.state c.read_whole-end.new.file in
    (record {
      opened = was;
      back = is;
      opens = opened_once _ _ _ (log_visit c.args.name.now was is) _ _ c.in-Ok.ensures.opened c.in-Ok.ensures.number c.in-Ok.ensures.cause.kept c.read_whole-end.ensures.number c.give_back_log.ensures.back;
      read = c.read_whole-end.ensures.ends;
    })
