-- What the search leaves open of `gear_tests::visit`.
use Rattle.std.proofs.Common.{refl}
use Rattle.outside_traits.specs.Openings.{log_visit}
use Rattle.outside_traits.proofs.OpeningLaws.{opened_once, out_after}
use Rattle.station_gear.specs.Gears.{wanted_by}
use Rattle.station_gear.proofs.GearLaws.{visited_before}
use Rattle.config_tests.proofs.gear_tests.visit.Goals as goal

pub give_back_log-requires : goal.give_back_log-requires
give_back_log-requires g c = out_after _ _ _ _ _ _ c.in-Ok.ensures.opened c.in-Ok.ensures.number refl

pub returns : goal.returns
returns g c =
    let own = log_visit c.args.name.now (g.O.Log.Source.state c.in-Ok.own) (g.O.Log.Source.state c.in-Ok.own) in
    let first = opened_once _ _ _ own _ _ c.in-Ok.ensures.opened c.in-Ok.ensures.number c.in-Ok.ensures.cause.kept refl c.give_back_log.ensures.back in
    (_, visited_before (wanted_by c.args.station.now) _ _ _ own _ _ first c.visit_gear.ensures.1)
