-- What the search leaves open of `gear_tests::visit_gear`.
use Rattle.station_gear.specs.Gears.{wanted_by}
use Rattle.station_gear.proofs.GearLaws.{all_visited, are_out, gear_held, gear_sizes, same_numbers}
use Rattle.config_tests.proofs.gear_tests.visit_gear.Goals as goal

pub give_back_gear-requires-after_bounds : goal.give_back_gear-requires-after_bounds
give_back_gear-requires-after_bounds g c κs within =
    let held = gear_held c.args.station.now c.open_gear-opened.result _ _ _ _ c.open_gear-opened.ensures.opened in
    are_out (wanted_by c.args.station.now) _ _ _ _ _ _ held (same_numbers _ _ _ _ _ _ _ _ c.read_logs.ensures c.read_leap.ensures c.receive_on_links.ensures c.receive_on_links-2.ensures)

pub returns : goal.returns
returns g c =
    let held = gear_held c.args.station.now c.open_gear-opened.result _ _ _ _ c.open_gear-opened.ensures.opened in
    let same = same_numbers _ _ _ _ _ _ _ _ c.read_logs.ensures c.read_leap.ensures c.receive_on_links.ensures c.receive_on_links-2.ensures in
    let sizes = gear_sizes (λ x. g.O.Log.Source.opening x) (λ x. g.O.Net.Link.opening x) (λ x. g.O.Log.Source.state x) (λ x. g.O.Net.Link.state x)
    (record { logs = c.read_logs.new.logs; leap = c.read_leap.new.leap; servers = c.receive_on_links.new.links; links = c.receive_on_links-2.new.links }) in
    (_, all_visited (wanted_by c.args.station.now) _ _ _ _ _ _ held same _ _ sizes c.give_back_gear.ensures.back)
