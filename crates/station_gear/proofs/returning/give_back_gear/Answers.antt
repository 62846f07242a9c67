-- What the search leaves open of `returning::give_back_gear`.
use Rattle.std.proofs.Common.{◌∙◌, ◌++◌, map, sym}
use Rattle.std.specs.Option.{option_to_list}
use Rattle.std.proofs.lemmas.List.{length-map}
use Rattle.outside_traits.specs.Openings.State.{OfLog, OfLink}
use Rattle.station_gear.specs.Gears.{log_states, link_states}
use Rattle.station_gear.proofs.BackLaws.{AreOut-prefix, AreOut-rest, GivesAllBack-append}
use Rattle.station_gear.proofs.returning.give_back_gear.Goals as goal

pub give_back_logs-requires-after_bounds : goal.give_back_logs-requires-after_bounds
give_back_logs-requires-after_bounds g c κs within =
    let logs = map g.O.Log.Source.opening c.args.gear.logs.items in
    let leap = map g.O.Log.Source.opening (option_to_list c.args.gear.leap) in
    let servers = map g.O.Net.Link.opening c.args.gear.servers.items in
    let links = map g.O.Net.Link.opening c.args.gear.links.items in
    AreOut-prefix (g.O.Outside.state c.args.outside.now).openings logs (leap ++ (servers ++ links)) c.requires

pub give_back_leap-requires-after_bounds : goal.give_back_leap-requires-after_bounds
give_back_leap-requires-after_bounds g c κs within =
    let logs = map g.O.Log.Source.opening c.args.gear.logs.items in
    let leap = map g.O.Log.Source.opening (option_to_list c.args.gear.leap) in
    let servers = map g.O.Net.Link.opening c.args.gear.servers.items in
    let links = map g.O.Net.Link.opening c.args.gear.links.items in
    let size = length-map c.args.gear.logs.items (λ x. OfLog (g.O.Log.Source.state x)) ∙ sym (length-map c.args.gear.logs.items g.O.Log.Source.opening) in
    let mid = g.O.Outside.state c.give_back_logs.new.outside in
    AreOut-prefix mid.openings leap (servers ++ links)
    (AreOut-rest (g.O.Outside.state c.args.outside.now) mid logs (leap ++ (servers ++ links)) (log_states g.O.Log.Source.state c.args.gear.logs.items) c.requires size c.give_back_logs.ensures.back)

pub give_back_links-requires-after_bounds : goal.give_back_links-requires-after_bounds
give_back_links-requires-after_bounds g c κs within =
    let logs = map g.O.Log.Source.opening c.args.gear.logs.items in
    let leap = map g.O.Log.Source.opening (option_to_list c.args.gear.leap) in
    let servers = map g.O.Net.Link.opening c.args.gear.servers.items in
    let links = map g.O.Net.Link.opening c.args.gear.links.items in
    let size = length-map c.args.gear.logs.items (λ x. OfLog (g.O.Log.Source.state x)) ∙ sym (length-map c.args.gear.logs.items g.O.Log.Source.opening) in
    let next = length-map (option_to_list c.args.gear.leap) (λ x. OfLog (g.O.Log.Source.state x)) ∙ sym (length-map (option_to_list c.args.gear.leap) g.O.Log.Source.opening) in
    let mid = g.O.Outside.state c.give_back_logs.new.outside in
    let listed = g.O.Outside.state c.give_back_leap.new.outside in
    AreOut-prefix listed.openings servers links
    (AreOut-rest mid listed leap (servers ++ links) (log_states g.O.Log.Source.state (option_to_list c.args.gear.leap))
    (AreOut-rest (g.O.Outside.state c.args.outside.now) mid logs (leap ++ (servers ++ links)) (log_states g.O.Log.Source.state c.args.gear.logs.items) c.requires size c.give_back_logs.ensures.back)
    next c.give_back_leap.ensures.back)

pub give_back_links-requires-2-after_bounds : goal.give_back_links-requires-2-after_bounds
give_back_links-requires-2-after_bounds g c κs within =
    let logs = map g.O.Log.Source.opening c.args.gear.logs.items in
    let leap = map g.O.Log.Source.opening (option_to_list c.args.gear.leap) in
    let servers = map g.O.Net.Link.opening c.args.gear.servers.items in
    let links = map g.O.Net.Link.opening c.args.gear.links.items in
    let size = length-map c.args.gear.logs.items (λ x. OfLog (g.O.Log.Source.state x)) ∙ sym (length-map c.args.gear.logs.items g.O.Log.Source.opening) in
    let next = length-map (option_to_list c.args.gear.leap) (λ x. OfLog (g.O.Log.Source.state x)) ∙ sym (length-map (option_to_list c.args.gear.leap) g.O.Log.Source.opening) in
    let size_too = length-map c.args.gear.servers.items (λ x. OfLink (g.O.Net.Link.state x)) ∙ sym (length-map c.args.gear.servers.items g.O.Net.Link.opening) in
    let mid = g.O.Outside.state c.give_back_logs.new.outside in
    let listed = g.O.Outside.state c.give_back_leap.new.outside in
    AreOut-rest listed (g.O.Outside.state c.give_back_links.new.outside) servers links (link_states g.O.Net.Link.state c.args.gear.servers.items)
    (AreOut-rest mid listed leap (servers ++ links) (log_states g.O.Log.Source.state (option_to_list c.args.gear.leap))
    (AreOut-rest (g.O.Outside.state c.args.outside.now) mid logs (leap ++ (servers ++ links)) (log_states g.O.Log.Source.state c.args.gear.logs.items) c.requires size c.give_back_logs.ensures.back)
    next c.give_back_leap.ensures.back)
    size_too c.give_back_links.ensures.back

pub returns-clause-back : goal.returns-clause-back
returns-clause-back g c =
    let size = length-map c.args.gear.logs.items (λ x. OfLog (g.O.Log.Source.state x)) ∙ sym (length-map c.args.gear.logs.items g.O.Log.Source.opening) in
    let next = length-map (option_to_list c.args.gear.leap) (λ x. OfLog (g.O.Log.Source.state x)) ∙ sym (length-map (option_to_list c.args.gear.leap) g.O.Log.Source.opening) in
    let size_too = length-map c.args.gear.servers.items (λ x. OfLink (g.O.Net.Link.state x)) ∙ sym (length-map c.args.gear.servers.items g.O.Net.Link.opening) in
    GivesAllBack-append _ (g.O.Outside.state c.give_back_logs.new.outside) _ _ _ _ _ size c.give_back_logs.ensures.back
    (GivesAllBack-append _ (g.O.Outside.state c.give_back_leap.new.outside) _ _ _ _ _ next c.give_back_leap.ensures.back
    (GivesAllBack-append _ (g.O.Outside.state c.give_back_links.new.outside) _ _ _ _ _ size_too c.give_back_links.ensures.back c.give_back_links-2.ensures.back))
