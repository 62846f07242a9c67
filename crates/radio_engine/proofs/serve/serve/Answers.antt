-- What the search leaves open of `serve::serve`: what is out may be given back, and what has become of the station.
use Rattle.std.proofs.Common.{◌≡◌, ◌∙◌, ap, length, refl, rules, subst, sym}
use Rattle.std.specs.Prelude.{Some, vec_len}
use Rattle.feed_workers.specs.Served.{seen, sights_of}
use Rattle.command_ends.specs.declared.ending.Ending.TheVariants.{NotOpened}
use Rattle.station_gear.specs.Gears.{numbers_of}
use Rattle.station_gear.proofs.GearLaws.{are_out}
use Rattle.station_report.specs.Crewing.{CannotServe}
use Rattle.station_report.proofs.ServingLaws.{cannot_open, never_opened}
use Rattle.radio_engine.proofs.ServeLaws.{EndsAll, are_still_out, lacked_memory, numbers_kept, was_served}
use Rattle.radio_engine.proofs.serve.serve.Goals as goal

pub returns-in_default-clause-tried : goal.returns-in_default-clause-tried
returns-in_default-clause-tried g c = never_opened _ _

pub give_back_gear-requires-after_bounds : goal.give_back_gear-requires-after_bounds
give_back_gear-requires-after_bounds g c κs within = are_out _ _ _ _ _ _ (Some c.in-Err.ensures.opened.what) c.in-Err.ensures.opened.openings refl

pub returns-in-Err-clause-tried : goal.returns-in-Err-clause-tried
returns-in-Err-clause-tried g c =
    let gear = c.open_gear.new.gear in
    let of_logs : vec_len gear.logs ≡ length gear.logs.items = search rules in
    let of_servers : vec_len gear.servers ≡ length gear.servers.items = search rules in
    let of_links : vec_len gear.links ≡ length gear.links.items = search rules in
    subst (λ what. CannotServe c.args.station.now (g.O.Outside.state c.args.outside.now) (g.O.Outside.state c.give_back_gear.new.outside) (NotOpened what)) (sym c.subject_of.ensures)
    (cannot_open g.O.Log.Source.state g.O.Log.Source.opening g.O.Net.Link.state g.O.Net.Link.opening c.args.station.now _ _ _ gear
    of_logs of_servers of_links c.in-Err.missing c.in-Err.ensures.opened c.in-Err.ensures.places c.give_back_gear.ensures.back)

pub give_back_gear-requires-in-Ok-ended-after_bounds : goal.give_back_gear-requires-in-Ok-ended-after_bounds
give_back_gear-requires-in-Ok-ended-after_bounds g c κs within =
    let gear = c.open_gear.new.gear in
    let reported = c.in-Ok-ended.ensures in
    let ended = c.in-Ok-ended.ended in
    let ends : EndsAll (sights_of (seen g.O.Log.Source.state g.O.Log.Source.opening) (seen g.O.Net.Link.state g.O.Net.Link.opening)) c.args.station.now c.args.orders gear ended = record {
      of_station = reported.journal;
      radios_served = reported.radios;
      servers_served = reported.servers;
      leap_served = reported.leap;
      links_served = reported.links;
    } in
    are_still_out g.O.Log.Source.state g.O.Log.Source.opening g.O.Net.Link.state g.O.Net.Link.opening c.args.station.now _ _ _ gear c.in_default-open_gear.ensures.opened
    (c.give_back_gate.ensures.same ∙ c.gate-gate.ensures.same) ended.gear
    (numbers_kept g.O.Log.Source.state g.O.Log.Source.opening g.O.Net.Link.state g.O.Net.Link.opening c.args.station.now c.args.orders gear ended ends)

pub give_back_gear-requires-in-Err-ended-after_bounds : goal.give_back_gear-requires-in-Err-ended-after_bounds
give_back_gear-requires-in-Err-ended-after_bounds g c κs within =
    are_still_out g.O.Log.Source.state g.O.Log.Source.opening g.O.Net.Link.state g.O.Net.Link.opening c.args.station.now _ _ _ c.open_gear.new.gear
    c.in_default-open_gear.ensures.opened (c.give_back_gate.ensures.same ∙ c.gate-gate.ensures.same) c.in-Err-ended.gear
    (ap (λ gear. numbers_of g.O.Log.Source.opening g.O.Net.Link.opening gear) c.in-Err-ended.ensures.memory)

pub returns-in-Ok-ended-clause-tried : goal.returns-in-Ok-ended-clause-tried
returns-in-Ok-ended-clause-tried g c =
    let gear = c.open_gear.new.gear in
    let of_logs : vec_len gear.logs ≡ length gear.logs.items = search rules in
    let of_servers : vec_len gear.servers ≡ length gear.servers.items = search rules in
    let of_links : vec_len gear.links ≡ length gear.links.items = search rules in
    let reported = c.in-Ok-ended.ensures in
    was_served g.O.Log.Source.state g.O.Log.Source.opening g.O.Net.Link.state g.O.Net.Link.opening c.args.station.now _ _ _ gear c.in_default-open_gear.ensures.opened
    (c.give_back_gate.ensures.same ∙ c.gate-gate.ensures.same) of_logs of_servers of_links c.in_default-open_gear.ensures.places c.args.orders c.in-Ok-ended.ended (record {
      of_station = reported.journal;
      radios_served = reported.radios;
      servers_served = reported.servers;
      leap_served = reported.leap;
      links_served = reported.links;
    }) _ c.give_back_gear-in-Ok-ended.ensures.back

pub returns-in-Err-ended-clause-tried : goal.returns-in-Err-ended-clause-tried
returns-in-Err-ended-clause-tried g c =
    let gear = c.open_gear.new.gear in
    let of_logs : vec_len gear.logs ≡ length gear.logs.items = search rules in
    let of_servers : vec_len gear.servers ≡ length gear.servers.items = search rules in
    let of_links : vec_len gear.links ≡ length gear.links.items = search rules in
    lacked_memory g.O.Log.Source.state g.O.Log.Source.opening g.O.Net.Link.state g.O.Net.Link.opening c.args.station.now _ _ _ gear c.in_default-open_gear.ensures.opened
    (c.give_back_gate.ensures.same ∙ c.gate-gate.ensures.same) of_logs of_servers of_links c.in-Err-ended.gear _ c.in-Err-ended.ensures.memory c.give_back_gear-in-Err-ended.ensures.back
