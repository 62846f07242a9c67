-- What the search leaves open of `opening::open_gear`.
use Rattle.std.proofs.Common.{◌≡◌, ◌∙◌, ◌+◌, length, map, sym, ap, arith}
use Rattle.std.proofs.lemmas.List.{length-map}
use Rattle.std.specs.Prelude.{vec_len}
use Rattle.std.specs.Option.{option_to_list}
use Rattle.outside_traits.specs.Openings.State.{OfLog, OfLink}
use Rattle.outside_traits.specs.Openings.Wanted.{LinkAt}
use Rattle.station_gear.proofs.HoldingLaws.{stops_within}
use Rattle.station_gear.proofs.PhaseLaws.{all_phases, leap_fails, link_fails, log_fails, server_fails}
use Rattle.station_gear.proofs.opening.open_gear.Goals as goal

pub number-requires-in-Err-open_links : goal.number-requires-in-Err-open_links
number-requires-in-Err-open_links g c =
    let size : length c.open_links.new.links.items ≡ vec_len c.open_links.new.links = sym c.open_links.new.links.ok.0 in
    omega (
      arith,
      size,
      c.len-in-Err-open_links.ensures,
      c.radios-radios.ensures.bounds.ports,
      stops_within _ _ _ _ _ c.in-Err-open_links.ensures.opened,
      length-map c.open_links.new.links.items g.O.Net.Link.opening,
      length-map c.args.station.now.links (λ port. LinkAt port c.args.station.now.top.start),
    )

pub returns-in-Err-clause-opened : goal.returns-in-Err-clause-opened
returns-in-Err-clause-opened g c =
    let size : length c.open_logs.new.logs.items ≡ vec_len c.open_logs.new.logs = sym c.open_logs.new.logs.ok.0 in
    log_fails c.args.station.now _ _ _ _ _ _ _ _ _ _ c.in-Err.ensures.opened
    (ap (λ o. map g.O.Log.Source.opening (option_to_list o)) c.requires.no_leap) (ap (λ o. map (λ x. OfLog (g.O.Log.Source.state x)) (option_to_list o)) c.requires.no_leap)
    (ap (map g.O.Net.Link.opening) c.requires.no_server) (ap (map (λ x. OfLink (g.O.Net.Link.state x))) c.requires.no_server)
    (ap (map g.O.Net.Link.opening) c.requires.no_link) (ap (map (λ x. OfLink (g.O.Net.Link.state x))) c.requires.no_link)
    c.number.result (c.number.ensures ∙ c.len.ensures ∙ sym size ∙ sym (length-map c.open_logs.new.logs.items g.O.Log.Source.opening))

pub number-requires-in-Err-open_servers : goal.number-requires-in-Err-open_servers
number-requires-in-Err-open_servers g c =
    let size : length c.open_servers.new.servers.items ≡ vec_len c.open_servers.new.servers = sym c.open_servers.new.servers.ok.0 in
    let sources = c.radios-radios.ensures.bounds.sources in
    omega (
      arith,
      size,
      sources,
      c.radios-radios.ensures.value,
      c.len-in-Err-open_servers.ensures,
      stops_within _ _ _ _ _ c.in-Err-open_servers.ensures.opened,
      length-map c.open_servers.new.servers.items g.O.Net.Link.opening,
      length-map c.args.station.now.servers (λ server. LinkAt 0 c.args.station.now.top.start),
    )

pub returns-in-Err-open_leap-clause-opened : goal.returns-in-Err-open_leap-clause-opened
returns-in-Err-open_leap-clause-opened g c =
    leap_fails c.args.station.now _ _ _ _ _ _ _ _ _ _ (g.O.Outside.state c.open_logs.new.outside) c.in_default.ensures.opened c.in-Err-open_leap.ensures.opened
    (ap (λ o. map g.O.Log.Source.opening (option_to_list o)) c.requires.no_leap) (ap (λ o. map (λ x. OfLog (g.O.Log.Source.state x)) (option_to_list o)) c.requires.no_leap)
    (ap (map g.O.Net.Link.opening) c.requires.no_server) (ap (map (λ x. OfLink (g.O.Net.Link.state x))) c.requires.no_server)
    (ap (map g.O.Net.Link.opening) c.requires.no_link) (ap (map (λ x. OfLink (g.O.Net.Link.state x))) c.requires.no_link)

pub returns-in-Err-open_servers-clause-opened : goal.returns-in-Err-open_servers-clause-opened
returns-in-Err-open_servers-clause-opened g c =
    let log_size = c.in_default.ensures.opened.all ∙ length-map c.args.station.now.radios _ ∙ sym c.radios-radios.ensures.value in
    let size : length c.open_servers.new.servers.items ≡ vec_len c.open_servers.new.servers = sym c.open_servers.new.servers.ok.0 in
    server_fails c.args.station.now _ _ _ _ _ _ _ _ _ _ (g.O.Outside.state c.open_logs.new.outside) (g.O.Outside.state c.open_leap.new.outside)
    c.in_default.ensures.opened c.in-Ok.ensures.opened c.in-Err-open_servers.ensures.opened
    (ap (map g.O.Net.Link.opening) c.requires.no_link) (ap (map (λ x. OfLink (g.O.Net.Link.state x))) c.requires.no_link)
    c.number-in-Err-open_servers.result
    (c.number-in-Err-open_servers.ensures ∙ ap (λ n. n + c.len-in-Err-open_servers.result) (sym log_size)
    ∙ ap (λ n. length (map g.O.Log.Source.opening c.open_logs.new.logs.items) + n)
    (c.len-in-Err-open_servers.ensures ∙ sym size ∙ sym (length-map c.open_servers.new.servers.items g.O.Net.Link.opening)))

pub returns-in-Err-open_links-clause-opened : goal.returns-in-Err-open_links-clause-opened
returns-in-Err-open_links-clause-opened g c =
    let size : length c.open_links.new.links.items ≡ vec_len c.open_links.new.links = sym c.open_links.new.links.ok.0 in
    link_fails c.args.station.now _ _ _ _ _ _ _ _ _ _ (g.O.Outside.state c.open_logs.new.outside) (g.O.Outside.state c.open_leap.new.outside) (g.O.Outside.state c.open_servers.new.outside)
    c.in_default.ensures.opened c.in-Ok.ensures.opened c.in_default-open_servers.ensures.opened c.in-Err-open_links.ensures.opened c.number-in-Err-open_links.result
    (c.number-in-Err-open_links.ensures ∙ c.len-in-Err-open_links.ensures ∙ sym size ∙ sym (length-map c.open_links.new.links.items g.O.Net.Link.opening))

pub returns-clause-opened : goal.returns-clause-opened
returns-clause-opened g c =
    all_phases c.args.station.now _ _ _ _ _ _ _ _ _ _ (g.O.Outside.state c.open_logs.new.outside) (g.O.Outside.state c.open_leap.new.outside) (g.O.Outside.state c.open_servers.new.outside)
    c.in_default.ensures.opened c.in-Ok.ensures.opened c.in_default-open_servers.ensures.opened c.in_default-open_links.ensures.opened

pub returns-in-Err-clause-gate : goal.returns-in-Err-clause-gate
returns-in-Err-clause-gate g c = c.open_logs.ensures.gate

pub returns-in-Err-open_leap-clause-gate : goal.returns-in-Err-open_leap-clause-gate
returns-in-Err-open_leap-clause-gate g c = c.open_leap.ensures.gate ∙ c.open_logs.ensures.gate

pub returns-in-Err-open_servers-clause-gate : goal.returns-in-Err-open_servers-clause-gate
returns-in-Err-open_servers-clause-gate g c = c.open_servers.ensures.gate ∙ c.open_leap.ensures.gate ∙ c.open_logs.ensures.gate

pub returns-in-Err-open_links-clause-gate : goal.returns-in-Err-open_links-clause-gate
returns-in-Err-open_links-clause-gate g c = c.open_links.ensures.gate ∙ c.open_servers.ensures.gate ∙ c.open_leap.ensures.gate ∙ c.open_logs.ensures.gate

pub returns-clause-gate : goal.returns-clause-gate
returns-clause-gate g c = c.open_links.ensures.gate ∙ c.open_servers.ensures.gate ∙ c.open_leap.ensures.gate ∙ c.open_logs.ensures.gate

pub returns-clause-places : goal.returns-clause-places
returns-clause-places g c = record { logs = (c.open_logs.new.logs.ok.0 ∙ sym (length-map c.open_logs.new.logs.items g.O.Log.Source.opening) ∙ c.in_default.ensures.opened.all ∙ length-map c.args.station.now.radios _); leap = c.in-Ok.ensures.named; servers = (c.open_servers.new.servers.ok.0 ∙ sym (length-map c.open_servers.new.servers.items g.O.Net.Link.opening) ∙ c.in_default-open_servers.ensures.opened.all ∙ length-map c.args.station.now.servers _); links = (c.open_links.new.links.ok.0 ∙ sym (length-map c.open_links.new.links.items g.O.Net.Link.opening) ∙ c.in_default-open_links.ensures.opened.all ∙ length-map c.args.station.now.links _) }

pub returns-in-Err-open_leap-clause-places : goal.returns-in-Err-open_leap-clause-places
returns-in-Err-open_leap-clause-places g c = ((c.open_logs.new.logs.ok.0 ∙ sym (length-map c.open_logs.new.logs.items g.O.Log.Source.opening) ∙ c.in_default.ensures.opened.all ∙ length-map c.args.station.now.radios _), c.requires.no_leap, (c.args.gear.now.servers.ok.0 ∙ ap length c.requires.no_server), (c.args.gear.now.links.ok.0 ∙ ap length c.requires.no_link))

pub returns-in-Err-open_links-clause-places : goal.returns-in-Err-open_links-clause-places
returns-in-Err-open_links-clause-places g c = ((c.open_logs.new.logs.ok.0 ∙ sym (length-map c.open_logs.new.logs.items g.O.Log.Source.opening) ∙ c.in_default.ensures.opened.all ∙ length-map c.args.station.now.radios _), c.in-Ok.ensures.named, (c.open_servers.new.servers.ok.0 ∙ sym (length-map c.open_servers.new.servers.items g.O.Net.Link.opening) ∙ c.in_default-open_servers.ensures.opened.all ∙ length-map c.args.station.now.servers _), sym (c.number-in-Err-open_links.ensures ∙ c.len-in-Err-open_links.ensures))
