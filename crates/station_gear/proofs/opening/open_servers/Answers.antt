-- What the search leaves open of `opening::open_servers`.
use Rattle.std.proofs.Common.{rules, ◌≡◌, ◌∙◌, ◌∷◌, [], None, Some, length, map, sym, ap, subst, refl, arith}
use Rattle.std.proofs.lemmas.List.{map-append, length-map}
use Rattle.std.specs.Prelude.{slice_get, vec_len}
use Rattle.outside_traits.specs.Openings.Wanted.{LinkAt}
use Rattle.outside_traits.specs.Openings.State.{OfLink}
use Rattle.station_gear.specs.Gears.{servers_needed, link_states}
use Rattle.station_gear.specs.Opens.{HoldsOpenings}
use Rattle.station_gear.proofs.HoldingLaws.{none_held, one_held, one_failed, same_at}
use Rattle.station_gear.proofs.opening.open_servers.Goals as goal

pub loop-servers-init : goal.loop-servers-init
loop-servers-init g c =
    let now = g.O.Outside.state c.args.outside.now in
    record {
      openings = subst (λ xs. HoldsOpenings (servers_needed c.args.station.now) (map g.O.Net.Link.opening xs) (link_states g.O.Net.Link.state xs) now now None) (sym c.requires.none) (none_held (servers_needed c.args.station.now) now);
      room = c.requires.room;
      gate = refl;
    }

pub returns-in_default-clause-opened : goal.returns-in_default-clause-opened
returns-in_default-clause-opened g c =
    let size : length c.loop-servers.servers.items ≡ vec_len c.loop-servers.servers = search rules in
    let at : slice_get (servers_needed c.args.station.now) (length (map g.O.Net.Link.opening c.loop-servers.servers.items)) ≡ Some (LinkAt 0 c.start.result) =
    ap (slice_get (servers_needed c.args.station.now)) (length-map c.loop-servers.servers.items g.O.Net.Link.opening ∙ size)
    ∙ same_at c.args.station.now.servers (vec_len c.loop-servers.servers) (LinkAt 0 c.args.station.now.top.start) (omega (arith, c.len.ensures, c.servers.ensures.value, c.loop-servers-test.true))
    ∙ ap (λ s. Some (LinkAt 0 s)) (sym c.start.ensures.value) in
    record {
      what = LinkAt 0 c.start.result;
      openings = one_failed (servers_needed c.args.station.now) (map g.O.Net.Link.opening c.loop-servers.servers.items) (link_states g.O.Net.Link.state c.loop-servers.servers.items) (g.O.Outside.state c.args.outside.now) (g.O.Outside.state c.loop-servers.outside) (g.O.Outside.state c.open_link.new.self) (LinkAt 0 c.start.result) c.loop-servers.invariant.openings at c.in_default.ensures.opened c.in_default.ensures.cause.rose;
    }

pub loop-servers-preserved : goal.loop-servers-preserved
loop-servers-preserved g c =
    let size : length c.loop-servers.servers.items ≡ vec_len c.loop-servers.servers = search rules in
    let at : slice_get (servers_needed c.args.station.now) (length (map g.O.Net.Link.opening c.loop-servers.servers.items)) ≡ Some (LinkAt 0 c.start.result) =
    ap (slice_get (servers_needed c.args.station.now)) (length-map c.loop-servers.servers.items g.O.Net.Link.opening ∙ size)
    ∙ same_at c.args.station.now.servers (vec_len c.loop-servers.servers) (LinkAt 0 c.args.station.now.top.start) (omega (arith, c.len.ensures, c.servers.ensures.value, c.loop-servers-test.true))
    ∙ ap (λ s. Some (LinkAt 0 s)) (sym c.start.ensures.value) in
    record {
      openings = one_held (servers_needed c.args.station.now) (map g.O.Net.Link.opening c.loop-servers.servers.items) (map g.O.Net.Link.opening c.push_reserved.new.self.items) (link_states g.O.Net.Link.state c.loop-servers.servers.items) (link_states g.O.Net.Link.state c.push_reserved.new.self.items)
          (g.O.Outside.state c.args.outside.now) (g.O.Outside.state c.loop-servers.outside) (g.O.Outside.state c.open_link.new.self) (LinkAt 0 c.start.result) (OfLink (g.O.Net.Link.state c.in-Ok.link)) (g.O.Net.Link.opening c.in-Ok.link)
          c.loop-servers.invariant.openings at c.in-Ok.ensures.opened c.in-Ok.ensures.number c.in-Ok.ensures.cause.kept
          (ap (map g.O.Net.Link.opening) c.push_reserved.ensures.items ∙ map-append g.O.Net.Link.opening c.loop-servers.servers.items (c.in-Ok.link ∷ []))
          (ap (map (λ x. OfLink (g.O.Net.Link.state x))) c.push_reserved.ensures.items ∙ map-append (λ x. OfLink (g.O.Net.Link.state x)) c.loop-servers.servers.items (c.in-Ok.link ∷ []));
      room = omega (arith, c.loop-servers.invariant.room, c.push_reserved.ensures.capacity);
      gate = c.in-Ok.ensures.gate ∙ c.loop-servers.invariant.gate;
    }
