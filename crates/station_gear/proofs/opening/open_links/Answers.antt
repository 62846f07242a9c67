-- What the search leaves open of `opening::open_links`.
use Rattle.std.proofs.Common.{rules, ◌≡◌, ◌∙◌, ◌∷◌, ◌<◌, ◌-◌, [], None, Some, length, map, sym, ap, subst, refl, arith}
use Rattle.std.proofs.lemmas.List.{map-append, length-map}
use Rattle.std.proofs.lemmas.Option.{slice_get-map, slice_get_within}
use Rattle.std.specs.Prelude.{slice_get, option_map, vec_len}
use Rattle.outside_traits.specs.Openings.Wanted.{LinkAt}
use Rattle.outside_traits.specs.Openings.State.{OfLink}
use Rattle.station_gear.specs.Gears.{links_needed, link_states}
use Rattle.station_gear.specs.Opens.{HoldsOpenings}
use Rattle.station_gear.proofs.HoldingLaws.{none_held, one_held, one_failed, all_held, none_past}
use Rattle.station_gear.proofs.opening.open_links.Goals as goal

pub loop-row-init : goal.loop-row-init
loop-row-init g c =
    let now = g.O.Outside.state c.args.outside.now in
    record {
      openings = subst (λ xs. HoldsOpenings (links_needed c.args.station.now) (map g.O.Net.Link.opening xs) (link_states g.O.Net.Link.state xs) now now None) (sym c.requires.none) (none_held (links_needed c.args.station.now) now);
      room = c.requires.room;
      gate = refl;
    }

pub returns-in_default-open_link-clause-opened : goal.returns-in_default-open_link-clause-opened
returns-in_default-open_link-clause-opened g c =
    let size : length c.loop-row.links.items ≡ vec_len c.loop-row.links = search rules in
    let at : slice_get (links_needed c.args.station.now) (length (map g.O.Net.Link.opening c.loop-row.links.items)) ≡ Some (LinkAt c.in-Some.row.port c.start.result) =
    ap (slice_get (links_needed c.args.station.now)) (length-map c.loop-row.links.items g.O.Net.Link.opening ∙ size ∙ sym c.len.ensures) ∙ slice_get-map (λ p. LinkAt p c.args.station.now.top.start) c.args.station.now.links c.len.result
    ∙ ap (option_map (λ p. LinkAt p c.args.station.now.top.start)) (sym c.in-Some.ensures) ∙ ap (λ s. Some (LinkAt c.in-Some.row.port s)) (sym c.start.ensures.value) in
    record {
      what = LinkAt c.in-Some.row.port c.start.result;
      openings = one_failed (links_needed c.args.station.now) (map g.O.Net.Link.opening c.loop-row.links.items) (link_states g.O.Net.Link.state c.loop-row.links.items) (g.O.Outside.state c.args.outside.now) (g.O.Outside.state c.loop-row.outside) (g.O.Outside.state c.open_link.new.self) (LinkAt c.in-Some.row.port c.start.result) c.loop-row.invariant.openings at c.in_default-open_link.ensures.opened c.in_default-open_link.ensures.cause.rose;
    }

pub push_reserved-requires : goal.push_reserved-requires
push_reserved-requires g c = omega (arith, c.len.ensures, c.loop-row.invariant.room, slice_get_within c.args.station.now.links c.len.result _ (sym c.in-Some.ensures))

pub loop-row-smaller : goal.loop-row-smaller
loop-row-smaller g c =
    let fewer : length c.args.station.now.links - vec_len c.push_reserved.new.self < length c.args.station.now.links - vec_len c.loop-row.links =
    omega (arith, c.len.ensures, c.push_reserved.ensures.len, slice_get_within c.args.station.now.links c.len.result _ (sym c.in-Some.ensures)) in
    fewer

pub loop-row-preserved : goal.loop-row-preserved
loop-row-preserved g c =
    let size : length c.loop-row.links.items ≡ vec_len c.loop-row.links = search rules in
    let at : slice_get (links_needed c.args.station.now) (length (map g.O.Net.Link.opening c.loop-row.links.items)) ≡ Some (LinkAt c.in-Some.row.port c.start.result) =
    ap (slice_get (links_needed c.args.station.now)) (length-map c.loop-row.links.items g.O.Net.Link.opening ∙ size ∙ sym c.len.ensures) ∙ slice_get-map (λ p. LinkAt p c.args.station.now.top.start) c.args.station.now.links c.len.result
    ∙ ap (option_map (λ p. LinkAt p c.args.station.now.top.start)) (sym c.in-Some.ensures) ∙ ap (λ s. Some (LinkAt c.in-Some.row.port s)) (sym c.start.ensures.value) in
    record {
      openings = one_held (links_needed c.args.station.now) (map g.O.Net.Link.opening c.loop-row.links.items) (map g.O.Net.Link.opening c.push_reserved.new.self.items) (link_states g.O.Net.Link.state c.loop-row.links.items) (link_states g.O.Net.Link.state c.push_reserved.new.self.items)
          (g.O.Outside.state c.args.outside.now) (g.O.Outside.state c.loop-row.outside) (g.O.Outside.state c.open_link.new.self) (LinkAt c.in-Some.row.port c.start.result) (OfLink (g.O.Net.Link.state c.in-Ok.link)) (g.O.Net.Link.opening c.in-Ok.link)
          c.loop-row.invariant.openings at c.in-Ok.ensures.opened c.in-Ok.ensures.number c.in-Ok.ensures.cause.kept
          (ap (map g.O.Net.Link.opening) c.push_reserved.ensures.items ∙ map-append g.O.Net.Link.opening c.loop-row.links.items (c.in-Ok.link ∷ []))
          (ap (map (λ x. OfLink (g.O.Net.Link.state x))) c.push_reserved.ensures.items ∙ map-append (λ x. OfLink (g.O.Net.Link.state x)) c.loop-row.links.items (c.in-Ok.link ∷ []));
      room = omega (arith, c.loop-row.invariant.room, c.push_reserved.ensures.capacity);
      gate = c.in-Ok.ensures.gate ∙ c.loop-row.invariant.gate;
    }

pub returns-clause-opened : goal.returns-clause-opened
returns-clause-opened g c =
    let size : length c.loop-row.links.items ≡ vec_len c.loop-row.links = search rules in
    let none : None ≡ slice_get c.args.station.now.links c.len.result = c.in_default.ensures in
    let past = none_past c.args.station.now.links c.len.result none in
    all_held (links_needed c.args.station.now) (map g.O.Net.Link.opening c.loop-row.links.items) (link_states g.O.Net.Link.state c.loop-row.links.items) (g.O.Outside.state c.args.outside.now) (g.O.Outside.state c.loop-row.outside) c.loop-row.invariant.openings
    (omega (arith, past, size, c.len.ensures, length-map c.loop-row.links.items g.O.Net.Link.opening, length-map c.args.station.now.links (λ p. LinkAt p c.args.station.now.top.start)))
