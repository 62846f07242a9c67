-- What the search leaves open of `returning::give_back_links`.
use Rattle.std.proofs.Common.{rules, ◌≡◌, ◌∙◌, [], map, sym, subst}
use Rattle.std.proofs.lemmas.List.{nil_from_length}
use Rattle.std.specs.Vec.Iter.{into_iter_items}
use Rattle.outside_traits.specs.ManyOut.{AreOut, GivesAllBack}
use Rattle.outside_traits.proofs.ManyOutLaws.{AreOut-back, GivesAllBack-none, GivesAllBack-step}
use Rattle.station_gear.specs.Gears.{link_states}
use Rattle.station_gear.proofs.returning.give_back_links.Goals as goal

pub loop-link-preserved : goal.loop-link-preserved
loop-link-preserved g c =
    let e = c.in-Some.ensures.steps.0 in
    let out = subst (λ xs. AreOut (g.O.Outside.state c.loop-link.outside).openings (map g.O.Net.Link.opening xs)) e c.loop-link.invariant.out in
    record {
      out = AreOut-back _ _ _ _ _ out c.give_back_link.ensures.back;
      back = λ later h. c.loop-link.invariant.back later
          (subst (λ xs. GivesAllBack (g.O.Outside.state c.loop-link.outside) later (map g.O.Net.Link.opening xs) (link_states g.O.Net.Link.state xs)) (sym e)
          (GivesAllBack-step _ _ later _ _ _ _ c.give_back_link.ensures.back h));
      size = search rules;
      gate = c.give_back_link.ensures.gate ∙ c.loop-link.invariant.gate;
    }

pub returns-clause-back : goal.returns-clause-back
returns-clause-back g c =
    let e : into_iter_items c.loop-link.link-iterator ≡ [] = nil_from_length _ (c.loop-link.invariant.size ∙ c.in-None.ensures.steps.0) in
    let now = g.O.Outside.state c.loop-link.outside in
    let h = c.loop-link.invariant.back now
    (subst (λ xs. GivesAllBack now now (map g.O.Net.Link.opening xs) (link_states g.O.Net.Link.state xs)) (sym e) (GivesAllBack-none now)) in
    subst (λ xs. GivesAllBack (g.O.Outside.state c.args.outside.now) now (map g.O.Net.Link.opening xs) (link_states g.O.Net.Link.state xs)) c.into_iter-link-iterator.ensures.into_iter_gives.0 h
