-- What the search leaves open of `gear_tests::receive_on_links`.
use Rattle.std.proofs.Common.{rules, ◌≡◌, ◌∙◌, ap, sym, get_or}
use Rattle.std.proofs.Math.Seq.{map-set_same}
use Rattle.config_tests.proofs.gear_tests.receive_on_links.Goals as goal

pub loop-place-preserved : goal.loop-place-preserved
loop-place-preserved g c =
    let at : get_or c.loop-place.links.items c.loop-place.place c.index_mut.result.now ≡ c.index_mut.result.now = search rules in
    record {
      count = search rules;
      same = map-set_same (λ x. g.T.Link.opening x) c.loop-place.links.items c.loop-place.place c.first_port-port.new.link c.index_mut.result.now (c.first_port-port.ensures ∙ ap (λ x. g.T.Link.opening x) (sym at)) ∙ c.loop-place.invariant.same;
    }
