-- What the search leaves open of `gear_tests::read_logs`.
use Rattle.std.proofs.Common.{rules, ◌≡◌, ◌∙◌, ap, sym, get_or}
use Rattle.std.proofs.Math.Seq.{map-set_same}
use Rattle.config_tests.proofs.gear_tests.read_logs.Goals as goal

pub loop-place-preserved : goal.loop-place-preserved
loop-place-preserved g c =
    let at : get_or c.loop-place.logs.items c.loop-place.place c.index_mut.result.now ≡ c.index_mut.result.now = search rules in
    record {
      count = search rules;
      same = map-set_same (λ x. g.L.Source.opening x) c.loop-place.logs.items c.loop-place.place c.first_byte-byte.new.log c.index_mut.result.now (c.first_byte-byte.ensures ∙ ap (λ x. g.L.Source.opening x) (sym at)) ∙ c.loop-place.invariant.same;
    }
