-- What the search leaves open of `returning::give_back_logs`.
use Rattle.std.proofs.Common.{rules, ◌≡◌, ◌∙◌, [], map, sym, subst}
use Rattle.std.proofs.lemmas.List.{nil_from_length}
use Rattle.std.specs.Vec.Iter.{into_iter_items}
use Rattle.outside_traits.specs.ManyOut.{AreOut, GivesAllBack}
use Rattle.outside_traits.proofs.ManyOutLaws.{AreOut-back, GivesAllBack-none, GivesAllBack-step}
use Rattle.station_gear.specs.Gears.{log_states}
use Rattle.station_gear.proofs.returning.give_back_logs.Goals as goal

pub loop-log-preserved : goal.loop-log-preserved
loop-log-preserved g c =
    let e = c.in-Some.ensures.steps.0 in
    let out = subst (λ xs. AreOut (g.O.Outside.state c.loop-log.outside).openings (map g.O.Log.Source.opening xs)) e c.loop-log.invariant.out in
    record {
      out = AreOut-back _ _ _ _ _ out c.give_back_log.ensures.back;
      back = λ later h. c.loop-log.invariant.back later
          (subst (λ xs. GivesAllBack (g.O.Outside.state c.loop-log.outside) later (map g.O.Log.Source.opening xs) (log_states g.O.Log.Source.state xs)) (sym e)
          (GivesAllBack-step _ _ later _ _ _ _ c.give_back_log.ensures.back h));
      size = search rules;
      gate = c.give_back_log.ensures.gate ∙ c.loop-log.invariant.gate;
    }

pub returns-clause-back : goal.returns-clause-back
returns-clause-back g c =
    let e : into_iter_items c.loop-log.log-iterator ≡ [] = nil_from_length _ (c.loop-log.invariant.size ∙ c.in-None.ensures.steps.0) in
    let now = g.O.Outside.state c.loop-log.outside in
    let h = c.loop-log.invariant.back now
    (subst (λ xs. GivesAllBack now now (map g.O.Log.Source.opening xs) (log_states g.O.Log.Source.state xs)) (sym e) (GivesAllBack-none now)) in
    subst (λ xs. GivesAllBack (g.O.Outside.state c.args.outside.now) now (map g.O.Log.Source.opening xs) (log_states g.O.Log.Source.state xs)) c.into_iter-log-iterator.ensures.into_iter_gives.0 h
