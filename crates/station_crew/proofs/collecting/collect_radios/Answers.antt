-- What the search takes long to find of `collecting::collect_radios`.
use Rattle.std.proofs.Common.{◌≡◌, [], arith, refl, ◌∙◌}
use Rattle.std.proofs.lemmas.Grind.{common_steps}
use Rattle.std.specs.Vec.Iter.{into_iter_items}
use Rattle.station_crew.specs.Collecting.{log_of, radio_pass}
use Rattle.station_crew.proofs.CollectingLaws.{left_all, left_more, room_after}
use Rattle.station_crew.proofs.collecting.collect_radios.Goals as goal

pub loop-job-preserved : goal.loop-job-preserved
loop-job-preserved g c =
    let i = c.loop-job.invariant in
    let next = c.in-Some.ensures.steps.0 in
    record {
      logs = left_more log_of _ _ _ _ _ _ _ c.push_reserved.ensures.items next c.give_back-log.ensures.0 i.logs;
      works = left_more _ _ _ _ _ _ _ _ c.push_reserved-in-loop-job.ensures.items next refl i.works;
      passes = left_more radio_pass _ _ _ _ _ _ _ c.push_reserved-in-loop-job-2.ensures.items next c.give_back-log.ensures.1 i.passes;
      logs_room = room_after _ _ _ _ _ _ _ next c.push_reserved.ensures.len c.push_reserved.ensures.capacity i.logs_room;
      works_room = room_after _ _ _ _ _ _ _ next c.push_reserved-in-loop-job.ensures.len c.push_reserved-in-loop-job.ensures.capacity i.works_room;
      room = room_after _ _ _ _ _ _ _ next c.push_reserved-in-loop-job-2.ensures.len c.push_reserved-in-loop-job-2.ensures.capacity i.room;
      same = c.push_reserved-in-loop-job-2.ensures.capacity ∙ i.same;
    }

pub returns : goal.returns
returns g c =
    let i = c.loop-job.invariant in
    let none : into_iter_items c.loop-job.job-iterator ≡ [] = grind (arith, common_steps) in
    let given = c.into_iter-job-iterator.ensures.into_iter_gives.0 in
    record {
      logs = left_all log_of _ _ _ _ _ none given i.logs;
      works = left_all _ _ _ _ _ _ none given i.works;
      feeds = left_all radio_pass _ _ _ _ _ none given i.passes;
      room = i.same;
    }
