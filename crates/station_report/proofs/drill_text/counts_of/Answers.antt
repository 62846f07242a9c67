-- What the search leaves open of `drill::text::counts_of`.
use Rattle.std.proofs.Common.{◌<◌, ◌≤◌, length, rules, subst}
use Rattle.station_report.specs.DrillScaffold.{CountsFound}
use Rattle.station_report.proofs.CountingLaws.{counted_next, counted_up_to}
use Rattle.station_report.proofs.drill_text.counts_of.Goals as goal

pub count_found-requires : goal.count_found-requires
count_found-requires c =
    let fits : c.loop-place.place ≤ 18446744073709551614 = search rules in
    counted_up_to c.args.feed c.args.journal.now.entries c.loop-place.place c.loop-place.counts 18446744073709551614 c.loop-place.invariant fits

pub loop-place-preserved : goal.loop-place-preserved
loop-place-preserved c =
    let lt : c.loop-place.place < length c.args.journal.now.entries = search rules in
    counted_next c.args.feed c.args.journal.now.entries c.loop-place.place c.loop-place.counts c.count_found.new.self lt
    (subst (λ o. CountsFound o c.loop-place.counts c.count_found.new.self) c.answer_at.ensures c.count_found.ensures) c.loop-place.invariant
