-- What the search leaves open of `ends::edge`.
use Rattle.std.proofs.Common.{◌<◌, ◌≤◌, length, get_or, arith}
use Rattle.select_core.specs.Ends.{on_the_way}
use Rattle.select_core.proofs.EdgeLaws.{edge-here, edge-nowhere, passed-later, waits-next}
use Rattle.select_core.proofs.ends.edge.Goals as goal

pub returns-then-ended-wanted : goal.returns-then-ended-wanted
returns-then-ended-wanted c =
    let begins = c.args.begins.now in
    let below : c.loop-begun.begun < length begins = omega (arith, c.len-begun-end.ensures.value) in
    edge-here c.args.from begins c.args.ends.now c.args.wanted c.len-begun-end.ensures.order c.loop-begun.begun c.count_passed-ended.result c.come_to-at.result below c.come_to-at.ensures c.count_passed-ended.ensures.value c.if-ended-wanted.true c.loop-begun.invariant.waits

pub loop-begun-preserved : goal.loop-begun-preserved
loop-begun-preserved c =
    let from = c.args.from in
    let begins = c.args.begins.now in
    let order = c.len-begun-end.ensures.order in
    let begun = c.loop-begun.begun in
    let at = c.come_to-at.result in
    let below : begun < length begins = omega (arith, c.len-begun-end.ensures.value) in
    record {
      within = c.count_passed-ended.ensures.within;
      waits = waits-next from begins c.args.ends.now c.args.wanted order begun c.count_passed-ended.result at below c.come_to-at.ensures c.count_passed-ended.ensures.value c.if-ended-wanted.false c.loop-begun.invariant.waits;
      prefix = λ j e up less k d small. passed-later from begins begun at (get_or (on_the_way from c.args.ends.now) k d) order c.come_to-at.ensures (c.count_passed-ended.ensures.prefix k d small) j e (omega arith) less;
    }

pub returns : goal.returns
returns c =
    let begins = c.args.begins.now in
    let past : length begins ≤ c.loop-begun.begun = omega (arith, c.len-begun-end.ensures.value) in
    edge-nowhere c.args.from begins c.args.ends.now c.args.wanted c.len-begun-end.ensures.order c.loop-begun.begun past c.loop-begun.invariant.waits
