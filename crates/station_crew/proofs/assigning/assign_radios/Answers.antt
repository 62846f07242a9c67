-- What the search leaves open of `assigning::assign_radios`.
use Rattle.std.proofs.Common.{rules, ◌≡◌, ◌∙◌, ◌∷◌, ◌<◌, [], length, sym, ap}
use Rattle.std.proofs.lemmas.List.{nil_from_length}
use Rattle.station_crew.specs.Collecting.{log_of, radio_pass}
use Rattle.feed_workers.proofs.ListLaws.{all_rest, first_removed, prefix_none, prefix_more, prefix_whole, moved}
use Rattle.station_crew.proofs.assigning.assign_radios.Goals as goal

pub loop-init : goal.loop-init
loop-init g c = record {
  logs = search rules;
  passes = search rules;
  assigned = prefix_none _ c.args.receivers.now.items c.args.jobs.now.items c.requires.none;
  blank = search rules;
  whole = search rules;
  receivers = search rules;
  enough = search rules;
  room = search rules;
  logs_room = search rules;
  feeds_room = search rules;
}

pub loop-preserved : goal.loop-preserved
loop-preserved g c =
    let i = c.loop.invariant in
    let pushed = c.push_reserved.ensures.items in
    let some : 0 < length c.loop.receivers.items = search rules in
    let one : 0 < length c.loop.logs.items = search rules in
    let more : 0 < length c.loop.feeds.items = search rules in
    let split = first_removed c.loop.receivers.items c.remove-receiver.result c.remove-receiver.ensures.value some ∙ ap (λ l. c.remove-receiver.result ∷ l) (sym c.remove-receiver.ensures.items) in
    let taken = first_removed c.loop.logs.items c.remove-log.result c.remove-log.ensures.value one ∙ ap (λ l. c.remove-log.result ∷ l) (sym c.remove-log.ensures.items) in
    let passed = first_removed c.loop.feeds.items c.remove-pass.result c.remove-pass.ensures.value more ∙ ap (λ l. c.remove-pass.result ∷ l) (sym c.remove-pass.ensures.items) in
    record {
      logs = moved log_of c.loop.jobs.items c.push_reserved.new.self.items c.assign_radio.result _ _ _ _ pushed taken c.assign_radio.ensures.is.0 i.logs;
      passes = moved radio_pass c.loop.jobs.items c.push_reserved.new.self.items c.assign_radio.result _ _ _ _ pushed passed c.assign_radio.ensures.is.1 i.passes;
      assigned = prefix_more _ _ _ _ _ _ _ _ split pushed i.assigned c.assign_radio.ensures.assigned;
      blank = all_rest (λ b. (goal.Receiver-dyn g (b.vtable, b.value)).least_start b.value ≡ 0) _ _ _ split i.blank;
      whole = search rules;
      receivers = search rules;
      enough = search rules;
      room = search rules;
      logs_room = c.remove-log.ensures.capacity ∙ i.logs_room;
      feeds_room = c.remove-pass.ensures.capacity ∙ i.feeds_room;
    }

pub returns-clause-emptied : goal.returns-clause-emptied
returns-clause-emptied g c = nil_from_length _ (search rules)

pub returns-clause-assigned : goal.returns-clause-assigned
returns-clause-assigned g c =
    let none : c.loop.receivers.items ≡ [] = nil_from_length _ (search rules) in
    prefix_whole _ _ _ _ none c.loop.invariant.assigned
