-- What the search leaves open of `assigning::assign_crew`.
use Rattle.std.proofs.Common.{rules, ◌≡◌, ◌≤◌, length, map, sym, ap, ◌∙◌, subst, arith, length-append}
use Rattle.std.specs.Prelude.{IfSome, vec_len}
use Rattle.std.specs.Option.{option_to_list}
use Rattle.std.proofs.lemmas.List.{length-map, nil_from_length}
use Rattle.feed_workers.proofs.ListLaws.{length-option-map, none_left, pairs_keep, pairs_length, three_taken}
use Rattle.station_crew.specs.Collecting.{file_of, leap_pass, link_of, log_of, poll_pass, radio_pass, serve_pass, server_link}
use Rattle.feed_workers.specs.Served.{IsBlank}
use Rattle.station_crew.proofs.assigning.assign_crew.Goals as goal

pub assign_radios-requires-clause-blank : goal.assign_radios-requires-clause-blank
assign_radios-requires-clause-blank g c κs within =
    pairs_keep (λ r. Unit {0}) (λ b. (goal.Receiver-dyn g (b.vtable, b.value)).least_start b.value ≡ 0) (IsBlank _ _) (λ r b h _. h.least_start) c.args.station.now.radios c.args.equipment.now.receivers.items c.requires.blank (λ i d lt. tt)

pub assign_radios-requires-clause-receivers : goal.assign_radios-requires-clause-receivers
assign_radios-requires-clause-receivers g c κs within =
    let one : vec_len c.args.equipment.now.receivers ≡ length c.args.equipment.now.receivers.items = search rules in
    one ∙ pairs_length _ c.args.station.now.radios c.args.equipment.now.receivers.items c.requires.blank ∙ sym c.requires.gear.logs

pub assign_pollers-requires-clause-feeds : goal.assign_pollers-requires-clause-feeds
assign_pollers-requires-clause-feeds g c =
    let old = c.args.feeds.now in
    let rest = c.assign_radios.new.feeds in
    let jobs = c.assign_radios.new.jobs in
    let one : vec_len rest ≡ length rest.items = search rules in
    let two : vec_len old ≡ length old.items = search rules in
    let three : vec_len c.args.equipment.now.gear.logs ≡ length c.args.equipment.now.gear.logs.items = search rules in
    let k = c.requires.feeds in
    let p = ap length c.assign_radios.ensures.feeds in
    let q = ap length c.assign_radios.ensures.logs in
    omega (arith, one, two, three, k, p, q, length-append (map radio_pass jobs.items) rest.items, length-map jobs.items radio_pass, length-map jobs.items log_of)

pub assign_leap-requires-clause-feeds : goal.assign_leap-requires-clause-feeds
assign_leap-requires-clause-feeds g c =
    let old = c.args.feeds.now in
    let mid = c.assign_radios.new.feeds in
    let rest = c.assign_pollers.new.feeds in
    let jobs = c.assign_radios.new.jobs in
    let pollers = c.assign_pollers.new.jobs in
    let one : vec_len rest ≡ length rest.items = search rules in
    let two : vec_len old ≡ length old.items = search rules in
    let three : vec_len c.args.equipment.now.gear.logs ≡ length c.args.equipment.now.gear.logs.items = search rules in
    let four : vec_len c.args.equipment.now.gear.servers ≡ length c.args.equipment.now.gear.servers.items = search rules in
    let k = c.requires.feeds in
    let p = ap length c.assign_radios.ensures.feeds in
    let q = ap length c.assign_radios.ensures.logs in
    let r = ap length c.assign_pollers.ensures.feeds in
    let s = ap length c.assign_pollers.ensures.links in
    omega (
      arith,
      one,
      two,
      three,
      four,
      k,
      p,
      q,
      r,
      s,
      length-append (map radio_pass jobs.items) mid.items,
      length-append (map poll_pass pollers.items) rest.items,
      length-map jobs.items radio_pass,
      length-map jobs.items log_of,
      length-map pollers.items poll_pass,
      length-map pollers.items server_link,
    )

pub returns-clause-feeds : goal.returns-clause-feeds
returns-clause-feeds g c =
    let old = c.args.feeds.now in
    let js = c.assign_radios.new.jobs in
    let ps = c.assign_pollers.new.jobs in
    let two : vec_len old ≡ length old.items = search rules in
    let three : vec_len c.args.equipment.now.gear.logs ≡ length c.args.equipment.now.gear.logs.items = search rules in
    let four : vec_len c.args.equipment.now.gear.servers ≡ length c.args.equipment.now.gear.servers.items = search rules in
    let k = c.requires.feeds in
    let q = ap length c.assign_radios.ensures.logs in
    let r = ap length c.assign_pollers.ensures.links in
    let leap = c.assign_leap.result in
    let s = ap (λ o. length (option_to_list o)) c.assign_leap.ensures.file in
    three_taken (map radio_pass js.items) (map poll_pass ps.items) (map leap_pass (option_to_list leap)) c.assign_leap.new.feeds.items c.assign_pollers.new.feeds.items c.assign_radios.new.feeds.items old.items
    c.assign_radios.ensures.feeds c.assign_pollers.ensures.feeds c.assign_leap.ensures.feeds
    (omega (arith, two, three, four, k, q, r, s, length-option-map file_of leap, length-map (option_to_list leap) leap_pass, length-map js.items radio_pass, length-map js.items log_of, length-map ps.items poll_pass, length-map ps.items server_link))

pub returns-clause-readers : goal.returns-clause-readers
returns-clause-readers g c =
    let old = c.args.readers.now in
    let xs = c.assign_responders.new.jobs in
    let two : vec_len old ≡ length old.items = search rules in
    let three : vec_len c.args.equipment.now.gear.links ≡ length c.args.equipment.now.gear.links.items = search rules in
    let k = c.requires.readers in
    let q = ap length c.assign_responders.ensures.links in
    none_left (map serve_pass xs.items) c.assign_responders.new.readers.items old.items c.assign_responders.ensures.readers
    (omega (arith, two, three, k, q, length-map xs.items serve_pass, length-map xs.items link_of))

-- nothing is left where as much was taken as there was
pub returns-clause-no_feeds : goal.returns-clause-no_feeds
returns-clause-no_feeds g c =
    let old = c.args.feeds.now in
    let js = c.assign_radios.new.jobs in
    let ps = c.assign_pollers.new.jobs in
    let one : vec_len old ≡ length old.items = search rules in
    let two : vec_len c.args.equipment.now.gear.logs ≡ length c.args.equipment.now.gear.logs.items = search rules in
    let three : vec_len c.args.equipment.now.gear.servers ≡ length c.args.equipment.now.gear.servers.items = search rules in
    let leap = c.assign_leap.result in
    let k = c.requires.feeds in
    let l = ap length c.assign_radios.ensures.logs in
    let m = ap length c.assign_pollers.ensures.links in
    let n = ap (λ o. length (option_to_list o)) c.assign_leap.ensures.file in
    let p = ap length c.assign_radios.ensures.feeds in
    let q = ap length c.assign_pollers.ensures.feeds in
    let r = ap length c.assign_leap.ensures.feeds in
    nil_from_length c.assign_leap.new.feeds.items (omega (
      arith,
      one,
      two,
      three,
      k,
      l,
      m,
      n,
      p,
      q,
      r,
      length-append (map radio_pass js.items) c.assign_radios.new.feeds.items,
      length-append (map poll_pass ps.items) c.assign_pollers.new.feeds.items,
      length-append (map leap_pass (option_to_list leap)) c.assign_leap.new.feeds.items,
      length-option-map file_of leap,
      length-map (option_to_list leap) leap_pass,
      length-map js.items radio_pass,
      length-map js.items log_of,
      length-map ps.items poll_pass,
      length-map ps.items server_link,
    ))

pub returns-clause-feeds_room : goal.returns-clause-feeds_room
returns-clause-feeds_room g c = c.assign_leap.ensures.feeds_room ∙ c.assign_pollers.ensures.feeds_room ∙ c.assign_radios.ensures.feeds_room

pub returns-clause-no_readers : goal.returns-clause-no_readers
returns-clause-no_readers g c =
    let old = c.args.readers.now in
    let xs = c.assign_responders.new.jobs in
    let one : vec_len old ≡ length old.items = search rules in
    let two : vec_len c.args.equipment.now.gear.links ≡ length c.args.equipment.now.gear.links.items = search rules in
    let k = c.requires.readers in
    let l = ap length c.assign_responders.ensures.links in
    let m = ap length c.assign_responders.ensures.readers in
    nil_from_length c.assign_responders.new.readers.items
    (omega (arith, one, two, k, l, m, length-append (map serve_pass xs.items) c.assign_responders.new.readers.items, length-map xs.items serve_pass, length-map xs.items link_of))

pub returns-clause-emptied : goal.returns-clause-emptied
returns-clause-emptied g c =
    let gear = c.args.equipment.now.gear in
    record {
      no_logs = c.assign_radios.ensures.emptied;
      no_leap = c.assign_leap.ensures.emptied;
      no_servers = c.assign_pollers.ensures.emptied;
      no_links = c.assign_responders.ensures.emptied;
      logs = subst (λ n. vec_len gear.logs ≤ n) (sym c.assign_radios.ensures.logs_room) gear.logs.ok.1;
      servers = subst (λ n. vec_len gear.servers ≤ n) (sym c.assign_pollers.ensures.links_room) gear.servers.ok.1;
      links = subst (λ n. vec_len gear.links ≤ n) (sym c.assign_responders.ensures.links_room) gear.links.ok.1;
    }

pub returns-clause-assigned : goal.returns-clause-assigned
returns-clause-assigned g c = record {
  receivers_are = c.assign_radios.ensures.assigned;
  logs = c.assign_radios.ensures.logs;
  servers = c.assign_pollers.ensures.links;
  asked = c.assign_pollers.ensures.servers;
  file = c.assign_leap.ensures.file;
  begins = subst (λ n. IfSome c.assign_leap.result (λ j. j.worker.start ≡ n)) c.start.ensures.value c.assign_leap.ensures.begins;
  links = c.assign_responders.ensures.links;
  numbered = c.assign_responders.ensures.numbers;
  unserved = c.assign_responders.ensures.none;
  keyed = c.assign_responders.ensures.keyed;
  gated = c.assign_responders.ensures.gated;
}
