-- What the search leaves open of `collecting::collect_feeds`.
use Rattle.std.proofs.Common.{rules, ◌≡◌, ◌++◌, length, map, ap, ◌∙◌, arith, length-append}
use Rattle.std.specs.Prelude.{vec_len}
use Rattle.std.specs.Option.{option_to_list}
use Rattle.std.proofs.lemmas.List.{length-map}
use Rattle.station_crew.specs.Collecting.{leap_pass, log_of, poll_pass, radio_pass, server_link}
use Rattle.station_crew.proofs.collecting.collect_feeds.Goals as goal

pub collect_leap-file-requires-clause-feeds : goal.collect_leap-file-requires-clause-feeds
collect_leap-file-requires-clause-feeds g c κs within =
    let bs = c.args.crew.radios in
    let qs = c.args.crew.pollers in
    let feeds = c.collect_pollers.new.feeds in
    let is = ap length (c.collect_pollers.ensures.feeds ∙ ap (λ l. l ++ map poll_pass qs.items) (c.collect_radios.ensures.feeds ∙ ap (λ l. l ++ map radio_pass bs.items) c.requires.none)) in
    let one : vec_len feeds ≡ length feeds.items = search rules in
    let two : vec_len bs ≡ length bs.items = search rules in
    let three : vec_len qs ≡ length qs.items = search rules in
    omega (
      arith,
      is,
      one,
      two,
      three,
      c.collect_pollers.ensures.room,
      c.collect_radios.ensures.room,
      c.requires.room,
      length-append (map radio_pass bs.items) (map poll_pass qs.items),
      length-map bs.items radio_pass,
      length-map qs.items poll_pass,
    )

pub returns-clause-feeds : goal.returns-clause-feeds
returns-clause-feeds g c =
    let gear = c.requires.gear in
    let work = c.requires.work in
    let bs = c.args.crew.radios.items in
    let qs = c.args.crew.pollers.items in
    let leap = c.args.crew.leap in
    record {
      logs = c.collect_radios.ensures.logs ∙ ap (λ l. l ++ map log_of bs) gear.no_logs;
      servers = c.collect_pollers.ensures.links ∙ ap (λ l. l ++ map server_link qs) gear.no_servers;
      file = c.collect_leap-file.ensures.file;
      log_works = c.collect_radios.ensures.works ∙ ap (λ l. l ++ map (λ j. j.work) bs) work.no_radios;
      poll_works = c.collect_pollers.ensures.works ∙ ap (λ l. l ++ map (λ j. j.work) qs) work.no_servers;
      leap_work = c.collect_leap-file.ensures.work;
      feeds_are = c.collect_leap-file.ensures.feeds ∙ ap (λ l. l ++ map leap_pass (option_to_list leap)) (c.collect_pollers.ensures.feeds ∙ ap (λ l. l ++ map poll_pass qs) (c.collect_radios.ensures.feeds ∙ ap (λ l. l ++ map radio_pass bs) c.requires.none));
    }

pub returns-clause-served : goal.returns-clause-served
returns-clause-served g c = record {
  no_links = c.requires.gear.no_links;
  no_works = c.requires.work.no_links;
  links = c.requires.gear.links;
  works = c.requires.work.links;
}
