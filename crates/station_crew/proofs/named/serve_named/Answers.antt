-- What the search leaves open of `named::serve_named`.
use Rattle.std.proofs.Common.{◌≡◌, ℕ, ◌≤◌, ◌+◌, ◌++◌, length, map, sym, ap, ◌∙◌, subst, arith, length-append}
use Rattle.std.specs.Prelude.{All, option_map, vec_capacity, vec_len}
use Rattle.std.proofs.lemmas.List.{length-map}
use Rattle.std.proofs.lemmas.List.FromFn.{length-map-range_with_len}
use Rattle.std.proofs.lemmas.List.Elements.{All-map}
use Rattle.page_cell.specs.Claims.{IsTrueOf}
use Rattle.page_cell.specs.Passes.{Known, KnownReader, claim_of}
use Rattle.page_cell.specs.Views.{new_claim}
use Rattle.station_values.specs.Station.{gate_of, kind_of_radio, kind_of_server, leap_feeds}
use Rattle.station_crew.proofs.CollectingLaws.{both_length}
use Rattle.station_crew.proofs.PassLaws.{feeds_length}
use Rattle.station_crew.proofs.FeedLaws.{feeds_keep, leap_served, may_receive, may_notice, may_poll, radios_served, seen_all, servers_served}
use Rattle.station_crew.proofs.LinkLaws.{links_served, readers_are, served_twice}
use Rattle.feed_workers.proofs.ListLaws.{each_keeps, leap_feeds-length, length-is-some}
use Rattle.station_crew.specs.Crews.{HasRoomForGear, HasRoomForWork, IsNewReader}
use Rattle.station_crew.specs.Jobs.{HasServed, HasServedAgain, LeapRan}
use Rattle.station_crew.specs.Collecting.{file_of, link_of, log_of, passes_of, serve_pass, server_link}
use Rattle.feed_workers.specs.Lists.{Each}
use Rattle.feed_workers.specs.Served.{LeapServed, LinksServed, RadiosServed, ServersServed, column_of, seen, service_of}
use Rattle.station_crew.specs.Informing.{HasSeenAll, WasInformed}
use Rattle.system_fold.specs.Settings.{IsJournal, IsKept, SettingsFields}
use Rattle.verdict_journal.specs.Journals.{HasRead}
use Rattle.station_crew.proofs.named.serve_named.Goals as goal

-- there is room where nothing was yet
fits_left : (had jobs crew cap : ℕ) → had ≡ 0 → jobs ≡ crew → crew ≤ cap → had + jobs ≤ cap
fits_left had jobs crew cap none count le = omega arith

-- the list of passes has room again for as many as it had
reader_room : (had cap jobs room : ℕ) → had ≤ cap → had ≡ jobs → room ≡ cap → jobs ≤ room
reader_room had cap jobs room fit count same = omega arith

feed_room : (radios pollers leap r p had cap room : ℕ) → had ≤ cap → had ≡ r + p + leap → radios ≡ r → pollers ≡ p → (l : ℕ) → l ≡ leap → room ≡ cap → radios + pollers + l ≤ room
feed_room radios pollers leap r p had cap room fit count one two l three same = omega arith

adds_up : (f s both l r p a b d : ℕ) → f ≡ s → s ≡ both + l → both ≡ r + p → r ≡ a → p ≡ b → l ≡ d → f ≡ a + b + d
adds_up f s both l r p a b d count whole most radios servers leap = omega arith

pub assign_crew-crew-requires-clause-feeds : goal.assign_crew-crew-requires-clause-feeds
assign_crew-crew-requires-clause-feeds g c κs within =
    let feeds = c.in-Ok.parts.feeds in
    let of = c.args.station.now in
    let given = c.args.room.parts.feeds.items in
    let same = ap length c.in-Ok.ensures.passes.0 in
    let n = ap length c.requires.claims in
    let s = ap (λ (z : SettingsFields). length z.sources) c.requires.settings.1 in
    let count = feeds.ok.0 ∙ same ∙ sym (length-map given (λ (f : Known). claim_of f.view)) ∙ n ∙ length-map-range_with_len new_claim 0 (length g.N.HubName.settings.sources) ∙ sym s in
    adds_up _ _ _ _ _ _ _ _ _ count
    (length-append (map kind_of_radio of.radios ++ map kind_of_server of.servers) (leap_feeds of.leap_file))
    (length-append (map kind_of_radio of.radios) (map kind_of_server of.servers))
    (length-map of.radios kind_of_radio ∙ sym c.requires.gear.logs) (length-map of.servers kind_of_server ∙ sym c.requires.gear.servers)
    (leap_feeds-length of.leap_file ∙ sym (length-is-some c.args.equipment.gear.leap of.leap_file c.requires.gear.leap))

pub run_first-requires-clause-radios : goal.run_first-requires-clause-radios
run_first-requires-clause-radios g c κs within =
    let N = g.N.HubName in
    let crew = c.assign_crew-crew.result in
    let is = c.assign_crew-crew.ensures.feeds ∙ c.in-Ok.ensures.passes.0 in
    let claims = ap (λ l. map (λ (f : Known). claim_of f.view) l) is ∙ c.requires.claims in
    let tables = subst (All (λ (f : Known). f.table ≡ N.table)) (sym is) c.requires.feeds in
    record { all = may_receive N.table (length N.settings.sources) crew.radios.items crew.pollers.items crew.leap claims tables _ _ c.args.equipment.receivers.items c.assign_crew-crew.ensures.assigned.receivers_are }

pub run_first-requires-clause-pollers : goal.run_first-requires-clause-pollers
run_first-requires-clause-pollers g c κs within =
    let N = g.N.HubName in
    let crew = c.assign_crew-crew.result in
    let is = c.assign_crew-crew.ensures.feeds ∙ c.in-Ok.ensures.passes.0 in
    let claims = ap (λ l. map (λ (f : Known). claim_of f.view) l) is ∙ c.requires.claims in
    let tables = subst (All (λ (f : Known). f.table ≡ N.table)) (sym is) c.requires.feeds in
    record { all = may_poll N.table (length N.settings.sources) crew.radios.items crew.pollers.items crew.leap claims tables }

pub run_first-requires-clause-leap : goal.run_first-requires-clause-leap
run_first-requires-clause-leap g c κs within =
    let N = g.N.HubName in
    let crew = c.assign_crew-crew.result in
    let is = c.assign_crew-crew.ensures.feeds ∙ c.in-Ok.ensures.passes.0 in
    let claims = ap (λ l. map (λ (f : Known). claim_of f.view) l) is ∙ c.requires.claims in
    let tables = subst (All (λ (f : Known). f.table ≡ N.table)) (sym is) c.requires.feeds in
    may_notice N.table (length N.settings.sources) crew.radios.items crew.pollers.items crew.leap claims tables

pub run_first-requires-clause-responders : goal.run_first-requires-clause-responders
run_first-requires-clause-responders g c κs within =
    let table = g.N.HubName.table in
    let readers = c.assign_crew-crew.ensures.readers ∙ c.in-Ok.ensures.passes.1 in
    record { all = readers_are table c.assign_crew-crew.result.responders.items (subst (All (IsNewReader table)) (sym readers) c.requires.readers) }

pub collect_feeds-responders-requires-clause-gear : goal.collect_feeds-responders-requires-clause-gear
collect_feeds-responders-requires-clause-gear g c κs within =
    let now = c.run_first.new.crew in
    let m = c.assign_crew-crew.ensures.assigned in
    let crew = c.assign_crew-crew.result in
    let gear = c.args.equipment.gear in
    let radios : vec_len gear.logs ≡ vec_len now.radios = gear.logs.ok.0 ∙ sym (ap length m.logs) ∙ length-map crew.radios.items log_of ∙ sym crew.radios.ok.0 ∙ sym c.run_first.ensures.counts.0 in
    let pollers : vec_len gear.servers ≡ vec_len now.pollers = gear.servers.ok.0 ∙ sym (ap length m.servers) ∙ length-map crew.pollers.items server_link ∙ sym crew.pollers.ok.0 ∙ sym c.run_first.ensures.counts.1 in
    let responders : vec_len gear.links ≡ vec_len now.responders = gear.links.ok.0 ∙ sym (ap length m.links) ∙ length-map crew.responders.items link_of ∙ sym crew.responders.ok.0 ∙ sym c.run_first.ensures.counts.2 in
    subst (λ n. HasRoomForGear n (vec_len now.pollers) (vec_len now.responders) c.assign_crew-crew.new.equipment.gear) radios
    (subst (λ n. HasRoomForGear (vec_len gear.logs) n (vec_len now.responders) c.assign_crew-crew.new.equipment.gear) pollers
    (subst (λ n. HasRoomForGear (vec_len gear.logs) (vec_len gear.servers) n c.assign_crew-crew.new.equipment.gear) responders c.assign_crew-crew.ensures.emptied))

pub collect_feeds-responders-requires-clause-work : goal.collect_feeds-responders-requires-clause-work
collect_feeds-responders-requires-clause-work g c κs within =
    let now = c.run_first.new.crew in
    let m = c.assign_crew-crew.ensures.assigned in
    let crew = c.assign_crew-crew.result in
    let gear = c.args.equipment.gear in
    let radios : vec_len gear.logs ≡ vec_len now.radios = gear.logs.ok.0 ∙ sym (ap length m.logs) ∙ length-map crew.radios.items log_of ∙ sym crew.radios.ok.0 ∙ sym c.run_first.ensures.counts.0 in
    let pollers : vec_len gear.servers ≡ vec_len now.pollers = gear.servers.ok.0 ∙ sym (ap length m.servers) ∙ length-map crew.pollers.items server_link ∙ sym crew.pollers.ok.0 ∙ sym c.run_first.ensures.counts.1 in
    let responders : vec_len gear.links ≡ vec_len now.responders = gear.links.ok.0 ∙ sym (ap length m.links) ∙ length-map crew.responders.items link_of ∙ sym crew.responders.ok.0 ∙ sym c.run_first.ensures.counts.2 in
    subst (λ n. HasRoomForWork n (vec_len now.pollers) (vec_len now.responders) c.args.room.work) radios
    (subst (λ n. HasRoomForWork (vec_len gear.logs) n (vec_len now.responders) c.args.room.work) pollers
    (subst (λ n. HasRoomForWork (vec_len gear.logs) (vec_len gear.servers) n c.args.room.work) responders c.requires.room.work))

pub collect_feeds-responders-requires-clause-room : goal.collect_feeds-responders-requires-clause-room
collect_feeds-responders-requires-clause-room g c κs within =
    let now = c.run_first.new.crew in
    let crew = c.assign_crew-crew.result in
    let given = c.in-Ok.parts.feeds in
    feed_room _ _ _ _ _ (vec_len given) (vec_capacity given) _ given.ok.1
    (given.ok.0 ∙ sym (ap length c.assign_crew-crew.ensures.feeds) ∙ feeds_length crew.radios.items crew.pollers.items crew.leap)
    (c.run_first.ensures.counts.0 ∙ crew.radios.ok.0) (c.run_first.ensures.counts.1 ∙ crew.pollers.ok.0)
    _ (both_length (LeapRan g.L.Source.state g.L.Source.opening g.N.HubName.limit) crew.leap now.leap c.run_first.ensures.leap) c.assign_crew-crew.ensures.feeds_room

pub inform_responders-requires-clause-feeds : goal.inform_responders-requires-clause-feeds
inform_responders-requires-clause-feeds g c κs within =
    let N = g.N.HubName in
    let crew = c.assign_crew-crew.result in
    let now = c.run_first.new.crew in
    let e = c.run_first.ensures in
    let is = c.assign_crew-crew.ensures.feeds ∙ c.in-Ok.ensures.passes.0 in
    let claims = ap (λ l. map (λ (f : Known). claim_of f.view) l) is ∙ c.requires.claims in
    let tables = subst (All (λ (f : Known). f.table ≡ N.table)) (sym is) c.requires.feeds in
    subst (λ t. All (λ (f : Known). f.table ≡ t) c.collect_feeds-responders.new.feeds.items) (sym c.cell.ensures)
    (subst (All (λ (f : Known). f.table ≡ N.table)) (sym c.collect_feeds-responders.ensures.feeds.feeds_are)
    (feeds_keep N.table (length N.settings.sources) crew.radios.items crew.pollers.items crew.leap claims tables _ g.L.Source.state g.L.Source.opening g.T.Link.state g.T.Link.opening N.limit now.radios.items now.pollers.items now.leap e.radios (sym now.radios.ok.0 ∙ e.counts.0 ∙ crew.radios.ok.0) e.pollers (sym now.pollers.ok.0 ∙ e.counts.1 ∙ crew.pollers.ok.0) e.leap))

pub inform_responders-requires-clause-readers : goal.inform_responders-requires-clause-readers
inform_responders-requires-clause-readers g c κs within =
    let table = g.N.HubName.table in
    let xs = c.assign_crew-crew.result.responders.items in
    let ys = c.run_first.new.crew.responders.items in
    let readers = c.assign_crew-crew.ensures.readers ∙ c.in-Ok.ensures.passes.1 in
    let same : length ys ≡ length xs = sym c.run_first.new.crew.responders.ok.0 ∙ c.run_first.ensures.counts.2 ∙ c.assign_crew-crew.result.responders.ok.0 in
    let first = each_keeps (λ x. x.responder.pass.table ≡ table) (HasServed g.T.Link.state g.T.Link.opening c.args.orders.budget.during) (λ a b r h. r.same.table ∙ h) xs ys c.run_first.ensures.responders same
    (readers_are table xs (subst (All (IsNewReader table)) (sym readers) c.requires.readers)) in
    subst (λ t. All (λ x. x.responder.pass.table ≡ t) c.collect_feeds-responders.result.items) (sym c.cell.ensures)
    (subst (λ v. All (λ x. x.responder.pass.table ≡ table) v.items) (sym c.collect_feeds-responders.ensures.responders) first)

pub run_second-requires-after_bounds : goal.run_second-requires-after_bounds
run_second-requires-after_bounds g c κs within =
    let table = g.N.HubName.table in
    let xs = c.assign_crew-crew.result.responders.items in
    let ys = c.run_first.new.crew.responders.items in
    let readers = c.assign_crew-crew.ensures.readers ∙ c.in-Ok.ensures.passes.1 in
    let same : length ys ≡ length xs = sym c.run_first.new.crew.responders.ok.0 ∙ c.run_first.ensures.counts.2 ∙ c.assign_crew-crew.result.responders.ok.0 in
    let first = each_keeps (λ x. x.responder.pass.table ≡ table) (HasServed g.T.Link.state g.T.Link.opening c.args.orders.budget.during) (λ a b r h. r.same.table ∙ h) xs ys c.run_first.ensures.responders same
    (readers_are table xs (subst (All (IsNewReader table)) (sym readers) c.requires.readers)) in
    let given = c.collect_feeds-responders.result in
    let zs = c.inform_responders.new.jobs in
    each_keeps (λ x. x.responder.pass.table ≡ table) (WasInformed c.collect_feeds-responders.new.feeds.items) (λ x y t h. t.learnt.table ∙ h) given.items zs.items c.inform_responders.ensures.informed (sym zs.ok.0 ∙ c.inform_responders.ensures.count ∙ given.ok.0)
    (subst (λ v. All (λ x. x.responder.pass.table ≡ table) v.items) (sym c.collect_feeds-responders.ensures.responders) first)

pub collect_responders-requires-clause-links : goal.collect_responders-requires-clause-links
collect_responders-requires-clause-links g c κs within =
    let room = c.collect_feeds-responders.ensures.served in
    let had = c.collect_feeds-responders.new.gear.links in
    let now = c.run_first.new.crew in
    let count = c.run_second.ensures.count ∙ c.inform_responders.ensures.count ∙ ap vec_len c.collect_feeds-responders.ensures.responders in
    fits_left (vec_len had) (vec_len c.run_second.new.jobs) (vec_len now.responders) (vec_capacity had) (had.ok.0 ∙ ap length room.no_links) count room.links

pub collect_responders-requires-clause-works : goal.collect_responders-requires-clause-works
collect_responders-requires-clause-works g c κs within =
    let room = c.collect_feeds-responders.ensures.served in
    let had = c.collect_feeds-responders.new.work.links in
    let now = c.run_first.new.crew in
    let count = c.run_second.ensures.count ∙ c.inform_responders.ensures.count ∙ ap vec_len c.collect_feeds-responders.ensures.responders in
    fits_left (vec_len had) (vec_len c.run_second.new.jobs) (vec_len now.responders) (vec_capacity had) (had.ok.0 ∙ ap length room.no_works) count room.works

pub collect_responders-requires-clause-readers : goal.collect_responders-requires-clause-readers
collect_responders-requires-clause-readers g c κs within =
    let given = c.in-Ok.parts.readers in
    let had = c.assign_crew-crew.new.readers in
    let crew = c.assign_crew-crew.result in
    let now = c.run_first.new.crew in
    let count = c.run_second.ensures.count ∙ c.inform_responders.ensures.count ∙ ap vec_len c.collect_feeds-responders.ensures.responders in
    let fit = reader_room (vec_len given) (vec_capacity given) (vec_len now.responders) (vec_capacity had) given.ok.1
    (given.ok.0 ∙ sym (ap length c.assign_crew-crew.ensures.readers) ∙ length-map crew.responders.items serve_pass ∙ sym crew.responders.ok.0 ∙ sym c.run_first.ensures.counts.2)
    c.assign_crew-crew.ensures.readers_room in
    fits_left (vec_len had) (vec_len c.run_second.new.jobs) (vec_len now.responders) (vec_capacity had) (had.ok.0 ∙ ap length c.assign_crew-crew.ensures.no_readers) count fit

pub close-requires-clause-feeds : goal.close-requires-clause-feeds
close-requires-clause-feeds g c =
    let N = g.N.HubName in
    let crew = c.assign_crew-crew.result in
    let now = c.run_first.new.crew in
    let e = c.run_first.ensures in
    let is = c.assign_crew-crew.ensures.feeds ∙ c.in-Ok.ensures.passes.0 in
    let claims = ap (λ l. map (λ (f : Known). claim_of f.view) l) is ∙ c.requires.claims in
    let tables = subst (All (λ (f : Known). f.table ≡ N.table)) (sym is) c.requires.feeds in
    let feeds = c.inform_responders.ensures.same ∙ c.collect_feeds-responders.ensures.feeds.feeds_are in
    subst (All (λ (f : Known). f.table ≡ N.table)) (sym feeds)
    (feeds_keep N.table (length N.settings.sources) crew.radios.items crew.pollers.items crew.leap claims tables _ g.L.Source.state g.L.Source.opening g.T.Link.state g.T.Link.opening N.limit now.radios.items now.pollers.items now.leap e.radios (sym now.radios.ok.0 ∙ e.counts.0 ∙ crew.radios.ok.0) e.pollers (sym now.pollers.ok.0 ∙ e.counts.1 ∙ crew.pollers.ok.0) e.leap)

pub close-requires-clause-readers : goal.close-requires-clause-readers
close-requires-clause-readers g c =
    let table = g.N.HubName.table in
    let P : KnownReader → Type 0 = λ f. f.table ≡ table in
    let xs = c.assign_crew-crew.result.responders.items in
    let ys = c.run_first.new.crew.responders.items in
    let zs = c.inform_responders.new.jobs.items in
    let ws = c.run_second.new.jobs.items in
    let readers = c.assign_crew-crew.ensures.readers ∙ c.in-Ok.ensures.passes.1 in
    let same : length ys ≡ length xs = sym c.run_first.new.crew.responders.ok.0 ∙ c.run_first.ensures.counts.2 ∙ c.assign_crew-crew.result.responders.ok.0 in
    let again : length ws ≡ length zs = sym c.run_second.new.jobs.ok.0 ∙ c.run_second.ensures.count ∙ c.inform_responders.new.jobs.ok.0 in
    let first = each_keeps (λ x. x.responder.pass.table ≡ table) (HasServed g.T.Link.state g.T.Link.opening c.args.orders.budget.during) (λ a b r h. r.same.table ∙ h) xs ys c.run_first.ensures.responders same
    (readers_are table xs (subst (All (IsNewReader table)) (sym readers) c.requires.readers)) in
    let given = c.collect_feeds-responders.result in
    let informed = each_keeps (λ x. x.responder.pass.table ≡ table) (WasInformed c.collect_feeds-responders.new.feeds.items) (λ x y t h. t.learnt.table ∙ h) given.items zs c.inform_responders.ensures.informed (sym c.inform_responders.new.jobs.ok.0 ∙ c.inform_responders.ensures.count ∙ given.ok.0)
    (subst (λ v. All (λ x. x.responder.pass.table ≡ table) v.items) (sym c.collect_feeds-responders.ensures.responders) first) in
    let second = each_keeps (λ x. x.responder.pass.table ≡ table) (HasServedAgain g.T.Link.state g.T.Link.opening c.args.orders.budget.after) (λ a b r h. r.same.table ∙ h) zs ws c.run_second.ensures.served again informed in
    subst (All P) (sym (c.collect_responders.ensures.readers ∙ ap (λ l. l ++ map serve_pass ws) c.assign_crew-crew.ensures.no_readers)) (All-map P serve_pass ws second)

pub returns-clause-journal : goal.returns-clause-journal
returns-clause-journal g c = record {
  settings_are = c.close.ensures.settings ∙ sym c.requires.settings.1;
  limit_is = c.close.ensures.limit ∙ sym c.requires.limit.0;
  within = subst (λ n. length c.close.result.entries ≤ n) (sym c.requires.limit.0) c.close.ensures.within;
  valid = subst (λ (s : SettingsFields). IsJournal s c.close.result.entries) (c.close.ensures.settings ∙ sym c.requires.settings.1) c.close.ensures.valid;
}

pub returns-clause-radios : goal.returns-clause-radios
returns-clause-radios g c =
    let N = g.N.HubName in
    let m = c.assign_crew-crew.ensures.assigned in
    let crew = c.assign_crew-crew.result in
    let now = c.run_first.new.crew in
    let e = c.run_first.ensures in
    let collected = c.collect_feeds-responders.new in
    let f = c.collect_feeds-responders.ensures.feeds in
    let j = c.close.result.entries in
    let of = c.args.station.now in
    let is = c.assign_crew-crew.ensures.feeds ∙ c.in-Ok.ensures.passes.0 in
    let claims = ap (λ l. map (λ (f : Known). claim_of f.view) l) is ∙ c.requires.claims in
    let feeds = c.inform_responders.ensures.same ∙ f.feeds_are in
    let all = subst (All (λ (f : Known). IsTrueOf j (claim_of f.view))) feeds c.close.ensures.feeds in
    let informed = radios_served g.L.Source.state g.L.Source.opening g.T.Link.state g.T.Link.opening N.limit (length N.settings.sources) j crew.radios.items now.radios.items crew.pollers.items now.pollers.items crew.leap now.leap claims e.radios (sym now.radios.ok.0 ∙ e.counts.0 ∙ crew.radios.ok.0) e.pollers (sym now.pollers.ok.0 ∙ e.counts.1 ∙ crew.pollers.ok.0) e.leap all _ of.radios c.args.equipment.receivers.items c.requires.blank m.receivers_are c.close.ensures.within in
    subst (λ n. RadiosServed (seen g.L.Source.state g.L.Source.opening) of.radios (column_of 0 n j) c.args.equipment.gear.logs.items collected.gear.logs.items collected.work.radios.items) (sym c.requires.limit.0)
    (subst (λ l. RadiosServed (seen g.L.Source.state g.L.Source.opening) of.radios (column_of 0 N.limit j) l collected.gear.logs.items collected.work.radios.items) m.logs
    (subst (λ l. RadiosServed (seen g.L.Source.state g.L.Source.opening) of.radios (column_of 0 N.limit j) (map log_of crew.radios.items) l collected.work.radios.items) (sym f.logs)
    (subst (λ l. RadiosServed (seen g.L.Source.state g.L.Source.opening) of.radios (column_of 0 N.limit j) (map log_of crew.radios.items) (map log_of now.radios.items) l) (sym f.log_works) informed)))

pub returns-clause-servers : goal.returns-clause-servers
returns-clause-servers g c =
    let N = g.N.HubName in
    let m = c.assign_crew-crew.ensures.assigned in
    let crew = c.assign_crew-crew.result in
    let now = c.run_first.new.crew in
    let e = c.run_first.ensures in
    let collected = c.collect_feeds-responders.new in
    let f = c.collect_feeds-responders.ensures.feeds in
    let j = c.close.result.entries in
    let of = c.args.station.now in
    let is = c.assign_crew-crew.ensures.feeds ∙ c.in-Ok.ensures.passes.0 in
    let claims = ap (λ l. map (λ (f : Known). claim_of f.view) l) is ∙ c.requires.claims in
    let feeds = c.inform_responders.ensures.same ∙ f.feeds_are in
    let all = subst (All (λ (f : Known). IsTrueOf j (claim_of f.view))) feeds c.close.ensures.feeds in
    let one : vec_len c.args.equipment.gear.logs ≡ length c.args.equipment.gear.logs.items = c.args.equipment.gear.logs.ok.0 in
    let first : length crew.radios.items ≡ length of.radios = sym (length-map crew.radios.items log_of) ∙ ap length m.logs ∙ sym one ∙ c.requires.gear.logs in
    let informed = servers_served g.L.Source.state g.L.Source.opening g.T.Link.state g.T.Link.opening N.limit (length N.settings.sources) j crew.radios.items now.radios.items crew.pollers.items now.pollers.items crew.leap now.leap claims e.radios (sym now.radios.ok.0 ∙ e.counts.0 ∙ crew.radios.ok.0) e.pollers (sym now.pollers.ok.0 ∙ e.counts.1 ∙ crew.pollers.ok.0) e.leap all of.servers m.asked c.close.ensures.within in
    subst (λ n. ServersServed (seen g.T.Link.state g.T.Link.opening) of.servers (column_of (length of.radios) n j) c.args.equipment.gear.servers.items collected.gear.servers.items collected.work.servers.items) (sym c.requires.limit.0)
    (subst (λ n. ServersServed (seen g.T.Link.state g.T.Link.opening) of.servers (column_of n N.limit j) c.args.equipment.gear.servers.items collected.gear.servers.items collected.work.servers.items) first
    (subst (λ l. ServersServed (seen g.T.Link.state g.T.Link.opening) of.servers (column_of (length crew.radios.items) N.limit j) l collected.gear.servers.items collected.work.servers.items) m.servers
    (subst (λ l. ServersServed (seen g.T.Link.state g.T.Link.opening) of.servers (column_of (length crew.radios.items) N.limit j) (map server_link crew.pollers.items) l collected.work.servers.items) (sym f.servers)
    (subst (λ l. ServersServed (seen g.T.Link.state g.T.Link.opening) of.servers (column_of (length crew.radios.items) N.limit j) (map server_link crew.pollers.items) (map server_link now.pollers.items) l) (sym f.poll_works) informed))))

pub returns-clause-leap : goal.returns-clause-leap
returns-clause-leap g c =
    let N = g.N.HubName in
    let m = c.assign_crew-crew.ensures.assigned in
    let crew = c.assign_crew-crew.result in
    let now = c.run_first.new.crew in
    let e = c.run_first.ensures in
    let collected = c.collect_feeds-responders.new in
    let f = c.collect_feeds-responders.ensures.feeds in
    let j = c.close.result.entries in
    let of = c.args.station.now in
    let is = c.assign_crew-crew.ensures.feeds ∙ c.in-Ok.ensures.passes.0 in
    let claims = ap (λ l. map (λ (f : Known). claim_of f.view) l) is ∙ c.requires.claims in
    let feeds = c.inform_responders.ensures.same ∙ f.feeds_are in
    let all = subst (All (λ (f : Known). IsTrueOf j (claim_of f.view))) feeds c.close.ensures.feeds in
    let start = of.top.start in
    let one : vec_len c.args.equipment.gear.logs ≡ length c.args.equipment.gear.logs.items = c.args.equipment.gear.logs.ok.0 in
    let two : vec_len c.args.equipment.gear.servers ≡ length c.args.equipment.gear.servers.items = c.args.equipment.gear.servers.ok.0 in
    let radios : length crew.radios.items ≡ length of.radios = sym (length-map crew.radios.items log_of) ∙ ap length m.logs ∙ sym one ∙ c.requires.gear.logs in
    let servers : length crew.pollers.items ≡ length of.servers = sym (length-map crew.pollers.items server_link) ∙ ap length m.servers ∙ sym two ∙ c.requires.gear.servers in
    let informed = leap_served g.L.Source.state g.L.Source.opening g.T.Link.state g.T.Link.opening N.limit (length N.settings.sources) j crew.radios.items now.radios.items crew.pollers.items now.pollers.items crew.leap now.leap claims e.radios (sym now.radios.ok.0 ∙ e.counts.0 ∙ crew.radios.ok.0) e.pollers (sym now.pollers.ok.0 ∙ e.counts.1 ∙ crew.pollers.ok.0) e.leap all start m.begins c.close.ensures.within in
    let first : length crew.radios.items + length crew.pollers.items ≡ length of.radios + length of.servers = ap (λ n. n + length crew.pollers.items) radios ∙ ap (λ n. length of.radios + n) servers in
    subst (λ n. LeapServed (seen g.L.Source.state g.L.Source.opening) start (column_of (length of.radios + length of.servers) n j) c.args.equipment.gear.leap collected.gear.leap collected.work.leap) (sym c.requires.limit.0)
    (subst (λ n. LeapServed (seen g.L.Source.state g.L.Source.opening) start (column_of n N.limit j) c.args.equipment.gear.leap collected.gear.leap collected.work.leap) first
    (subst (λ o. LeapServed (seen g.L.Source.state g.L.Source.opening) start (column_of (length crew.radios.items + length crew.pollers.items) N.limit j) o collected.gear.leap collected.work.leap) m.file
    (subst (λ o. LeapServed (seen g.L.Source.state g.L.Source.opening) start (column_of (length crew.radios.items + length crew.pollers.items) N.limit j) (option_map file_of crew.leap) o collected.work.leap) (sym f.file)
    (subst (λ o. LeapServed (seen g.L.Source.state g.L.Source.opening) start (column_of (length crew.radios.items + length crew.pollers.items) N.limit j) (option_map file_of crew.leap) (option_map file_of now.leap) o) (sym f.leap_work) informed))))

pub returns-clause-links : goal.returns-clause-links
returns-clause-links g c =
    let N = g.N.HubName in
    let m = c.assign_crew-crew.ensures.assigned in
    let crew = c.assign_crew-crew.result in
    let now = c.run_first.new.crew in
    let e = c.run_first.ensures in
    let collected = c.collect_feeds-responders.new in
    let f = c.collect_feeds-responders.ensures.feeds in
    let j = c.close.result.entries in
    let of = c.args.station.now in
    let is = c.assign_crew-crew.ensures.feeds ∙ c.in-Ok.ensures.passes.0 in
    let claims = ap (λ l. map (λ (f : Known). claim_of f.view) l) is ∙ c.requires.claims in
    let feeds = c.inform_responders.ensures.same ∙ f.feeds_are in
    let all = subst (All (λ (f : Known). IsTrueOf j (claim_of f.view))) feeds c.close.ensures.feeds in
    let valid = subst (λ (s : SettingsFields). All (IsKept (length s.sources)) j) c.close.ensures.settings c.close.ensures.valid in
    let xs = crew.responders.items in
    let ys = now.responders.items in
    let zs = c.inform_responders.new.jobs.items in
    let ws = c.run_second.new.jobs.items in
    let same : length ys ≡ length xs = sym c.run_first.new.crew.responders.ok.0 ∙ c.run_first.ensures.counts.2 ∙ c.assign_crew-crew.result.responders.ok.0 in
    let again : length ws ≡ length zs = sym c.run_second.new.jobs.ok.0 ∙ c.run_second.ensures.count ∙ c.inform_responders.new.jobs.ok.0 in
    let seen_by = passes_of now.radios.items now.pollers.items now.leap in
    let informed_to = subst (λ l. Each (WasInformed l) ys zs) f.feeds_are (subst (λ v. Each (WasInformed collected.feeds.items) v.items zs) c.collect_feeds-responders.ensures.responders c.inform_responders.ensures.informed) in
    let all_informed : length zs ≡ length ys = sym c.inform_responders.new.jobs.ok.0 ∙ c.inform_responders.ensures.count ∙ ap vec_len c.collect_feeds-responders.ensures.responders ∙ now.responders.ok.0 in
    let served = served_twice g.T.Link.state g.T.Link.opening c.args.orders.budget seen_by xs ys zs ws e.responders same informed_to all_informed c.run_second.ensures.served in
    let count : length ws ≡ length xs = again ∙ all_informed ∙ same in
    let readers = c.collect_responders.ensures.readers ∙ ap (λ l. l ++ map serve_pass ws) c.assign_crew-crew.ensures.no_readers in
    let read = subst (All (λ (r : KnownReader). HasRead N.settings j r.view)) readers (subst (λ (s : SettingsFields). All (λ (r : KnownReader). HasRead s j r.view) c.collect_responders.new.readers.items) c.close.ensures.settings c.close.ensures.readers) in
    let new = subst (All (IsNewReader N.table)) (sym (c.assign_crew-crew.ensures.readers ∙ c.in-Ok.ensures.passes.1)) c.requires.readers in
    let bound : (x : KnownReader) → HasSeenAll seen_by x → length j ≤ x.view.seen = λ x seen. seen_all g.L.Source.state g.L.Source.opening g.T.Link.state g.T.Link.opening N.limit (length N.settings.sources) j crew.radios.items now.radios.items crew.pollers.items now.pollers.items crew.leap now.leap claims e.radios (sym now.radios.ok.0 ∙ e.counts.0 ∙ crew.radios.ok.0) e.pollers (sym now.pollers.ok.0 ∙ e.counts.1 ∙ crew.pollers.ok.0) e.leap all valid x.view.seen seen in
    let informed = links_served g.T.Link.state g.T.Link.opening of.keys (gate_of of) N.settings j c.args.orders.budget N.table seen_by xs ws served count new m.unserved m.keyed m.gated read bound in
    let links = c.collect_responders.ensures.links ∙ ap (λ l. l ++ map link_of ws) c.collect_feeds-responders.ensures.served.no_links in
    let works = c.collect_responders.ensures.works ∙ ap (λ l. l ++ map (λ j. j.work) ws) c.collect_feeds-responders.ensures.served.no_works in
    let service = record (service_of of j c.args.orders.budget) { settings = N.settings } in
    subst (λ (s : SettingsFields). LinksServed (seen g.T.Link.state g.T.Link.opening) (record service { settings = s }) c.args.equipment.gear.links.items c.collect_responders.new.links.items c.collect_responders.new.works.items) (sym c.requires.settings.1)
    (subst (λ l. LinksServed (seen g.T.Link.state g.T.Link.opening) service l c.collect_responders.new.links.items c.collect_responders.new.works.items) m.links
    (subst (λ l. LinksServed (seen g.T.Link.state g.T.Link.opening) service (map link_of xs) l c.collect_responders.new.works.items) (sym links)
    (subst (λ l. LinksServed (seen g.T.Link.state g.T.Link.opening) service (map link_of xs) (map link_of ws) l) (sym works) informed)))
