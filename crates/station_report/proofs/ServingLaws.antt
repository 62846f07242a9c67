-- What is opened, done and given back, put together to what becomes of a command to serve.
use Rattle.std.proofs.Common.{◌≡◌, ℕ, zero, suc, ◌+◌, ◌-◌, ◌<◌, ◌≤◌, inl, inr, Bool, true, false, ◌||◌, if◌then◌else◌, Option, Some, None, List, [], ◌∷◌, ◌++◌, length, map, refl, sym, ap, ◌∙◌, subst, arith, length-append}
use Rattle.std.specs.Prelude.{All, ◌&&◌, option_map, MatchResult, Result, Ok, Err, is_some, nat_le, nat_lt, slice_get, vec_len}
use Rattle.std.specs.List.{list_any, range_with_len, sum_by}
use Rattle.std.specs.Option.{option_to_list}
use Rattle.std.proofs.lemmas.Bool.Decides.{nat_tests}
use Rattle.std.proofs.lemmas.List.{length-map}
use Rattle.std.proofs.lemmas.List.Folds.{list_any-append}
use Rattle.std.proofs.lemmas.List.Elements.{All-nil, All-cons}
use mathlib.Core.List.{IsPrefix}
use Rattle.outside_traits.specs.ManyOut.{GivesAllBack, Held, returned}
use Rattle.outside_traits.specs.Openings.{OutsideState, State, Visit, Wanted, log_visit}
use Rattle.outside_traits.specs.Openings.Wanted.{LogOf}
use Rattle.outside_traits.specs.States.{LinkState, SinkState, SourceState}
use Rattle.outside_traits.proofs.OpeningLaws.{GrowsBy-none}
use Rattle.feed_workers.specs.declared.work.LogWork.{LogWork}
use Rattle.feed_workers.specs.declared.work.PollWork.{PollWork}
use Rattle.file_reader.specs.declared.reader.FileEnd.{FileEnd}
use Rattle.file_reader.specs.declared.reader.FileEnd.TheVariants.{Whole}
use Rattle.journal_entry.specs.declared.entry.Entry.{Entry}
use Rattle.page_cell.specs.Claims.{of_feed}
use Rattle.station_reader.specs.Faults.{Says}
use Rattle.station_values.specs.Station.{ServerFields, StationFields, kind_of_radio, kind_of_server, leap_feed, leap_feeds, settings_of}
use Rattle.feed_workers.proofs.JournalLaws.{feeds-counted}
use Rattle.feed_workers.proofs.ListLaws.{leap_feeds-length, length-is-some}
use Rattle.station_gear.specs.Gears.{logs_needed, numbers_of, servers_needed, states_of, wanted_by}
use Rattle.station_gear.specs.Opens.{HoldsOpenings, IsUpTo, IsWhole, OpensAll, StopsAt}
use Rattle.station_gear.specs.declared.gear.Gear.{Gear}
use Rattle.station_gear.specs.declared.gear.Missing.{Missing}
use Rattle.station_gear.specs.declared.gear.Missing.TheVariants as missing
use Rattle.station_gear.proofs.GearLaws.{all_visited, gear_sizes, same_numbers, visited_before}
use Rattle.system_fold.specs.Page.{page_of}
use Rattle.feed_workers.specs.Served.{seen, sights_of}
use Rattle.station_report.specs.Crewing.{CannotServe, FinishesDone, GivesServed, GivesUnused, HasEach, IsLeftOf, LeavesAll, ServesAll, TriesServe, any_full, causes_left, end_of, line_of_work, lines_left, subject_of}
use Rattle.command_ends.specs.Effects.{effect_of}
use Rattle.command_ends.specs.Endings.{status_of, status_line}
use Rattle.station_report.specs.Headline.{HasDueEntries, IsReported, LeapRun, LinkRun, LogRun, PollRun, StationRun, causes, dues, each_cause, each_text, full_cause, leap_dues, link_cause, log_cause, poll_cause, radio_dues, served_text, server_dues}
use Rattle.command_ends.specs.Keeping.{OpensStation}
use Rattle.line_files.specs.Texts.{journal_text}
use Rattle.station_report.specs.Serving.{LacksOne, RunsServe, subject_at}
use Rattle.command_ends.specs.StationFile.{IsObstacle, line_at, status_at}
use Rattle.command_ends.specs.Text.{page_text}
use Rattle.command_ends.specs.Writing.{Answers}
use Rattle.command_ends.specs.declared.ending.Ending.{Ending}
use Rattle.command_ends.specs.declared.ending.Ending.TheVariants.{NoMemory, NotOpened}
use Rattle.command_ends.specs.declared.ending.status.Status.{Status}
use Rattle.command_ends.specs.declared.ending.subject.Subject.{Subject}
use Rattle.command_ends.specs.declared.ending.subject.Subject.TheVariants.{Feed, Link}
use Rattle.station_report.specs.declared.done.Done.{Done}
use Rattle.feed_workers.specs.declared.crew.Orders.{Orders}
use Rattle.command_ends.specs.declared.station_file.obstacle.Obstacle.{Obstacle}
use Rattle.station_report.proofs.CountLaws.{HaveDue, beginnings, have_both, is_counted, is_lost, is_so, none_lost, wholes}
use Rattle.station_report.proofs.RunOfLaws.{LeapsRun, LinksRun, LogsRun, PollsRun, leap_dues-length, leaps_run, links_run, logs_run, polled-length, polls_run, radio_dues-length}

-- ---- what is given back

returned-opened : (outs : List Held) (states : List State) → length states ≡ length outs → map (λ (visit : Visit). visit.opened) (returned outs states) ≡ map (λ (held : Held). held.opened) outs
returned-opened [] states n = refl
returned-opened (held ∷ outs) [] n = absurd (omega (arith, n))
returned-opened (held ∷ outs) (state ∷ states) n = ap (λ l. held.opened ∷ l) (returned-opened outs states (omega (arith, n)))

returned-back : (outs : List Held) (states : List State) → length states ≡ length outs → map (λ (visit : Visit). visit.back) (returned outs states) ≡ states
returned-back [] [] n = refl
returned-back [] (state ∷ states) n = absurd (omega (arith, n))
returned-back (held ∷ outs) [] n = refl
returned-back (held ∷ outs) (state ∷ states) n = ap (λ l. state ∷ l) (returned-back outs states (omega (arith, n)))

returned-length : (outs : List Held) (states : List State) → length states ≡ length outs → length (returned outs states) ≡ length outs
returned-length [] states n = refl
returned-length (held ∷ outs) [] n = absurd (omega (arith, n))
returned-length (held ∷ outs) (state ∷ states) n = ap suc (returned-length outs states (omega (arith, n)))

abbrev IsUnused : Visit → Type 0
IsUnused visit = visit.back ≡ visit.opened

first_state : (s t : State) (ss ts : List State) → s ∷ ss ≡ t ∷ ts → s ≡ t
first_state s t ss ts e = cc

rest_states : (s t : State) (ss ts : List State) → s ∷ ss ≡ t ∷ ts → ss ≡ ts
rest_states s t ss ts e = cc

returned-unused : (outs : List Held) (states : List State) → states ≡ map (λ (held : Held). held.opened) outs → All IsUnused (returned outs states)
returned-unused [] states e = All-nil IsUnused
returned-unused (held ∷ outs) [] e = All-nil IsUnused
returned-unused (held ∷ outs) (state ∷ states) e =
    All-cons IsUnused (record { what = held.what; opened = held.opened; back = state }) (returned outs states) (first_state state held.opened states _ e) (returned-unused outs states (rest_states state held.opened states _ e))

-- ---- what could not be opened

within : {X : Type 0} (xs : List X) (n : ℕ) (x : X) → slice_get xs n ≡ Some x → n < length xs
within [] n x at = absurd cc
within (y ∷ xs) zero x at = omega arith
within (y ∷ xs) (suc n) x at = omega (arith, within xs n x at)

-- a station's radios, leap second files and servers, and which of them stands at a place
abbrev subject_by : (radios leaps servers place : ℕ) → Subject
subject_by radios leaps servers place =
    if nat_lt place radios then Feed place
    else if nat_lt place (radios + leaps) then Feed (radios + servers)
    else if nat_lt place (radios + servers + leaps) then Feed (radios + (place - (radios + leaps)))
    else Link (place - (radios + servers + leaps))

radio_at : (radios leaps servers number place : ℕ) → place ≡ number → number < radios → Feed number ≡ subject_by radios leaps servers place
radio_at radios leaps servers number place same lt =
    let one : nat_lt place radios ≡ true = grind (arith, nat_tests) in
    rw one (ap Feed (sym same))

leap_at : (radios leaps servers place : ℕ) → place ≡ radios → 0 < leaps → Feed (radios + servers) ≡ subject_by radios leaps servers place
leap_at radios leaps servers place same lt =
    let one : nat_lt place radios ≡ false = grind (arith, nat_tests) in
    let two : nat_lt place (radios + leaps) ≡ true = grind (arith, nat_tests) in
    rw (one, two) refl

server_at : (radios leaps servers number place : ℕ) → place ≡ leaps + number → radios ≤ number → number < radios + servers → Feed number ≡ subject_by radios leaps servers place
server_at radios leaps servers number place same ge lt =
    let one : nat_lt place radios ≡ false = grind (arith, nat_tests) in
    let two : nat_lt place (radios + leaps) ≡ false = grind (arith, nat_tests) in
    let three : nat_lt place (radios + servers + leaps) ≡ true = grind (arith, nat_tests) in
    let is : number ≡ radios + (place - (radios + leaps)) = omega arith in
    rw (one, two, three) (ap Feed is)

link_at : (radios leaps servers number place : ℕ) → place ≡ radios + servers + leaps + number → Link number ≡ subject_by radios leaps servers place
link_at radios leaps servers number place same =
    let one : nat_lt place radios ≡ false = grind (arith, nat_tests) in
    let two : nat_lt place (radios + leaps) ≡ false = grind (arith, nat_tests) in
    let three : nat_lt place (radios + servers + leaps) ≡ false = grind (arith, nat_tests) in
    let is : number ≡ place - (radios + servers + leaps) = omega arith in
    rw (one, two, three) (ap Link is)

-- how many leap second files are open, by whether one is
abbrev count_of : {X : Type 0} → Option X → ℕ
count_of o = length (option_to_list o)

no_leap_open : {X Y : Type 0} (o : Option X) (p : Option Y) → is_some o ≡ (false && is_some p) → count_of o ≡ 0
no_leap_open None p e = refl
no_leap_open (Some x) p e = absurd cc

leap_open : {X Y : Type 0} (o : Option X) (p : Option Y) → is_some o ≡ (true && is_some p) → count_of o ≡ count_of p
leap_open o p e = length-is-some o p e

named_some : (name : Option (List ℕ)) (what : Wanted) → option_map LogOf name ≡ Some what → 0 < length (leap_feeds name)
named_some None what e = absurd cc
named_some (Some name) what e = omega arith

module _ {L T : Type 0} (log_state : L → SourceState) (log_opening : L → ℕ) (state : T → LinkState) (opening : T → ℕ) (of : StationFields) (before mid now : OutsideState) (gear : Gear L T)
    (of_logs : vec_len gear.logs ≡ length gear.logs.items) (of_servers : vec_len gear.servers ≡ length gear.servers.items) (of_links : vec_len gear.links ≡ length gear.links.items) where
  abbrev numbers : List ℕ
  numbers = numbers_of log_opening opening gear

  abbrev states : List State
  states = states_of log_state state gear

  numbers-length : length numbers ≡ vec_len gear.logs + (count_of gear.leap + (vec_len gear.servers + vec_len gear.links))
  numbers-length = omega (
    arith,
    of_logs,
    of_servers,
    of_links,
    length-append (map log_opening gear.logs.items) (map log_opening (option_to_list gear.leap) ++ (map opening gear.servers.items ++ map opening gear.links.items)),
    length-append (map log_opening (option_to_list gear.leap)) (map opening gear.servers.items ++ map opening gear.links.items),
    length-map (option_to_list gear.leap) log_opening,
    length-append (map opening gear.servers.items) (map opening gear.links.items),
    length-map gear.logs.items log_opening,
    length-map gear.servers.items opening,
    length-map gear.links.items opening,
  )

  missing_at : (missing : Missing) (what : Wanted) (place : ℕ) → place ≡ length numbers → StopsAt of missing numbers states before mid → IsUpTo of missing gear → subject_of of missing ≡ subject_at of place
  missing_at (missing.Feed number) what place is stops up =
      let lt = within (logs_needed of ++ servers_needed of) number stops.what stops.named in
      let less : number < length of.radios + length of.servers =
      omega (arith, lt, length-append (logs_needed of) (servers_needed of), length-map of.radios (λ radio. LogOf radio.log), length-map of.servers (λ server. Wanted.LinkAt 0 of.top.start)) in
      by (nat_le (length of.radios) number) refl less
    where
      by : (b : Bool) → nat_le (length of.radios) number ≡ b → number < length of.radios + length of.servers → Feed number ≡ subject_at of place
      by false below less =
          let none = no_leap_open gear.leap of.leap_file (up.1 ∙ ap (λ b. b && is_some of.leap_file) below) in
          let lt : number < length of.radios = grind (arith, nat_tests) in
          let logs = up.0 in
          let servers = up.2 in
          let links = up.3 in
          let size = numbers-length in
          radio_at (length of.radios) (length (leap_feeds of.leap_file)) (length of.servers) number place (omega (arith, is, size, none, lt, logs, servers, links)) lt
      by true above less =
          let opened = leap_open gear.leap of.leap_file (up.1 ∙ ap (λ b. b && is_some of.leap_file) above) in
          let ge : length of.radios ≤ number = grind (arith, nat_tests) in
          let logs = up.0 in
          let servers = up.2 in
          let links = up.3 in
          let size = numbers-length in
          server_at (length of.radios) (length (leap_feeds of.leap_file)) (length of.servers) number place (omega (arith, is, size, opened, ge, logs, servers, links, leap_feeds-length of.leap_file)) ge less
  missing_at missing.LeapFile what place is stops up =
      let logs = up.0 in
      let none : count_of gear.leap ≡ 0 = ap count_of up.1 in
      let servers = up.2 in
      let links = up.3 in
      let size = numbers-length in
      leap_at (length of.radios) (length (leap_feeds of.leap_file)) (length of.servers) place (omega (arith, is, size, none, logs, servers, links)) (named_some of.leap_file stops.what stops.named)
  missing_at (missing.Link number) what place is stops up =
      let logs = up.0 in
      let opened = length-is-some gear.leap of.leap_file up.1 in
      let servers = up.2 in
      let links = up.3 in
      let size = numbers-length in
      link_at (length of.radios) (length (leap_feeds of.leap_file)) (length of.servers) number place (omega (arith, is, size, opened, logs, servers, links, leap_feeds-length of.leap_file))

  -- what was opened is given back as it was
  unused : (due : Ending) (failing : Option Wanted) (held : HoldsOpenings (wanted_by of) numbers states before mid failing) → GivesAllBack mid now numbers states → LacksOne of (length held.outs) failing due → CannotServe of before now due
  unused due failing held gives cause =
      let sizes = gear_sizes log_opening opening log_state state gear in
      let count : length states ≡ length held.outs = sizes ∙ held.count in
      record {
        visits = returned held.outs states;
        failing = failing;
        opens = all_visited (wanted_by of) numbers numbers states before mid failing held refl states now sizes gives;
        unused = returned-unused held.outs states held.reported;
        cause = subst (λ n. LacksOne of n failing due) (sym (returned-length held.outs states count)) cause;
      }

  pub cannot_open : (missing : Missing) → StopsAt of missing numbers states before mid → IsUpTo of missing gear → GivesAllBack mid now numbers states → CannotServe of before now (NotOpened (subject_of of missing))
  cannot_open missing stops up gives = unused (NotOpened (subject_of of missing)) (Some stops.what) stops.openings gives (ap NotOpened (missing_at missing stops.what (length stops.openings.outs) (sym stops.openings.count) stops up))

  pub lacks_memory : (due : Ending) → OpensAll (wanted_by of) numbers states before mid → GivesUnused (sights_of (seen log_state log_opening) (seen state opening)) gear mid now due → CannotServe of before now due
  lacks_memory due opens gives = unused due None opens.openings gives.gives gives.memory

pub never_opened : (of : StationFields) (outside : OutsideState) → CannotServe of outside outside NoMemory
never_opened of outside = record {
  visits = [];
  failing = None;
  opens = record { later = wanted_by of; in_order = refl; noted = GrowsBy-none outside; faults = refl };
  unused = All-nil IsUnused;
  cause = refl;
}

-- ---- what was served

any_map : {X : Type 0} (f : X → Bool) (xs : List X) → list_any is_so (map f xs) ≡ list_any f xs
any_map f [] = refl
any_map f (x ∷ xs) = ap (λ b. f x || b) (any_map f xs)

any_of_three : {X Y Z : Type 0} (f : X → Bool) (g : Y → Bool) (h : Z → Bool) (xs : List X) (ys : List Y) (zs : List Z) →
    list_any is_so (map f xs ++ map g ys ++ map h zs) ≡ (list_any f xs || list_any g ys || list_any h zs)
any_of_three f g h xs ys zs = list_any-append is_so (map f xs ++ map g ys) (map h zs)
    ∙ ap (λ b. b || list_any is_so (map h zs)) (list_any-append is_so (map f xs) (map g ys) ∙ ap (λ b. b || list_any is_so (map g ys)) (any_map f xs) ∙ ap (λ b. list_any f xs || b) (any_map g ys))
    ∙ ap (λ b. (list_any f xs || list_any g ys) || b) (any_map h zs)

by_ends : {X E : Type 0} (cause : ℕ → E → Option Ending) (end : X → E) (place : ℕ) (xs : List X) → each_cause (λ n x. cause n (end x)) place xs ≡ each_cause cause place (map end xs)
by_ends cause end place [] = refl
by_ends cause end place (x ∷ xs) = ap (λ l. option_to_list (cause place (end x)) ++ l) (by_ends cause end (suc place) xs)

same_causes : {X Y E : Type 0} (cause : ℕ → E → Option Ending) (end : X → E) (other : Y → E) (place : ℕ) (xs : List X) (ys : List Y) → map end xs ≡ map other ys →
    each_cause (λ n x. cause n (end x)) place xs ≡ each_cause (λ n y. cause n (other y)) place ys
same_causes cause end other place xs ys same = by_ends cause end place xs ∙ ap (each_cause cause place) same ∙ sym (by_ends cause other place ys)

four : {X : Type 0} (a b c d x y z w : List X) → a ≡ x → b ≡ y → c ≡ z → d ≡ w → a ++ (b ++ (c ++ d)) ≡ x ++ (y ++ (z ++ w))
four a b c d x y z w p q r s = ap (λ l. l ++ (b ++ (c ++ d))) p ∙ ap (λ l. x ++ (l ++ (c ++ d))) q ∙ ap (λ l. x ++ (y ++ (l ++ d))) r ∙ ap (λ l. x ++ (y ++ (z ++ l))) s

same_size : {X : Type 0} (f : X → ℕ) (xs ys : List X) → map f xs ≡ map f ys → length xs ≡ length ys
same_size f xs ys same = sym (length-map xs f) ∙ ap (λ (l : List ℕ). length l) same ∙ length-map ys f

module _ {L T : Type 0} (log_state : L → SourceState) (log_opening : L → ℕ) (state : T → LinkState) (opening : T → ℕ) (of : StationFields) (orders : Orders) (gear : Gear L T)
    (logs_open : length gear.logs.items ≡ length of.radios) (list_open : is_some gear.leap ≡ is_some of.leap_file) (servers_open : length gear.servers.items ≡ length of.servers) (links_open : length gear.links.items ≡ length of.links)
    (done : Done) (last : Gear L T) (left : LeavesAll (sights_of (seen log_state log_opening) (seen state opening)) of orders gear done last) where
  abbrev pub journal : List Entry
  journal = done.journal.entries

  pub radios_run : LogsRun log_state orders.limit journal of.radios 0 gear.logs.items last.logs.items done.work.radios.items
  radios_run =
      let r = left.radios_served in
      logs_run log_state orders.limit journal of.radios 0 gear.logs.items last.logs.items done.work.radios.items logs_open (same_size log_opening _ _ r.openings) r.count
      r.at

  pub servers_run : PollsRun state orders.limit journal of.servers (length of.radios) gear.servers.items last.servers.items done.work.servers.items
  servers_run =
      let r = left.servers_served in
      polls_run state orders.limit journal of.servers (length of.radios) gear.servers.items last.servers.items done.work.servers.items servers_open (same_size opening _ _ r.openings) r.count r.at

  pub leap_run : LeapsRun log_state log_opening orders.limit journal of.top.start (leap_feed of) gear.leap last.leap done.work.leap
  leap_run = leaps_run log_state log_opening orders.limit journal of.top.start (leap_feed of) gear.leap last.leap done.work.leap left.leap_served

  pub clients_run : LinksRun state of journal orders.budget.during orders.budget.after 0 gear.links.items last.links.items done.work.links.items
  clients_run =
      let r = left.links_served in
      links_run state of journal orders.budget.during orders.budget.after 0 gear.links.items last.links.items done.work.links.items (same_size opening _ _ r.openings) r.count r.at

  abbrev pub run : StationRun
  run = record { radios = radios_run.runs; leap = leap_run.run; servers = servers_run.runs; links = clients_run.runs; journal = journal }

  abbrev fulls : List Bool
  fulls = map (λ (w : LogWork). w.full) done.work.radios.items ++ map (λ (w : PollWork). w.full) done.work.servers.items ++ map (λ (w : LogWork). w.full) (option_to_list done.work.leap)

  server_dues-length : (feed : ℕ) (servers : List ServerFields) (polls : List PollRun) → length polls ≡ length servers → length (server_dues feed servers polls) ≡ length servers
  server_dues-length feed [] [] n = refl
  server_dues-length feed [] (poll ∷ polls) n = refl
  server_dues-length feed (server ∷ servers) [] n = absurd (omega (arith, n))
  server_dues-length feed (server ∷ servers) (poll ∷ polls) n = ap suc (server_dues-length (suc feed) servers polls (omega (arith, n)))

  have_due : HaveDue orders.limit journal 0 fulls (dues of run)
  have_due =
      let radios : List (List Entry) = radio_dues 0 of.radios radios_run.runs in
      let servers : List (List Entry) = server_dues (length of.radios) of.servers servers_run.runs in
      let first = radio_dues-length 0 of.radios radios_run.runs radios_run.each in
      let next = server_dues-length (length of.radios) of.servers servers_run.runs (polled-length of.servers servers_run.runs servers_run.polled) in
      have_both orders.limit journal 0 (leap_feed of) _ _ (radios ++ servers) (leap_dues (leap_feed of) of.top.start leap_run.run) (omega (arith, first, next, length-append radios servers))
      (have_both orders.limit journal 0 (length of.radios) _ _ radios servers (omega (arith, first)) radios_run.due servers_run.due) leap_run.due

  sources : length (settings_of of).sources ≡ length (dues of run)
  sources = omega (
    arith,
    length-append (map kind_of_radio of.radios ++ map kind_of_server of.servers) (leap_feeds of.leap_file),
    length-append (map kind_of_radio of.radios) (map kind_of_server of.servers),
    leap_feeds-length of.leap_file,
    length-is-some leap_run.run of.leap_file (leap_run.there ∙ list_open),
    leap_dues-length (leap_feed of) of.top.start leap_run.run,
    length-map of.radios kind_of_radio,
    length-map of.servers kind_of_server,
    length-append (radio_dues 0 of.radios radios_run.runs ++ server_dues (length of.radios) of.servers servers_run.runs) (leap_dues (leap_feed of) of.top.start leap_run.run),
    length-append (radio_dues 0 of.radios radios_run.runs) (server_dues (length of.radios) of.servers servers_run.runs),
    radio_dues-length 0 of.radios radios_run.runs radios_run.each,
    server_dues-length (length of.radios) of.servers servers_run.runs (polled-length of.servers servers_run.runs servers_run.polled),
  )

  counted : length journal ≡ sum_by (λ feed. length (of_feed feed journal)) (range_with_len 0 (length (dues of run)))
  counted = feeds-counted (settings_of of) journal left.of_station.valid ∙ ap (λ n. sum_by (λ feed. length (of_feed feed journal)) (range_with_len 0 n)) sources

  pub entries : HasDueEntries of orders.limit run
  entries = record {
    whole = λ le feed due at. let same : feed ≡ 0 + feed = omega arith in
        ap (λ n. of_feed n journal) same ∙ wholes orders.limit journal 0 fulls (dues of run) have_due (none_lost orders.limit journal fulls (dues of run) have_due left.of_station.within counted le) feed due at;
    beginning = λ feed due at. let same : 0 + feed ≡ feed = omega arith in
        subst (λ n. IsPrefix (of_feed n journal) due) same (beginnings orders.limit journal 0 fulls (dues of run) have_due feed due at);
    count = is_counted orders.limit journal fulls (dues of run) have_due left.of_station.within counted;
    valid = left.of_station.valid;
  }

  any_is : any_full done.work.radios.items done.work.servers.items done.work.leap ≡ list_any is_so fulls
  any_is = sym (any_of_three (λ (w : LogWork). w.full) (λ (w : PollWork). w.full) (λ (w : LogWork). w.full) done.work.radios.items done.work.servers.items (option_to_list done.work.leap))

  pub causes_same : causes_left orders.limit done ≡ causes of orders.limit run
  causes_same =
      let radios = same_causes log_cause (λ (w : LogWork). w.end) (λ (log : LogRun). log.end) 0 done.work.radios.items radios_run.runs (sym radios_run.ends_are) in
      let servers = same_causes poll_cause (λ (w : PollWork). w.end) (λ (poll : PollRun). poll.end) (length of.radios) done.work.servers.items servers_run.runs (sym servers_run.ends_are) in
      let listed = same_causes log_cause (λ (w : LogWork). w.end) (λ (leap : LeapRun). leap.end) (leap_feed of) (option_to_list done.work.leap) (option_to_list leap_run.run) (sym leap_run.ends_are) in
      let clients = same_causes link_cause end_of (λ (link : LinkRun). link.end) 0 done.work.links.items clients_run.runs (sym clients_run.ends_are) in
      let first : length done.work.radios.items ≡ length of.radios = left.radios_served.count ∙ logs_open in
      let next : length done.work.servers.items ≡ length of.servers = left.servers_served.count ∙ servers_open in
      let later : length done.work.radios.items + length done.work.servers.items ≡ leap_feed of = omega (arith, first, next) in
      let full = ap (λ b. option_to_list (full_cause orders.limit b)) (any_is ∙ sym (is_lost orders.limit journal fulls (dues of run) have_due left.of_station.within counted)) in
      four _ _ _ _ _ _ _ _ radios (ap (λ n. each_cause (λ feed (w : PollWork). poll_cause feed w.end) n done.work.servers.items) first ∙ servers)
      (ap (λ n. each_cause (λ feed (w : LogWork). log_cause feed w.end) n (option_to_list done.work.leap)) later ∙ listed)
      (ap (λ l. l ++ option_to_list (full_cause orders.limit (any_full done.work.radios.items done.work.servers.items done.work.leap))) clients ∙ ap (λ l. each_cause (λ n (link : LinkRun). link_cause n link.end) 0 clients_run.runs ++ l) full)

  pub each_left : HasEach of done
  each_left = record {
    of_radios = left.radios_served.count ∙ logs_open;
    of_servers = left.servers_served.count ∙ servers_open;
    of_links = left.links_served.count ∙ links_open;
  }

  pub serves_all : (before mid now : OutsideState) → GivesAllBack mid now (numbers_of log_opening opening last) (states_of log_state state last) →
      OpensAll (wanted_by of) (numbers_of log_opening opening gear) (states_of log_state state gear) before mid → ServesAll of orders before now done
  serves_all before mid now gives opens =
      let held = opens.openings in
      let states_now = states_of log_state state last in
      let same = same_numbers _ _ _ _ _ _ _ _ left.radios_served.openings leap_run.openings left.servers_served.openings left.links_served.openings in
      let sizes = gear_sizes log_opening opening log_state state last in
      let count : length states_now ≡ length held.outs = sizes ∙ ap (λ (l : List ℕ). length l) same ∙ held.count in
      record {
        run = run;
        visits = returned held.outs states_now;
        opens = all_visited (wanted_by of) _ _ _ before mid None held same states_now now sizes gives;
        opened_are = returned-opened held.outs states_now count ∙ sym held.reported ∙ sym (four _ _ _ _ _ _ _ _ radios_run.opened_are leap_run.opened_are servers_run.opened_are clients_run.opened_are);
        back_are = returned-back held.outs states_now count ∙ sym (four _ _ _ _ _ _ _ _ radios_run.back_are leap_run.back_are servers_run.back_are clients_run.back_are);
        entries = entries;
        logs = record { each = radios_run.each; read = radios_run.read; leap = leap_run.there ∙ list_open; leap_read = leap_run.read };
        polls = record { each = servers_run.polled };
        clients = record { each = clients_run.each ∙ links_open; served = clients_run.answered };
        left = record {
          settings_are = left.of_station.settings_are;
          entries_are = refl;
          causes_are = causes_same;
          lines_are = clients_run.lines_are;
          each = each_left;
        };
      }

-- whichever it was: the station was served, or no memory was found
module _ {L T : Type 0} (log_state : L → SourceState) (log_opening : L → ℕ) (state : T → LinkState) (opening : T → ℕ) (of : StationFields) (orders : Orders) (before mid now : OutsideState) (gear : Gear L T)
    (of_logs : vec_len gear.logs ≡ length gear.logs.items) (of_servers : vec_len gear.servers ≡ length gear.servers.items) (of_links : vec_len gear.links ≡ length gear.links.items) (whole : IsWhole of gear)
    (opens : OpensAll (wanted_by of) (numbers_of log_opening opening gear) (states_of log_state state gear) before mid) where
  pub tries_serve : (result : Result Done Ending) →
      MatchResult result (λ done. GivesServed (sights_of (seen log_state log_opening) (seen state opening)) (LeavesAll (sights_of (seen log_state log_opening) (seen state opening)) of orders gear done) mid now) (λ due. GivesUnused (sights_of (seen log_state log_opening) (seen state opening)) gear mid now due) → TriesServe of orders before now result
  tries_serve (Ok done) g =
      serves_all log_state log_opening state opening of orders gear (sym of_logs ∙ whole.logs) whole.leap (sym of_servers ∙ whole.servers) (sym of_links ∙ whole.links) done g.now g.left before mid now g.gives opens
  tries_serve (Err due) g = lacks_memory log_state log_opening state opening of before mid now gear of_logs of_servers of_links due opens g

-- ---- the station, and then all of it

module _ (name : List ℕ) (orders : Orders) (outside mid now : OutsideState) (out out_now : SinkState) (result : Status) where
  pub ends_at_station : (end : FileEnd) (bytes : List ℕ) (due : Obstacle) → OpensStation name outside now end bytes → IsObstacle end bytes due →
      Answers (status_at due) result out out_now (line_at due) → RunsServe name orders (effect_of outside now out out_now result)
  ends_at_station end bytes due h cause answers = inr (inl (record {
    opened = h.opened;
    back = h.back;
    opens = h.opens;
    end = end;
    bytes = bytes;
    read = h.read;
    due = due;
    cause = cause;
    written = answers;
  }))

  pub ends_unserved : (of : StationFields) (bytes : List ℕ) (due : Ending) → OpensStation name outside mid Whole bytes → Says bytes of → CannotServe of mid now due →
      Answers (status_of due) result out out_now (status_line due) → RunsServe name orders (effect_of outside now out out_now result)
  ends_unserved of bytes due h says lacks answers = inr (inr (inl (record {
    of = of;
    opened = h.opened;
    back = h.back;
    station = record { bytes = bytes; read = h.read; says = says };
    visits = lacks.visits;
    failing = lacks.failing;
    opens = visited_before (wanted_by of) outside mid now (log_visit name h.opened h.back) lacks.visits lacks.failing h.opens lacks.opens;
    unused = lacks.unused;
    due = due;
    cause = lacks.cause;
    written = answers;
  })))

text_same : (of : StationFields) (limit : ℕ) (run : StationRun) (done : Done) → IsLeftOf of limit run done → lines_left done ≡ served_text of run
text_same of limit run done left =
    ap (λ s. journal_text s done.journal.entries ++ (each_text line_of_work 0 done.work.links.items ++ page_text (page_of s done.journal.entries))) left.settings_are
    ∙ ap (λ j. journal_text (settings_of of) j ++ (each_text line_of_work 0 done.work.links.items ++ page_text (page_of (settings_of of) j))) left.entries_are
    ∙ ap (λ l. journal_text (settings_of of) run.journal ++ (l ++ page_text (page_of (settings_of of) run.journal))) left.lines_are

pub ends_served : (name : List ℕ) (orders : Orders) (outside mid now : OutsideState) (out out_now : SinkState) (result : Status) (of : StationFields) (bytes : List ℕ) (done : Done) →
    OpensStation name outside mid Whole bytes → Says bytes of → ServesAll of orders mid now done → FinishesDone orders.limit done out out_now result →
    RunsServe name orders (effect_of outside now out out_now result)
ends_served name orders outside mid now out out_now result of bytes done h says served finishes = inr (inr (inr (record {
  of = of;
  opened = h.opened;
  back = h.back;
  station = record { bytes = bytes; read = h.read; says = says };
  run = served.run;
  visits = served.visits;
  opens = visited_before (wanted_by of) outside mid now (log_visit name h.opened h.back) served.visits None h.opens served.opens;
  opened_are = served.opened_are;
  back_are = served.back_are;
  served = record {
    entries = served.entries;
    logs = served.logs;
    polls = served.polls;
    clients = served.clients;
    due = finishes.due;
    text = record { written = subst (λ t. Answers (status_of finishes.due) result out out_now (t ++ status_line finishes.due)) (text_same of orders.limit served.run done served.left) finishes.written };
    cause = subst (λ all. IsReported all finishes.due) served.left.causes_are finishes.cause;
  };
})))
