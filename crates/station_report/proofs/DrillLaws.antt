-- A drill: the logs of a day are read whole, and what its journal says is reported of the day's entries one feed after the other.
use Rattle.std.proofs.Common.{◌≡◌, ℕ, zero, suc, ◌+◌, ◌≤◌, ◌==◌, Bool, true, false, Option, None, Some, List, [], ◌∷◌, ◌++◌, length, map, refl, sym, ap, ◌∙◌, subst, inl, inr, arith}
use Rattle.std.specs.Prelude.{All, IsSome, is_some, min, nat_lt, slice_get, if◌then◌else◌}
use Rattle.std.specs.List.{sum_by}
use Rattle.std.specs.Option.{option_to_list}
use Rattle.std.proofs.lemmas.Bool.{le-ltb, ne_eqb}
use Rattle.std.proofs.lemmas.Bool.Decides.{nat_tests}
use Rattle.std.proofs.lemmas.List.{append-nil, length-append, length-map}
use Rattle.std.proofs.lemmas.List.Elements.{All-append, All-cons, All-head, All-nil, All-tail, filter-append}
use Rattle.outside_traits.specs.Faults.{Rose}
use Rattle.memory_links.specs.Memory.{sure_state}
use Rattle.outside_traits.specs.Openings.{OutsideState}
use Rattle.outside_traits.specs.Openings.State.{OfLog}
use Rattle.outside_traits.specs.States.{LinkState, SinkState, SourceState}
use Rattle.memory_links.specs.declared.sure_source.SureSource.{SureSource}
use Rattle.file_reader.specs.declared.log_end.LogEnd.TheVariants as log
use Rattle.journal_entry.specs.declared.entry.Entry.{Entry}
use Rattle.drill_day.specs.Orders.{KeepsFeeds, NamesNoLeap, leap_named}
use Rattle.drill_day.proofs.OrderLaws.{page-kept}
use Rattle.radio_receiver.specs.Due.{entry_of}
use Rattle.page_cell.specs.Claims.{of_feed}
use Rattle.drill_day.specs.Day.{day_due, day_log, day_logs, source_of}
use Rattle.station_values.specs.Station.{RadioFields, one_of_each, settings_of}
use Rattle.station_gear.specs.Gears.{log_states}
use Rattle.station_gear.specs.declared.gear.Gear.{Gear}
use Rattle.system_fold.specs.Page.{page_of}
use Rattle.system_fold.specs.Settings.{IsKept}
use Rattle.tick_units.specs.Log.{bad_at_end, pulses}
use Rattle.tick_units.specs.declared.marks.Plan.TheVariants.{Dcf, Msf, Wwvb}
use Rattle.tick_units.specs.declared.verdicts.Heard.{Heard}
use Rattle.radio_receiver.specs.Histories.{answers_of}
use Rattle.feed_workers.specs.Served.{seen, sights_of}
use Rattle.station_report.specs.Crewing.{LeavesAll, causes_left}
use Rattle.line_files.specs.GoodLogs.{IsGoodLog}
use Rattle.station_report.specs.DrillScaffold.{FinishesDrill, HasDayGear, HasDrilled, feed_lines}
use Rattle.station_report.specs.Drilling.{Drills, day_journal, day_run, drill_text, feed_line, whole_run}
use Rattle.command_ends.specs.Endings.{status_line, status_of}
use Rattle.station_report.specs.Headline.{HasDueEntries, IsReported, LeapRun, LinkRun, LogRun, PollRun, StationRun, due_in_all, dues, each_cause, full_cause, leap_dues, link_cause, log_cause, poll_cause, radio_dues, server_dues}
use Rattle.station_report.specs.Serving.{IsGoodLogRun}
use Rattle.command_ends.specs.Text.{page_text}
use Rattle.command_ends.specs.Effects.{effect_of}
use Rattle.command_ends.specs.Writing.{Answers}
use Rattle.command_ends.specs.declared.ending.Ending.{Ending}
use Rattle.command_ends.specs.declared.ending.Ending.TheVariants.{Full, Whole}
use Rattle.command_ends.specs.declared.ending.status.Status.{Status}
use Rattle.station_report.specs.declared.done.Done.{Done}
use Rattle.feed_workers.specs.declared.crew.Orders.{Orders}
use Rattle.station_report.proofs.GoodStationLaws.{good_logs}
use Rattle.station_report.proofs.RunOfLaws.{LogsRun, polled-length}
use Rattle.station_report.proofs.ServingLaws as serving

-- ---- the logs are read whole

-- the runs of these texts that end as those do
abbrev whole_with : List (List ℕ) → List LogRun → List LogRun
whole_with [] runs = []
whole_with (text ∷ texts) [] = []
whole_with (text ∷ texts) (run ∷ runs) = record { opened = source_of text; back = run.back; bytes = text; end = log.Whole } ∷ whole_with texts runs

abbrev AreGood : List (List ℕ) → Type 0
AreGood [] = Unit {0}
AreGood (text ∷ texts) = (bad_at_end text ≡ None) × ((length text ≤ 3000000) × AreGood texts)

same_log : (a b : SourceState) → OfLog a ≡ OfLog b → a ≡ b
same_log a b e = cc

head_of : {X : Type 0} (x y : X) (xs ys : List X) → x ∷ xs ≡ y ∷ ys → x ≡ y
head_of x y xs ys e = cc

tail_of : {X : Type 0} (x y : X) (xs ys : List X) → x ∷ xs ≡ y ∷ ys → xs ≡ ys
tail_of x y xs ys e = cc

-- a source in memory has no fault
good_one : (text : List ℕ) (back : SourceState) (source : SureSource) → bad_at_end text ≡ None → length text ≤ 3000000 → back ≡ sure_state source → IsGoodLog (source_of text) back
good_one text back source good short is = record {
  text = text;
  reported = refl;
  reports = subst (λ s. IsSome s.left) (sym is) refl;
  no_fault = λ rose. none (subst (λ s. Rose 0 s.faults) is rose);
  lines = good;
  most = omega (arith, short);
}
  where
    none : Rose 0 0 → ⊥
    none rose = omega (arith, rose)

good_each : (texts : List (List ℕ)) (runs : List LogRun) (lasts : List SureSource) → AreGood texts → map (λ (r : LogRun). OfLog r.back) runs ≡ log_states sure_state lasts → All IsGoodLogRun (whole_with texts runs)
unfolding good_one
good_each [] runs lasts good e = All-nil IsGoodLogRun
good_each (text ∷ texts) [] lasts good e = All-nil IsGoodLogRun
good_each (text ∷ texts) (run ∷ runs) [] good e = absurd cc
good_each (text ∷ texts) (run ∷ runs) (b ∷ lasts) good e =
    let is = same_log run.back (sure_state b) (head_of _ _ _ _ e) in
    All-cons IsGoodLogRun _ _ (record { good = good_one text run.back b good.0 good.1.0 is; bytes_are = refl }) (good_each texts runs lasts good.1.1 (tail_of _ _ _ _ e))

opened_with : (texts : List (List ℕ)) (runs : List LogRun) → length runs ≡ length texts → map (λ (r : LogRun). OfLog r.opened) (whole_with texts runs) ≡ map (λ text. OfLog (source_of text)) texts
opened_with [] runs n = refl
opened_with (text ∷ texts) [] n = absurd (omega (arith, n))
opened_with (text ∷ texts) (run ∷ runs) n = ap (λ l. OfLog (source_of text) ∷ l) (opened_with texts runs (omega (arith, n)))

back_with : (texts : List (List ℕ)) (runs : List LogRun) → length runs ≡ length texts → map (λ (r : LogRun). OfLog r.back) runs ≡ map (λ (r : LogRun). OfLog r.back) (whole_with texts runs)
back_with [] [] n = refl
back_with [] (run ∷ runs) n = absurd (omega (arith, n))
back_with (text ∷ texts) [] n = absurd (omega (arith, n))
back_with (text ∷ texts) (run ∷ runs) n = ap (λ l. OfLog run.back ∷ l) (back_with texts runs (omega (arith, n)))

dues_with : (feed : ℕ) (radios : List RadioFields) (texts : List (List ℕ)) (runs : List LogRun) → length runs ≡ length texts → radio_dues feed radios (whole_with texts runs) ≡ radio_dues feed radios (map whole_run texts)
dues_with feed [] texts runs n = refl
dues_with feed (radio ∷ radios) [] runs n = refl
dues_with feed (radio ∷ radios) (text ∷ texts) [] n = absurd (omega (arith, n))
dues_with feed (radio ∷ radios) (text ∷ texts) (run ∷ runs) n = ap (λ l. Rattle.radio_receiver.specs.Due.due_log feed radio.plan radio.delay text ∷ l) (dues_with (suc feed) radios texts runs (omega (arith, n)))

opened_states : (texts : List (List ℕ)) (logs : List SureSource) → map sure_state logs ≡ map source_of texts → log_states sure_state logs ≡ map (λ text. OfLog (source_of text)) texts
opened_states [] [] e = refl
opened_states [] (x ∷ logs) e = absurd cc
opened_states (text ∷ texts) [] e = absurd cc
opened_states (text ∷ texts) (x ∷ logs) e = ap (λ s. OfLog s ∷ log_states sure_state logs) (head_of _ _ _ _ e) ∙ ap (λ l. OfLog (source_of text) ∷ l) (opened_states texts logs (tail_of _ _ _ _ e))

none_of : {X : Type 0} (xs : List X) → length xs ≡ 0 → xs ≡ []
none_of [] n = refl
none_of (x ∷ xs) n = absurd (omega (arith, n))

none_there : {X : Type 0} (o : Option X) → is_some o ≡ false → o ≡ None
none_there None e = refl
none_there (Some x) e = absurd cc

abbrev list_causes : Option LeapRun → List Ending
list_causes o = each_cause (λ feed (leap : LeapRun). log_cause feed leap.end) 3 (option_to_list o)

module _ {T : Type 0} (log_opening : SureSource → ℕ) (state : T → LinkState) (opening : T → ℕ) (orders : Orders) (seed : ℕ) (gear : Gear SureSource T) (done : Done) (last : Gear SureSource T)
    (day : HasDayGear seed gear) (left : LeavesAll (sights_of (seen sure_state log_opening) (seen state opening)) one_of_each orders gear done last) where
  logs_open : length gear.logs.items ≡ 3
  logs_open = sym (length-map gear.logs.items sure_state) ∙ ap (λ (l : List SourceState). length l) day.logs

  list_open : is_some gear.leap ≡ false
  list_open = ap (λ (o : Option SureSource). is_some o) day.no_leap

  servers_open : length gear.servers.items ≡ 0
  servers_open = ap (λ (l : List T). length l) day.no_server

  links_open : length gear.links.items ≡ 0
  links_open = ap (λ (l : List T). length l) day.no_link

  abbrev station_run : StationRun
  station_run = serving.run sure_state log_opening state opening one_of_each orders gear logs_open list_open servers_open links_open done last left

  abbrev texts : List (List ℕ)
  texts = day_logs seed

  abbrev logs_ran : LogsRun sure_state orders.limit done.journal.entries one_of_each.radios 0 gear.logs.items last.logs.items done.work.radios.items
  logs_ran = serving.radios_run sure_state log_opening state opening one_of_each orders gear logs_open list_open servers_open links_open done last left

  texts_good : AreGood texts
  texts_good = ((day.days 0 Dcf).good, ((day.days 0 Dcf).short, ((day.days 1 Msf).good, ((day.days 1 Msf).short, ((day.days 2 Wwvb).good, ((day.days 2 Wwvb).short, tt))))))

  no_polls : station_run.servers ≡ []
  no_polls = none_of station_run.servers (polled-length one_of_each.servers station_run.servers (serving.servers_run sure_state log_opening state opening one_of_each orders gear logs_open list_open servers_open links_open done last left).polled)

  no_list : station_run.leap ≡ None
  no_list = none_there station_run.leap ((serving.leap_run sure_state log_opening state opening one_of_each orders gear logs_open list_open servers_open links_open done last left).there ∙ list_open)

  no_clients : station_run.links ≡ []
  no_clients = none_of station_run.links ((serving.clients_run sure_state log_opening state opening one_of_each orders gear logs_open list_open servers_open links_open done last left).each ∙ links_open)

  read_whole : (each_cause (λ n (r : LogRun). log_cause n r.end) 0 logs_ran.runs ≡ []) × (radio_dues 0 one_of_each.radios logs_ran.runs ≡ radio_dues 0 one_of_each.radios (whole_with texts logs_ran.runs))
  read_whole = good_logs 0 one_of_each.radios logs_ran.runs (whole_with texts logs_ran.runs) logs_ran.read (good_each texts logs_ran.runs last.logs.items texts_good logs_ran.back_are)
      (logs_ran.opened_are ∙ opened_states texts gear.logs.items day.logs ∙ sym (opened_with texts logs_ran.runs logs_ran.each)) (back_with texts logs_ran.runs logs_ran.each)

  no_servers : (polls : List PollRun) → server_dues 3 one_of_each.servers polls ≡ []
  no_servers [] = refl
  no_servers (poll ∷ polls) = refl

  dues_same : dues one_of_each station_run ≡ dues one_of_each (day_run seed done.journal.entries)
  dues_same = ap (λ l. l ++ server_dues 3 one_of_each.servers station_run.servers ++ leap_dues 3 0 station_run.leap) (read_whole.1 ∙ dues_with 0 one_of_each.radios texts logs_ran.runs logs_ran.each)
      ∙ ap (λ l. radio_dues 0 one_of_each.radios (map whole_run texts) ++ l ++ leap_dues 3 0 station_run.leap) (no_servers station_run.servers)
      ∙ ap (λ o. radio_dues 0 one_of_each.radios (map whole_run texts) ++ [] ++ leap_dues 3 0 o) no_list

  ran : HasDueEntries one_of_each orders.limit station_run
  ran = serving.entries sure_state log_opening state opening one_of_each orders gear logs_open list_open servers_open links_open done last left

  has_due : HasDueEntries one_of_each orders.limit (day_run seed done.journal.entries)
  has_due = record {
    whole = λ le feed due at. ran.whole (subst (λ (l : List (List Entry)). sum_by (λ (d : List Entry). length d) l ≤ orders.limit) (sym dues_same) le) feed due (subst (λ (l : List (List Entry)). slice_get l feed ≡ Some due) (sym dues_same) at);
    beginning = λ feed due at. ran.beginning feed due (subst (λ (l : List (List Entry)). slice_get l feed ≡ Some due) (sym dues_same) at);
    count = ran.count ∙ ap (λ (l : List (List Entry)). min (sum_by (λ (d : List Entry). length d) l) orders.limit) dues_same;
    valid = ran.valid;
  }

  causes_are : causes_left orders.limit done ≡ option_to_list (full_cause orders.limit (nat_lt orders.limit (due_in_all one_of_each (day_run seed done.journal.entries))))
  causes_are =
      let later : List Ending = option_to_list (full_cause orders.limit (nat_lt orders.limit (due_in_all one_of_each station_run))) in
      serving.causes_same sure_state log_opening state opening one_of_each orders gear logs_open list_open servers_open links_open done last left
      ∙ ap (λ l. l ++ (each_cause (λ feed (poll : PollRun). poll_cause feed poll.end) 3 station_run.servers ++ (list_causes station_run.leap ++ (each_cause (λ number (link : LinkRun). link_cause number link.end) 0 station_run.links ++ later)))) read_whole.0
      ∙ ap (λ (l : List PollRun). each_cause (λ feed (poll : PollRun). poll_cause feed poll.end) 3 l ++ (list_causes station_run.leap ++ (each_cause (λ number (link : LinkRun). link_cause number link.end) 0 station_run.links ++ later))) no_polls
      ∙ ap (λ o. list_causes o ++ (each_cause (λ number (link : LinkRun). link_cause number link.end) 0 station_run.links ++ later)) no_list
      ∙ ap (λ (l : List LinkRun). each_cause (λ number (link : LinkRun). link_cause number link.end) 0 l ++ later) no_clients
      ∙ ap (λ (l : List (List Entry)). option_to_list (full_cause orders.limit (nat_lt orders.limit (sum_by (λ (d : List Entry). length d) l)))) dues_same

  pub drilled : HasDrilled seed orders.limit done
  drilled = record {
    settings_are = left.of_station.settings_are;
    entries = has_due;
    causes_are = causes_are;
    each = serving.each_left sure_state log_opening state opening one_of_each orders gear logs_open list_open servers_open links_open done last left;
    days = day.days;
  }

-- ---- what is reported of a journal is reported of the day

feed_same : (feed : ℕ) (heard : List Heard) → of_feed feed (map (entry_of feed) heard) ≡ map (entry_of feed) heard
feed_same feed [] = refl
feed_same feed (h ∷ heard) =
    let same : (feed == feed) ≡ true = grind (arith, nat_tests) in
    rw same (ap (λ l. entry_of feed h ∷ l) (feed_same feed heard))

feed_other : (feed other : ℕ) (heard : List Heard) → (other == feed) ≡ false → of_feed feed (map (entry_of other) heard) ≡ []
feed_other feed other [] e = refl
feed_other feed other (h ∷ heard) e = rw e (feed_other feed other heard e)

abbrev first_heard : ℕ → List Heard
first_heard seed = answers_of (record { plan = Dcf; delay = 0; reductions = pulses (day_log Dcf seed) })

abbrev second_heard : ℕ → List Heard
second_heard seed = answers_of (record { plan = Msf; delay = 0; reductions = pulses (day_log Msf seed) })

abbrev third_heard : ℕ → List Heard
third_heard seed = answers_of (record { plan = Wwvb; delay = 0; reductions = pulses (day_log Wwvb seed) })

abbrev Named : Entry → Type 0
Named e = leap_named e.what ≡ 0

-- of three lists, one after the other
of_three : (feed : ℕ) (a b c : List Entry) → of_feed feed (a ++ (b ++ (c ++ []))) ≡ of_feed feed a ++ (of_feed feed b ++ of_feed feed c)
of_three feed a b c =
    ap (λ l. of_feed feed (a ++ (b ++ l))) (append-nil c)
    ∙ filter-append (λ (e : Entry). e.feed == feed) a (b ++ c)
    ∙ ap (λ l. of_feed feed a ++ l) (filter-append (λ (e : Entry). e.feed == feed) b c)

module _ (seed limit : ℕ) (done : Done) (h : HasDrilled seed limit done) (room : 4320 ≤ limit) where
  abbrev journal : List Entry
  journal = done.journal.entries

  in_all : due_in_all one_of_each (day_run seed journal) ≡ 4320
  in_all = omega (arith, (h.days 0 Dcf).count, (h.days 1 Msf).count, (h.days 2 Wwvb).count)

  fits : due_in_all one_of_each (day_run seed journal) ≤ limit
  fits = omega (arith, room, in_all)

  day_is : (feed : ℕ) (a b c : List Entry) → of_feed feed (day_due 0 Dcf seed) ≡ a → of_feed feed (day_due 1 Msf seed) ≡ b → of_feed feed (day_due 2 Wwvb seed) ≡ c → of_feed feed (day_journal seed) ≡ a ++ (b ++ c)
  day_is feed a b c p q r = of_three feed (day_due 0 Dcf seed) (day_due 1 Msf seed) (day_due 2 Wwvb seed) ∙ ap (λ l. l ++ (of_feed feed (day_due 1 Msf seed) ++ of_feed feed (day_due 2 Wwvb seed))) p
      ∙ ap (λ l. a ++ (l ++ of_feed feed (day_due 2 Wwvb seed))) q ∙ ap (λ l. a ++ (b ++ l)) r

  past_all : (feed : ℕ) (entries : List Entry) → 3 ≤ feed → All (IsKept 3) entries → of_feed feed entries ≡ []
  past_all feed [] far all = refl
  past_all feed (e ∷ entries) far all =
      let one = (All-head (IsKept 3) e entries all).valid.feed in
      let other : (e.feed == feed) ≡ false = ne_eqb e.feed feed (omega (arith, far, one)) in
      rw other (past_all feed entries far (All-tail (IsKept 3) e entries all))

  past_day : (more : ℕ) → of_feed (3 + more) (day_journal seed) ≡ []
  past_day more =
      let a : (0 == 3 + more) ≡ false = ne_eqb 0 (3 + more) (omega arith) in
      let b : (1 == 3 + more) ≡ false = ne_eqb 1 (3 + more) (omega arith) in
      let c : (2 == 3 + more) ≡ false = ne_eqb 2 (3 + more) (omega arith) in
      day_is (3 + more) [] [] [] (feed_other (3 + more) 0 (first_heard seed) a) (feed_other (3 + more) 1 (second_heard seed) b) (feed_other (3 + more) 2 (third_heard seed) c)

  keeps : KeepsFeeds (day_journal seed) journal
  keeps zero = day_is 0 (day_due 0 Dcf seed) [] [] (feed_same 0 (first_heard seed)) (feed_other 0 1 (second_heard seed) refl) (feed_other 0 2 (third_heard seed) refl) ∙ append-nil (day_due 0 Dcf seed) ∙ sym (h.entries.whole fits 0 (day_due 0 Dcf seed) refl)
  keeps (suc zero) = day_is 1 [] (day_due 1 Msf seed) [] (feed_other 1 0 (first_heard seed) refl) (feed_same 1 (second_heard seed)) (feed_other 1 2 (third_heard seed) refl) ∙ append-nil (day_due 1 Msf seed) ∙ sym (h.entries.whole fits 1 (day_due 1 Msf seed) refl)
  keeps (suc (suc zero)) = day_is 2 [] [] (day_due 2 Wwvb seed) (feed_other 2 0 (first_heard seed) refl) (feed_other 2 1 (second_heard seed) refl) (feed_same 2 (third_heard seed)) ∙ sym (h.entries.whole fits 2 (day_due 2 Wwvb seed) refl)
  keeps (suc (suc (suc more))) =
      let is : 3 + more ≡ suc (suc (suc more)) = omega arith in
      subst (λ n. of_feed n (day_journal seed) ≡ of_feed n journal) is (past_day more ∙ sym (past_all (3 + more) journal (omega arith) h.entries.valid))

  no_leap : NamesNoLeap (day_journal seed)
  no_leap = All-append Named _ _ (h.days 0 Dcf).no_leap (All-append Named _ _ (h.days 1 Msf).no_leap (All-append Named _ _ (h.days 2 Wwvb).no_leap (All-nil Named)))

  same_page : page_of (settings_of one_of_each) (day_journal seed) ≡ page_of (settings_of one_of_each) journal
  same_page = page-kept (settings_of one_of_each) (day_journal seed) journal no_leap keeps

  same_lines : feed_lines (day_journal seed) ≡ feed_lines journal
  same_lines = ap (λ l. feed_line 0 l ++ (feed_line 1 (of_feed 1 (day_journal seed)) ++ (feed_line 2 (of_feed 2 (day_journal seed)) ++ []))) (keeps 0)
      ∙ ap (λ l. feed_line 0 (of_feed 0 journal) ++ (feed_line 1 l ++ (feed_line 2 (of_feed 2 (day_journal seed)) ++ []))) (keeps 1)
      ∙ ap (λ l. feed_line 0 (of_feed 0 journal) ++ (feed_line 1 (of_feed 1 journal) ++ (feed_line 2 l ++ []))) (keeps 2)

  same_text : drill_text (day_journal seed) ≡ drill_text journal
  same_text = ap (λ l. l ++ page_text (page_of (settings_of one_of_each) (day_journal seed))) same_lines ∙ ap (λ p. feed_lines journal ++ page_text p) same_page

-- ---- the status

reported_none : (due : Ending) → IsReported [] due → due ≡ Whole
reported_none due (inl reported) = reported.1
reported_none due (inr first) =
    let size = ap (λ (l : List Ending). length l) first.is in
    absurd (omega (arith, size, length-append first.before (due ∷ first.later)))

reported_one : (cause due : Ending) → IsReported (cause ∷ []) due → due ≡ cause
reported_one cause due (inl reported) = absurd cc
reported_one cause due (inr first) = by first.before first.is
  where
    by : (before : List Ending) → cause ∷ [] ≡ before ++ due ∷ first.later → due ≡ cause
    by [] is = sym (head_of cause due [] first.later is)
    by (other ∷ before) is =
        let size = ap (λ (l : List Ending). length l) is in
        absurd (omega (arith, size, length-append before (due ∷ first.later)))

reported_full : (limit : ℕ) (full : Bool) (due : Ending) → IsReported (option_to_list (full_cause limit full)) due → due ≡ (if full then Full limit else Whole)
reported_full limit true due reported = reported_one (Full limit) due reported
reported_full limit false due reported = reported_none due reported

pub drills : (seed limit : ℕ) (done : Done) (outside outside_now : OutsideState) (out out_now : SinkState) (result : Status) → outside_now ≡ outside → HasDrilled seed limit done → FinishesDrill limit done out out_now result →
    Drills seed limit (effect_of outside outside_now out out_now result)
drills seed limit done outside outside_now out out_now result unchanged h reported =
    let journal = done.journal.entries in
    let total = due_in_all one_of_each (day_run seed journal) in
    let cause : reported.due ≡ (if nat_lt limit total then Full limit else Whole) = reported_full limit (nat_lt limit total) reported.due (subst (λ all. IsReported all reported.due) h.causes_are reported.cause) in
    let text : Answers (status_of reported.due) result out out_now (drill_text journal ++ status_line reported.due) =
    subst (λ s. Answers (status_of reported.due) result out out_now ((feed_lines journal ++ page_text (page_of s journal)) ++ status_line reported.due)) h.settings_are reported.written in
    record {
      unchanged = unchanged;
      journal = journal;
      entries = h.entries;
      due = reported.due;
      cause = cause;
      written = text;
      same = λ room.
          let less : nat_lt limit total ≡ false = le-ltb limit total (fits seed limit done h room) in
          let whole : reported.due ≡ Whole = cause ∙ ap (λ (b : Bool). if b then Full limit else Whole) less in
          subst (λ t. Answers (status_of Whole) result out out_now (t ++ status_line Whole)) (sym (same_text seed limit done h room))
          (subst (λ e. Answers (status_of e) result out out_now (drill_text journal ++ status_line e)) whole text);
    }
