-- A station without a fault is served to the end.
use Rattle.std.proofs.Common.{◌≡◌, ℕ, suc, ◌+◌, ◌≤◌, ◌⊎◌, inl, inr, Bool, true, false, Option, Some, None, List, [], ◌∷◌, ◌++◌, drop, length, map, refl, sym, ap, ◌∙◌, subst, arith, length-append, append_assoc}
use Rattle.std.specs.Prelude.{All, IfSome, get_or, is_some, nat_lt, slice_get}
use Rattle.std.specs.List.{sum_by}
use Rattle.std.specs.Option.{option_to_list}
use Rattle.std.proofs.lemmas.Bool.Decides.{nat_tests}
use Rattle.std.proofs.lemmas.List.{append-nil, append_cancel_left, length-map}
use Rattle.std.proofs.lemmas.List.Elements.{All-head, All-tail}
use Rattle.outside_traits.specs.Faults.{Rose}
use Rattle.outside_traits.specs.Openings.{Opening, State, Visit, Wanted, failed, log_visit, visited}
use Rattle.outside_traits.specs.Openings.State.{OfLog, OfLink}
use Rattle.outside_traits.specs.Openings.Wanted.{LogOf}
use Rattle.outside_traits.specs.States.{LinkState, NetEvent, SinkState, SourceState, Adds}
use Rattle.feed_workers.specs.Leaps.{EndsLeap, due_leap, most_of_a_list}
use Rattle.feed_workers.specs.Logs.{EndsLog}
use Rattle.radio_receiver.specs.Decoding.{most_of_a_log}
use Rattle.leap_file.specs.Rows.{bad_row}
use Rattle.leap_file.proofs.GrowthLaws.{bad_whole_is, stays_bad}
use Rattle.feed_workers.specs.Polling.{EndsPolls}
use Rattle.file_reader.specs.declared.log_end.LogEnd.{LogEnd}
use Rattle.file_reader.specs.declared.log_end.LogEnd.TheVariants as log
use Rattle.feed_workers.specs.declared.work.PollEnd.{PollEnd}
use Rattle.feed_workers.specs.declared.work.PollEnd.TheVariants as poll
use Rattle.file_reader.specs.Ends.{EndsReading}
use Rattle.file_reader.specs.declared.reader.FileEnd.{FileEnd}
use Rattle.file_reader.specs.declared.reader.FileEnd.TheVariants as file
use Rattle.journal_entry.specs.declared.entry.Entry.{Entry}
use Rattle.responder.specs.declared.served.End.{End}
use Rattle.responder.specs.declared.served.End.TheVariants.{Count, LinkEnd, LinkFault}
use Rattle.station_reader.specs.Faults.{Fault, Says, IsFirst, faults_of, Refuses as RefusesStation}
use Rattle.station_values.specs.Station.{RadioFields, ServerFields, StationFields, leap_feed}
use Rattle.station_reader.specs.declared.fault.StationFault.{StationFault}
use Rattle.station_reader.specs.declared.fault.StationFault.TheVariants as fault
use Rattle.feed_workers.specs.Lists.{Pairs}
use Rattle.feed_workers.proofs.ListLaws.{length-is-some}
use Rattle.line_files.specs.GoodLogs.{IsGoodLog}
use Rattle.command_ends.specs.Endings.{status_of}
use Rattle.station_report.specs.Headline.{EndsPhases, IsAnswered, IsPolled, IsReported, LeapRun, LinkRun, LogRun, PollRun, StationRun, causes, due_in_all, dues, each_cause, full_cause, leap_dues, link_cause, log_cause, poll_cause, radio_dues, server_dues}
use Rattle.feed_workers.specs.declared.crew.Orders.{Orders}
use Rattle.station_report.specs.Serving.{EndsUnserved, HasGoodStation, IsGoodLeapRun, IsGoodLink, IsGoodList, IsGoodLogRun, RunsServe, ServesStation, back_in, opened_in}
use Rattle.command_ends.specs.StationFile.{EndsAtStation, IsObstacle, IsStation, line_at, most_of_a_station, status_at}
use Rattle.command_ends.specs.Effects.{Effect}
use Rattle.command_ends.specs.Writing.{Answers}
use Rattle.command_ends.specs.declared.ending.Ending.{Ending}
use Rattle.command_ends.specs.declared.ending.Ending.TheVariants as ending
use Rattle.command_ends.specs.declared.ending.status.Status.{Status}
use Rattle.command_ends.specs.declared.ending.status.Status.TheVariants.{Done, Memory}
use Rattle.command_ends.specs.declared.station_file.obstacle.Obstacle.{Obstacle}
use Rattle.line_files.proofs.GoodLogLaws.{prefix_by, good_reach}
use Rattle.line_files.proofs.PrefixLaws.{prefix_of, none_left, rose_by_one, whole_text}
use Rattle.line_files.proofs.LineFileLaws.{read_station}
use Rattle.command_ends.proofs.OpeningLaws.{first_of, not_failed, rest_of, same_more, same_states}
use Rattle.line_files.proofs.EndLaws.{prefix_of_whole}
use Rattle.station_report.proofs.RunOfLaws.{polled-length}

-- where no write failed, the status is the one that is due
answered : (status result : Status) (out out_now : SinkState) (text : List ℕ) → Answers status result out out_now text → (Rose out.faults out_now.faults → ⊥) → result ≡ status
answered status result out out_now text h no_write = elim h [
  | inl all ↦ all.0
  | inr failed ↦ absurd (no_write (rose_by_one out.faults out_now.faults failed.1.3))
]

-- ---- visits that reported the same

state_of : (a b : State) → ◌≡◌ {A = Option State} (Some a) (Some b) → a ≡ b
state_of a b e = cc

same_visits : (xs ys : List Visit) → map visited xs ≡ map visited ys → (map (λ (v : Visit). v.opened) xs ≡ map (λ (v : Visit). v.opened) ys) × (map (λ (v : Visit). v.back) xs ≡ map (λ (v : Visit). v.back) ys)
same_visits [] [] e = (refl, refl)
same_visits [] (y ∷ ys) e = absurd cc
same_visits (x ∷ xs) [] e = absurd cc
same_visits (x ∷ xs) (y ∷ ys) e =
    let one = first_of (visited x) (visited y) (map visited xs) (map visited ys) e in
    let rest = same_visits xs ys (rest_of (visited x) (visited y) (map visited xs) (map visited ys) e) in
    let opened = state_of x.opened y.opened (ap (λ (o : Opening). o.opened) one) in
    let back = state_of x.back y.back (ap (λ (o : Opening). o.back) one) in
    (ap (λ s. s ∷ map (λ (v : Visit). v.opened) xs) opened ∙ ap (λ l. y.opened ∷ l) rest.0, ap (λ s. s ∷ map (λ (v : Visit). v.back) xs) back ∙ ap (λ l. y.back ∷ l) rest.1)

no_state : (s : State) → ◌≡◌ {A = Option State} None (Some s) → ⊥
no_state s e = cc

-- one that failed is among no visits
none_failed : (xs ys : List Visit) (what : Wanted) → map visited xs ++ failed what ∷ [] ≡ map visited ys → ⊥
none_failed [] [] what e = cc
none_failed [] (y ∷ ys) what e = no_state y.opened (ap (λ (o : Opening). o.opened) (first_of (failed what) (visited y) [] (map visited ys) e))
none_failed (x ∷ xs) [] what e = cc
none_failed (x ∷ xs) (y ∷ ys) what e = none_failed xs ys what (rest_of (visited x) (visited y) (map visited xs ++ failed what ∷ []) (map visited ys) e)

-- ---- logs and links, reported in a row

log_state : (a b : SourceState) → OfLog a ≡ OfLog b → a ≡ b
log_state a b e = cc

link_state : (a b : LinkState) → OfLink a ≡ OfLink b → a ≡ b
link_state a b e = cc

first_state : (s t : State) (ss ts : List State) → s ∷ ss ≡ t ∷ ts → s ≡ t
first_state s t ss ts e = cc

rest_states : (s t : State) (ss ts : List State) → s ∷ ss ≡ t ∷ ts → ss ≡ ts
rest_states s t ss ts e = cc

split_at : {X : Type 0} (prefix back other_prefix other_back : List X) → length prefix ≡ length other_prefix → prefix ++ back ≡ other_prefix ++ other_back → (prefix ≡ other_prefix) × (back ≡ other_back)
split_at [] back [] other_back n e = (refl, e)
split_at [] back (c ∷ other_prefix) other_back n e = absurd (omega (arith, n))
split_at (a ∷ prefix) back [] other_back n e = absurd (omega (arith, n))
split_at (a ∷ prefix) back (c ∷ other_prefix) other_back n e =
    let one : a ≡ c = ap (λ l. get_or l 0 a) e in
    let rest = split_at prefix back other_prefix other_back (omega (arith, n)) (ap (λ l. drop 1 l) e) in
    (ap (λ x. x ∷ prefix) one ∙ ap (λ l. c ∷ l) rest.0, rest.1)

-- how many logs are among them
abbrev count_logs : List State → ℕ
count_logs [] = 0
count_logs (OfLog s ∷ ss) = suc (count_logs ss)
count_logs (OfLink s ∷ ss) = count_logs ss

count_of_logs : {X : Type 0} (f : X → SourceState) (xs : List X) (ss : List State) → count_logs (map (λ x. OfLog (f x)) xs ++ ss) ≡ length xs + count_logs ss
count_of_logs f [] ss = omega arith
count_of_logs f (x ∷ xs) ss = let rest = count_of_logs f xs ss in omega (arith, rest)

count_of_links : {Y : Type 0} (f : Y → LinkState) (ys : List Y) (ss : List State) → count_logs (map (λ y. OfLink (f y)) ys ++ ss) ≡ count_logs ss
count_of_links f [] ss = refl
count_of_links f (y ∷ ys) ss = count_of_links f ys ss

no_log_of_links : {Y : Type 0} (f : Y → LinkState) (ys : List Y) → count_logs (map (λ y. OfLink (f y)) ys) ≡ 0
no_log_of_links f [] = refl
no_log_of_links f (y ∷ ys) = no_log_of_links f ys

abbrev list_opened : StationRun → List State
list_opened run = map (λ (r : LeapRun). OfLog r.opened) (option_to_list run.leap)

abbrev links_opened : StationRun → List State
links_opened run = map (λ (r : PollRun). OfLink r.opened) run.servers ++ map (λ (r : LinkRun). OfLink r.opened) run.links

logs_opened : (run : StationRun) → count_logs (opened_in run) ≡ length run.radios + length (option_to_list run.leap)
logs_opened run =
    let links : count_logs (links_opened run) ≡ 0 = count_of_links (λ (r : PollRun). r.opened) run.servers (map (λ (r : LinkRun). OfLink r.opened) run.links) ∙ no_log_of_links (λ (r : LinkRun). r.opened) run.links in
    let list : count_logs (list_opened run ++ links_opened run) ≡ length (option_to_list run.leap) + count_logs (links_opened run) = count_of_logs (λ (r : LeapRun). r.opened) (option_to_list run.leap) (links_opened run) in
    let logs : count_logs (opened_in run) ≡ length run.radios + count_logs (list_opened run ++ links_opened run) = count_of_logs (λ (r : LogRun). r.opened) run.radios (list_opened run ++ links_opened run) in
    omega (arith, links, list, logs)

-- ---- each is whole

-- a log without a fault is read whole
good_log : (opened back : SourceState) (good : IsGoodLog opened back) (bytes : List ℕ) (end : LogEnd) → EndsLog most_of_a_log opened back bytes end → (end ≡ log.Whole) × (good.text ≡ bytes)
good_log opened back good bytes log.Whole h =
    let prefix = prefix_by opened back good bytes file.Whole h.0 in
    (refl, whole_text bytes h.0.extra prefix.0 good.text prefix.2 h.0.cause.0 (none_left back.left prefix.0 prefix.1 h.0.cause.1))
good_log opened back good bytes (log.BadLine line) (inl h) = absurd (let wrong = good_reach opened back good bytes (log.BadLine line) (h.0, inl h.1) in cc)
good_log opened back good bytes (log.BadLine line) (inr h) =
    absurd (let wrong = good_reach opened back good bytes (log.BadLine line) (prefix_of_whole most_of_a_log opened back bytes h.0, inr (h.0.cause.1, h.1, h.2)) in cc)
good_log opened back good bytes log.Fault h = absurd (let wrong = good_reach opened back good bytes log.Fault h in cc)
good_log opened back good bytes log.Long h = absurd (let wrong = good_reach opened back good bytes log.Long h in cc)

pub good_logs : (feed : ℕ) (radios : List RadioFields) (runs goods : List LogRun) → All (λ r. EndsLog most_of_a_log r.opened r.back r.bytes r.end) runs → All IsGoodLogRun goods →
    map (λ r. OfLog r.opened) runs ≡ map (λ r. OfLog r.opened) goods → map (λ r. OfLog r.back) runs ≡ map (λ r. OfLog r.back) goods →
    (each_cause (λ n (r : LogRun). log_cause n r.end) feed runs ≡ []) × (radio_dues feed radios runs ≡ radio_dues feed radios goods)
good_logs feed radios [] [] reads good same too = (refl, refl)
good_logs feed radios [] (g ∷ goods) reads good same too = absurd cc
good_logs feed radios (r ∷ runs) [] reads good same too = absurd cc
good_logs feed radios (r ∷ runs) (g ∷ goods) reads good same too =
    let one = All-head IsGoodLogRun g goods good in
    let opened = log_state r.opened g.opened (first_state (OfLog r.opened) (OfLog g.opened) _ _ same) in
    let back = log_state r.back g.back (first_state (OfLog r.back) (OfLog g.back) _ _ too) in
    let read = All-head (λ (l : LogRun). EndsLog most_of_a_log l.opened l.back l.bytes l.end) r runs reads in
    let whole = good_log g.opened g.back one.good r.bytes r.end (subst (λ s. EndsLog most_of_a_log s g.back r.bytes r.end) opened (subst (λ s. EndsLog most_of_a_log r.opened s r.bytes r.end) back read)) in
    let bytes : r.bytes ≡ g.bytes = sym whole.1 ∙ one.bytes_are in
    let rest : (others : List RadioFields) → _ = λ others. good_logs (suc feed) others runs goods (All-tail (λ (l : LogRun). EndsLog most_of_a_log l.opened l.back l.bytes l.end) r runs reads) (All-tail IsGoodLogRun g goods good) (rest_states (OfLog r.opened) (OfLog g.opened) _ _ same) (rest_states (OfLog r.back) (OfLog g.back) _ _ too) in
    (ap (λ e. option_to_list (log_cause feed e) ++ each_cause (λ n (l : LogRun). log_cause n l.end) (suc feed) runs) whole.0 ∙ (rest []).0, more radios bytes (λ others. (rest others).1))
  where
    more : (of : List RadioFields) → r.bytes ≡ g.bytes → ((others : List RadioFields) → radio_dues (suc feed) others runs ≡ radio_dues (suc feed) others goods) → radio_dues feed of (r ∷ runs) ≡ radio_dues feed of (g ∷ goods)
    more [] bytes rest = refl
    more (radio ∷ others) bytes rest = ap (λ b. Rattle.radio_receiver.specs.Due.due_log feed radio.plan radio.delay b ∷ radio_dues (suc feed) others runs) bytes ∙ ap (λ l. Rattle.radio_receiver.specs.Due.due_log feed radio.plan radio.delay g.bytes ∷ l) (rest others)

-- so is a leap second file
good_file : (opened back : SourceState) (good : IsGoodList opened back) (bytes : List ℕ) (whole : Bool) (end : LogEnd) → EndsLeap most_of_a_list opened back bytes whole end →
    (end ≡ log.Whole) × ((whole ≡ true) × (good.text ≡ bytes))
good_file opened back good bytes whole log.Whole h =
    let prefix = prefix_of opened.left back.left good.text (bytes ++ h.1.extra) good.reported good.reports h.1.taken in
    (refl, (h.0, whole_text bytes h.1.extra prefix.0 good.text prefix.2 h.1.cause.0 (none_left back.left prefix.0 prefix.1 h.1.cause.1)))
good_file opened back good bytes whole (log.BadLine line) (inl h) =
    let prefix = prefix_of opened.left back.left good.text bytes good.reported good.reports h.1.taken in
    let longer : good.text ++ 10 ∷ [] ≡ bytes ++ (prefix.0 ++ 10 ∷ []) = ap (λ l. l ++ 10 ∷ []) prefix.2 ∙ append_assoc bytes prefix.0 (10 ∷ []) in
    let bad : bad_row true good.text ≡ Some line = bad_whole_is good.text ∙ ap (bad_row false) longer ∙ (stays_bad bytes (prefix.0 ++ 10 ∷ []) line h.2).bad in
    absurd (let wrong : ◌≡◌ {A = Option ℕ} None (Some line) = sym good.lines ∙ bad in cc)
good_file opened back good bytes whole (log.BadLine line) (inr h) =
    let prefix = prefix_of opened.left back.left good.text (bytes ++ h.1.extra) good.reported good.reports h.1.taken in
    let same = whole_text bytes h.1.extra prefix.0 good.text prefix.2 h.1.cause.0 (none_left back.left prefix.0 prefix.1 h.1.cause.1) in
    absurd (let wrong : ◌≡◌ {A = Option ℕ} None (Some line) = sym good.lines ∙ ap (bad_row true) same ∙ h.3 in cc)
good_file opened back good bytes whole log.Fault h = absurd (good.no_fault (rose_by_one opened.faults back.faults h.1.cause.1))
good_file opened back good bytes whole log.Long h =
    let prefix = prefix_of opened.left back.left good.text (bytes ++ h.1.extra) good.reported good.reports h.1.taken in
    let size = h.1.cause.0 in
    let one = h.1.cause.1 in
    let most = good.most in
    let len = ap length prefix.2 in
    absurd (omega (arith, size, one, most, len, length-append (bytes ++ h.1.extra) prefix.0, length-append bytes h.1.extra))

good_list : (feed start : ℕ) (run good : Option LeapRun) → IfSome run (λ r. EndsLeap most_of_a_list r.opened r.back r.bytes r.whole r.end) → IfSome good IsGoodLeapRun →
    map (λ r. OfLog r.opened) (option_to_list run) ≡ map (λ r. OfLog r.opened) (option_to_list good) → map (λ r. OfLog r.back) (option_to_list run) ≡ map (λ r. OfLog r.back) (option_to_list good) →
    (each_cause (λ n (r : LeapRun). log_cause n r.end) feed (option_to_list run) ≡ []) × (leap_dues feed start run ≡ leap_dues feed start good)
good_list feed start None None read good same too = (refl, refl)
good_list feed start None (Some g) read good same too = absurd cc
good_list feed start (Some r) None read good same too = absurd cc
good_list feed start (Some r) (Some g) read good same too =
    let opened = log_state r.opened g.opened (first_state (OfLog r.opened) (OfLog g.opened) _ _ same) in
    let back = log_state r.back g.back (first_state (OfLog r.back) (OfLog g.back) _ _ too) in
    let whole = good_file g.opened g.back good.good r.bytes r.whole r.end
    (subst (λ s. EndsLeap most_of_a_list s g.back r.bytes r.whole r.end) opened (subst (λ s. EndsLeap most_of_a_list r.opened s r.bytes r.whole r.end) back read)) in
    let bytes : r.bytes ≡ g.bytes = sym whole.1.1 ∙ good.bytes_are in (
      ap (λ e. option_to_list (log_cause feed e) ++ []) whole.0,
      ap (λ b. due_leap feed start b r.bytes ∷ []) (whole.1.0 ∙ sym good.whole_is) ∙ ap (λ b. due_leap feed start g.whole b ∷ []) bytes,
    )

-- a link without a fault has the events that it reports
good_events : (opened back : LinkState) (reported events : List NetEvent) → IsGoodLink opened back reported → Adds opened.events back.events events → events ≡ reported
good_events opened back reported events good adds = by opened.events back.events refl refl
  where
    by : (was now : Option (List NetEvent)) → opened.events ≡ was → back.events ≡ now → events ≡ reported
    by None now e f = absurd (let wrong : ◌≡◌ {A = Option (List NetEvent)} None (Some good.before) = sym e ∙ good.were in cc)
    by (Some was) None e f = absurd (let wrong : ◌≡◌ {A = Option (List NetEvent)} None (Some (good.before ++ reported)) = sym f ∙ good.are in cc)
    by (Some was) (Some now) e f =
        let one : was ≡ good.before = (let g : ◌≡◌ {A = Option (List NetEvent)} (Some was) (Some good.before) = sym e ∙ good.were in cc) in
        let two : now ≡ good.before ++ reported = (let g : ◌≡◌ {A = Option (List NetEvent)} (Some now) (Some (good.before ++ reported)) = sym f ∙ good.are in cc) in
        let grown : Adds (Some was) (Some now) events = subst (λ o. Adds o (Some now) events) e (subst (λ o. Adds opened.events o events) f adds) in
        append_cancel_left good.before events reported (ap (λ l. l ++ events) (sym one) ∙ sym grown ∙ two)

good_poll : (server : ServerFields) (r : PollRun) → IsPolled server r → (Rose r.opened.faults r.back.faults → ⊥) → (feed : ℕ) → poll_cause feed r.end ≡ None
good_poll server r polled no_fault feed = by r.end polled.ends
  where
    by : (end : PollEnd) → EndsPolls server.address server.polls r.opened.faults r.back.faults r.events end → poll_cause feed end ≡ None
    by poll.Rounds h = refl
    by poll.LinkEnd h = refl
    by poll.LinkFault h = absurd (no_fault (rose_by_one r.opened.faults r.back.faults h.7))

good_polls : (feed : ℕ) (servers : List ServerFields) (runs goods : List PollRun) → Pairs IsPolled servers runs → All (λ r. IsGoodLink r.opened r.back r.events) goods →
    map (λ r. OfLink r.opened) runs ≡ map (λ r. OfLink r.opened) goods → map (λ r. OfLink r.back) runs ≡ map (λ r. OfLink r.back) goods →
    (each_cause (λ n (r : PollRun). poll_cause n r.end) feed runs ≡ []) × (server_dues feed servers runs ≡ server_dues feed servers goods)
good_polls feed servers [] [] polled good same too = (refl, refl)
good_polls feed servers [] (g ∷ goods) polled good same too = absurd cc
good_polls feed servers (r ∷ runs) [] polled good same too = absurd cc
good_polls feed [] (r ∷ runs) (g ∷ goods) polled good same too = absurd polled
good_polls feed (server ∷ servers) (r ∷ runs) (g ∷ goods) polled good same too =
    let one = All-head (λ (l : PollRun). IsGoodLink l.opened l.back l.events) g goods good in
    let opened = link_state r.opened g.opened (first_state (OfLink r.opened) (OfLink g.opened) _ _ same) in
    let back = link_state r.back g.back (first_state (OfLink r.back) (OfLink g.back) _ _ too) in
    let good_r : IsGoodLink r.opened r.back g.events = subst (λ s. IsGoodLink s r.back g.events) (sym opened) (subst (λ s. IsGoodLink g.opened s g.events) (sym back) one) in
    let events : r.events ≡ g.events = good_events r.opened r.back g.events r.events good_r polled.0.reported in
    let none = good_poll server r polled.0 good_r.no_fault feed in
    let rest = good_polls (suc feed) servers runs goods polled.1 (All-tail (λ (l : PollRun). IsGoodLink l.opened l.back l.events) g goods good) (rest_states (OfLink r.opened) (OfLink g.opened) _ _ same) (rest_states (OfLink r.back) (OfLink g.back) _ _ too) in (
      ap (λ o. option_to_list o ++ each_cause (λ n (l : PollRun). poll_cause n l.end) (suc feed) runs) none ∙ rest.0,
      ap (λ e. Rattle.feed_workers.specs.Polls.due_link feed server.address e ∷ server_dues (suc feed) servers runs) events ∙ ap (λ l. Rattle.feed_workers.specs.Polls.due_link feed server.address g.events ∷ l) rest.1,
    )

good_client : (during after : ℕ) (r : LinkRun) → EndsPhases during after r → (Rose r.opened.faults r.back.faults → ⊥) → (number : ℕ) → link_cause number r.end ≡ None
good_client during after r phases no_fault number = by r.end phases
  where
    by : (end : End) → EndsPhases during after (record r { end = end }) → link_cause number end ≡ None
    by Count h = refl
    by LinkEnd h = refl
    by LinkFault (inl h) = absurd (no_fault (rose_by_one r.opened.faults r.back.faults h.2.6))
    by LinkFault (inr h) = absurd (no_fault (rose_by_one r.opened.faults r.back.faults h.2.6))

good_clients : (during after : ℕ) (of : StationFields) (journal : List Entry) (place : ℕ) (runs goods : List LinkRun) → All (IsAnswered of journal during after) runs → All (λ r. Rose r.opened.faults r.back.faults → ⊥) goods →
    map (λ r. OfLink r.opened) runs ≡ map (λ r. OfLink r.opened) goods → map (λ r. OfLink r.back) runs ≡ map (λ r. OfLink r.back) goods → each_cause (λ n (r : LinkRun). link_cause n r.end) place runs ≡ []
good_clients during after of journal place [] goods served good same too = refl
good_clients during after of journal place (r ∷ runs) [] served good same too = absurd cc
good_clients during after of journal place (r ∷ runs) (g ∷ goods) served good same too =
    let opened = link_state r.opened g.opened (first_state (OfLink r.opened) (OfLink g.opened) _ _ same) in
    let back = link_state r.back g.back (first_state (OfLink r.back) (OfLink g.back) _ _ too) in
    let no_fault : Rose r.opened.faults r.back.faults → ⊥ = subst (λ (s : LinkState). Rose s.faults r.back.faults → ⊥) (sym opened) (subst (λ (s : LinkState). Rose g.opened.faults s.faults → ⊥) (sym back) (All-head (λ (l : LinkRun). Rose l.opened.faults l.back.faults → ⊥) g goods good)) in
    let none = good_client during after r (All-head (IsAnswered of journal during after) r runs served).ends no_fault place in
    let rest = good_clients during after of journal (suc place) runs goods (All-tail (IsAnswered of journal during after) r runs served) (All-tail (λ (l : LinkRun). Rose l.opened.faults l.back.faults → ⊥) g goods good) (rest_states (OfLink r.opened) (OfLink g.opened) _ _ same) (rest_states (OfLink r.back) (OfLink g.back) _ _ too) in
    ap (λ o. option_to_list o ++ each_cause (λ n (l : LinkRun). link_cause n l.end) (suc place) runs) none ∙ rest

none_of_five : (a b c d e : List Ending) → a ≡ [] → b ≡ [] → c ≡ [] → d ≡ [] → e ≡ [] → a ++ (b ++ (c ++ (d ++ e))) ≡ []
none_of_five a b c d e p q r s t = ap (λ l. l ++ (b ++ (c ++ (d ++ e)))) p ∙ ap (λ l. l ++ (c ++ (d ++ e))) q ∙ ap (λ l. l ++ (d ++ e)) r ∙ ap (λ l. l ++ e) s ∙ t

nothing_reported : (all : List Ending) (due : Ending) → all ≡ [] → IsReported all due → due ≡ ending.Whole
nothing_reported all due none (inl h) = h.1
nothing_reported all due none (inr h) = absurd (let e = ap length (sym none ∙ h.is) in omega (arith, e, length-append h.before (due ∷ h.later)))

-- ---- the station file

one_fault : (faults : List Fault) (at : Fault) → faults ≡ [] → slice_get faults 0 ≡ Some at → ⊥
one_fault faults at none first = (let wrong : ◌≡◌ {A = Option Fault} None (Some at) = sym (ap (λ l. slice_get l 0) none) ∙ first in cc)

no_faults : (bytes : List ℕ) (of : StationFields) (says : Says bytes of) (top : _) → Rattle.station_reader.specs.Faults.IsDocument bytes top → faults_of top ≡ []
no_faults bytes of says top document =
    let parsed = sym document.parsed ∙ says.document.parsed in
    let same : top ≡ says.top = cc in
    ap faults_of same ∙ says.no_fault

-- a text that says a station is not refused
not_refused : (bytes : List ℕ) (of : StationFields) (why : StationFault) → Says bytes of → RefusesStation bytes why → Rattle.command_ends.specs.StationFile.IsNamed why → ⊥
not_refused bytes of fault.Memory says refuses named = named
not_refused bytes of fault.NotToml says refuses named = refuses says.top says.document
not_refused bytes of (fault.UnknownKey key) says refuses named = one_fault (faults_of refuses.0) _ (no_faults bytes of says refuses.0 refuses.1) refuses.2
not_refused bytes of (fault.Missing key) says refuses named = one_fault (faults_of refuses.0) _ (no_faults bytes of says refuses.0 refuses.1) refuses.2
not_refused bytes of (fault.Range key) says refuses named = one_fault (faults_of refuses.0) _ (no_faults bytes of says refuses.0 refuses.1) refuses.2
not_refused bytes of (fault.TooMany key count) says refuses named = one_fault (faults_of refuses.0) _ (no_faults bytes of says refuses.0 refuses.1) refuses.2

module _ (of : StationFields) (opened back : SourceState) (station : IsStation of opened back) (most : length station.text ≤ most_of_a_station) (no_fault : Rose opened.faults back.faults → ⊥) where
  -- only lack of memory keeps a station without a fault from being used
  only_memory : (end : FileEnd) (bytes : List ℕ) (due : Obstacle) → EndsReading end most_of_a_station opened back bytes → IsObstacle end bytes due → status_at due ≡ Memory
  only_memory file.Fault bytes due read is = absurd (no_fault (rose_by_one opened.faults back.faults read.cause.1))
  only_memory file.TooLong bytes due read is =
      let prefix = prefix_of opened.left back.left station.text (bytes ++ read.extra) station.reported station.reports read.taken in
      let size = read.cause.0 in
      let one = read.cause.1 in
      let len = ap length prefix.2 in
      absurd (omega (arith, size, one, len, most, length-append (bytes ++ read.extra) prefix.0, length-append bytes read.extra))
  only_memory file.Whole bytes due read (inl memory) = ap status_at memory
  only_memory file.Whole bytes due read (inr faulty) =
      let prefix = prefix_of opened.left back.left station.text (bytes ++ read.extra) station.reported station.reports read.taken in
      let same = whole_text bytes read.extra prefix.0 station.text prefix.2 read.cause.0 (none_left back.left prefix.0 prefix.1 read.cause.1) in
      absurd (not_refused bytes of faulty.0 (subst (λ b. Says b of) same station.says) faulty.3 faulty.2)

-- ---- all of it

abbrev list_back : StationRun → List State
list_back run = map (λ (r : LeapRun). OfLog r.back) (option_to_list run.leap)

abbrev links_back : StationRun → List State
links_back run = map (λ (r : PollRun). OfLink r.back) run.servers ++ map (λ (r : LinkRun). OfLink r.back) run.links

module _ (name : List ℕ) (orders : Orders) (effect : Effect) (p : HasGoodStation name orders.limit effect.outside effect.outside_now) (no_write : Rose effect.out.faults effect.out_now.faults → ⊥) where
  abbrev reported : List Opening
  reported = map visited (log_visit name p.opened p.back ∷ p.visits)

  at_station : EndsAtStation (LogOf name ∷ []) name effect → effect.status ≡ Memory
  at_station h =
      let e = same_more effect.outside.openings effect.outside_now.openings p.before _ reported h.opens.noted.noted p.were p.are in
      let same = same_states name h.opened h.back p.opened p.back (first_of _ _ _ _ e) in
      let read = subst (λ s. EndsReading h.end most_of_a_station s p.back h.bytes) same.0 (subst (λ s. EndsReading h.end most_of_a_station h.opened s h.bytes) same.1 h.read) in
      answered _ effect.status effect.out effect.out_now _ h.written no_write ∙ only_memory p.of p.opened p.back p.is_station p.most p.no_fault h.end h.bytes h.due read h.cause

  unserved : EndsUnserved name effect → effect.status ≡ Memory
  unserved h = by h.failing refl
    where
      by : (failing : Option Wanted) → h.failing ≡ failing → effect.status ≡ Memory
      by None none = answered _ effect.status effect.out effect.out_now _ h.written no_write ∙ ap status_of (subst (λ f. Rattle.station_report.specs.Serving.LacksOne h.of (length h.visits) f h.due) none h.cause)
      by (Some what) some =
          let noted = subst (λ f. Adds effect.outside.openings effect.outside_now.openings (map visited (log_visit name h.opened h.back ∷ h.visits) ++ map failed (option_to_list f))) some h.opens.noted.noted in
          let e = same_more effect.outside.openings effect.outside_now.openings p.before _ reported noted p.were p.are in
          absurd (none_failed (log_visit name h.opened h.back ∷ h.visits) (log_visit name p.opened p.back ∷ p.visits) what e)

  module _ (h : ServesStation name orders effect) (of_is : h.of ≡ p.of) (opened : opened_in h.run ≡ opened_in p.run) (back : back_in h.run ≡ back_in p.run) where
    list_sizes : length (option_to_list h.run.leap) ≡ length (option_to_list p.run.leap)
    list_sizes = length-is-some h.run.leap p.run.leap (h.served.logs.leap ∙ ap (λ (o : StationFields). is_some o.leap_file) of_is ∙ sym p.each_list)

    -- as many logs were opened in both, and of these as many lists
    radio_sizes : length h.run.radios ≡ length p.run.radios
    radio_sizes = let all = sym (logs_opened h.run) ∙ ap count_logs opened ∙ logs_opened p.run in let lists = list_sizes in omega (arith, all, lists)

    opened_logs : (map (λ (r : LogRun). OfLog r.opened) h.run.radios ≡ map (λ (r : LogRun). OfLog r.opened) p.run.radios) × (list_opened h.run ++ links_opened h.run ≡ list_opened p.run ++ links_opened p.run)
    opened_logs = split_at _ _ _ _ (length-map h.run.radios (λ (r : LogRun). OfLog r.opened) ∙ radio_sizes ∙ sym (length-map p.run.radios (λ (r : LogRun). OfLog r.opened))) opened

    back_logs : (map (λ (r : LogRun). OfLog r.back) h.run.radios ≡ map (λ (r : LogRun). OfLog r.back) p.run.radios) × (list_back h.run ++ links_back h.run ≡ list_back p.run ++ links_back p.run)
    back_logs = split_at _ _ _ _ (length-map h.run.radios (λ (r : LogRun). OfLog r.back) ∙ radio_sizes ∙ sym (length-map p.run.radios (λ (r : LogRun). OfLog r.back))) back

    opened_list : (list_opened h.run ≡ list_opened p.run) × (links_opened h.run ≡ links_opened p.run)
    opened_list = split_at (list_opened h.run) (links_opened h.run) (list_opened p.run) (links_opened p.run)
        (length-map (option_to_list h.run.leap) (λ (r : LeapRun). OfLog r.opened) ∙ list_sizes ∙ sym (length-map (option_to_list p.run.leap) (λ (r : LeapRun). OfLog r.opened))) opened_logs.1

    back_list : (list_back h.run ≡ list_back p.run) × (links_back h.run ≡ links_back p.run)
    back_list = split_at (list_back h.run) (links_back h.run) (list_back p.run) (links_back p.run)
        (length-map (option_to_list h.run.leap) (λ (r : LeapRun). OfLog r.back) ∙ list_sizes ∙ sym (length-map (option_to_list p.run.leap) (λ (r : LeapRun). OfLog r.back))) back_logs.1

    sizes : length h.run.servers ≡ length p.run.servers
    sizes = polled-length h.of.servers h.run.servers h.served.polls.each ∙ ap (λ (o : StationFields). length o.servers) of_is ∙ sym p.each_server

    opened_links : (map (λ (r : PollRun). OfLink r.opened) h.run.servers ≡ map (λ (r : PollRun). OfLink r.opened) p.run.servers) × (map (λ (r : LinkRun). OfLink r.opened) h.run.links ≡ map (λ (r : LinkRun). OfLink r.opened) p.run.links)
    opened_links = split_at (map (λ (r : PollRun). OfLink r.opened) h.run.servers) (map (λ (r : LinkRun). OfLink r.opened) h.run.links) (map (λ (r : PollRun). OfLink r.opened) p.run.servers) (map (λ (r : LinkRun). OfLink r.opened) p.run.links)
        (length-map h.run.servers (λ (r : PollRun). OfLink r.opened) ∙ sizes ∙ sym (length-map p.run.servers (λ (r : PollRun). OfLink r.opened))) opened_list.1

    back_links : (map (λ (r : PollRun). OfLink r.back) h.run.servers ≡ map (λ (r : PollRun). OfLink r.back) p.run.servers) × (map (λ (r : LinkRun). OfLink r.back) h.run.links ≡ map (λ (r : LinkRun). OfLink r.back) p.run.links)
    back_links = split_at (map (λ (r : PollRun). OfLink r.back) h.run.servers) (map (λ (r : LinkRun). OfLink r.back) h.run.links) (map (λ (r : PollRun). OfLink r.back) p.run.servers) (map (λ (r : LinkRun). OfLink r.back) p.run.links)
        (length-map h.run.servers (λ (r : PollRun). OfLink r.back) ∙ sizes ∙ sym (length-map p.run.servers (λ (r : PollRun). OfLink r.back))) back_list.1

    logs : (each_cause (λ n (r : LogRun). log_cause n r.end) 0 h.run.radios ≡ []) × (radio_dues 0 h.of.radios h.run.radios ≡ radio_dues 0 h.of.radios p.run.radios)
    logs = good_logs 0 h.of.radios h.run.radios p.run.radios h.served.logs.read p.logs opened_logs.0 back_logs.0

    polls : (each_cause (λ n (r : PollRun). poll_cause n r.end) (length h.of.radios) h.run.servers ≡ []) × (server_dues (length h.of.radios) h.of.servers h.run.servers ≡ server_dues (length h.of.radios) h.of.servers p.run.servers)
    polls = good_polls (length h.of.radios) h.of.servers h.run.servers p.run.servers h.served.polls.each p.polls opened_links.0 back_links.0

    list : (each_cause (λ n (r : LeapRun). log_cause n r.end) (leap_feed h.of) (option_to_list h.run.leap) ≡ []) × (leap_dues (leap_feed h.of) h.of.top.start h.run.leap ≡ leap_dues (leap_feed h.of) h.of.top.start p.run.leap)
    list = good_list (leap_feed h.of) h.of.top.start h.run.leap p.run.leap h.served.logs.leap_read p.list opened_list.0 back_list.0

    clients : each_cause (λ n (r : LinkRun). link_cause n r.end) 0 h.run.links ≡ []
    clients = good_clients orders.budget.during orders.budget.after _ h.run.journal 0 h.run.links p.run.links h.served.clients.served p.links opened_links.1 back_links.1

    same_dues : dues h.of h.run ≡ dues p.of p.run
    same_dues =
        let later = leap_dues (leap_feed h.of) h.of.top.start h.run.leap in
        ap (λ l. l ++ server_dues (length h.of.radios) h.of.servers h.run.servers ++ later) logs.1 ∙ ap (λ l. radio_dues 0 h.of.radios p.run.radios ++ l ++ later) polls.1
        ∙ ap (λ l. radio_dues 0 h.of.radios p.run.radios ++ server_dues (length h.of.radios) h.of.servers p.run.servers ++ l) list.1 ∙ ap (λ o. dues o p.run) of_is

    not_full : nat_lt orders.limit (due_in_all h.of h.run) ≡ false
    not_full = (let same = ap (sum_by (λ (l : List Entry). length l)) same_dues in let room = p.room in grind (arith, nat_tests))

    no_cause : causes h.of orders.limit h.run ≡ []
    no_cause = none_of_five _ _ _ _ _ logs.0 polls.0 list.0 clients (ap (λ b. option_to_list (full_cause orders.limit b)) not_full)

    all_whole : effect.status ≡ Done
    all_whole = answered _ effect.status effect.out effect.out_now _ h.served.text.written no_write ∙ ap status_of (nothing_reported (causes h.of orders.limit h.run) h.served.due no_cause h.served.cause)

  served : ServesStation name orders effect → effect.status ≡ Done
  served h =
      let e = same_more effect.outside.openings effect.outside_now.openings p.before _ reported h.opens.noted.noted p.were p.are in
      let same = same_states name h.opened h.back p.opened p.back (first_of _ _ _ _ e) in
      let of_is : h.of ≡ p.of = read_station p.of h.of h.opened h.back (subst (λ s. IsStation p.of s h.back) (sym same.0) (subst (λ s. IsStation p.of p.opened s) (sym same.1) p.is_station)) h.station in
      let visits = same_visits h.visits p.visits (sym (append-nil (map visited h.visits)) ∙ rest_of _ _ _ _ e) in
      all_whole h of_is (sym h.opened_are ∙ visits.0 ∙ p.opened_are) (sym h.back_are ∙ visits.1 ∙ p.back_are)

  pub station_done : RunsServe name orders effect → (effect.status ≡ Done) ⊎ (effect.status ≡ Memory)
  station_done (inl not) =
      let e = same_more effect.outside.openings effect.outside_now.openings p.before _ reported not.opens.noted.noted p.were p.are in
      absurd (not_failed name name p.opened p.back (first_of _ _ _ _ e))
  station_done (inr (inl ends)) = inr (at_station ends)
  station_done (inr (inr (inl lacks))) = inr (unserved lacks)
  station_done (inr (inr (inr h))) = inl (served h)
