-- What the workers of a station leave, place by place, is a run of the station.
use Rattle.std.proofs.Common.{◌≡◌, ◌≢◌, ℕ, suc, ◌+◌, ◌<◌, inl, inr, Option, None, Some, List, [], ◌∷◌, ◌++◌, length, map, refl, sym, ap, ◌∙◌, subst, arith}
use Rattle.std.specs.Prelude.{All, IfSome, is_some, option_map, slice_index_or}
use Rattle.std.specs.Option.{option_to_list}
use Rattle.std.specs.List.{flat_map, sum_by}
use Rattle.std.proofs.lemmas.Grind.{flat_map-append}
use Rattle.std.proofs.lemmas.List.{append-nil}
use Rattle.std.proofs.lemmas.List.Elements.{All-nil, All-cons, All-head, All-tail}
use Rattle.std.proofs.lemmas.List.Sums.{sum_by-append}
use Rattle.outside_traits.specs.States.{SourceState, LinkState, Adds}
use Rattle.outside_traits.specs.Openings.State.{OfLog, OfLink}
use Rattle.outside_traits.proofs.StateLaws.{Adds-more}
use Rattle.feed_workers.specs.Leaps.{EndsLeap, most_of_a_list}
use Rattle.feed_workers.specs.Logs.{EndsLog}
use Rattle.radio_receiver.specs.Decoding.{most_of_a_log}
use Rattle.feed_workers.specs.declared.work.LogWork.{LogWork}
use Rattle.feed_workers.specs.declared.work.PollWork.{PollWork}
use Rattle.journal_entry.specs.declared.entry.Entry.{Entry}
use Rattle.radio_receiver.specs.Histories.{History}
use Rattle.station_gear.specs.Racks.{AreOf, silent}
use Rattle.responder.specs.Serving.{EndsBy}
use Rattle.responder.specs.Turns.{Turn, events_of, answered_of, dropped_of, kissed_of, torn_of, unkept_of}
use Rattle.responder.specs.declared.served.End.{End}
use Rattle.responder.specs.declared.served.End.TheVariants.{Count, LinkEnd, LinkFault}
use Rattle.responder.specs.declared.served.Served.{Served}
use Rattle.station_values.specs.Station.{RadioFields, ServerFields, StationFields}
use Rattle.feed_workers.specs.Lists.{Pairs}
use Rattle.feed_workers.specs.Served.{AreBlank, AsksServer, ReadsRadio, LeapServed, ServesLink, ServesPhase, column_of, seen, service_of}
use Rattle.feed_workers.specs.declared.crew.LinkWork.{LinkWork}
use Rattle.station_gear.specs.Gears.{link_states, log_states}
use Rattle.station_report.specs.Crewing.{end_of, end_by, in_both, line_of_work}
use Rattle.station_report.specs.Headline.{IsAnswered, IsPolled, LeapRun, LinkRun, LogRun, PollRun, Tally, each_text, leap_dues, line_of_link, link_line, radio_dues, server_dues, tally_of}
use Rattle.station_report.proofs.CountLaws.{HaveDue}

-- receivers that stand for silent ones of the radios, which have received nothing
pub blank_receivers : {B : Type 0} (stands : B → History → Type 0) (least : B → ℕ) (radios : List RadioFields) (receivers : List B) →
    AreOf stands receivers (map silent radios) → All (λ b. least b ≡ 0) receivers → AreBlank stands least radios receivers
blank_receivers stands least [] [] are all = tt
blank_receivers stands least [] (b ∷ more) are all = absurd are
blank_receivers stands least (radio ∷ radios) [] are all = absurd are
blank_receivers stands least (radio ∷ radios) (b ∷ more) are all =
    (record { stands_for = are.0; least_start = All-head (λ x. least x ≡ 0) b more all }, blank_receivers stands least radios more are.1 (All-tail (λ x. least x ≡ 0) b more all))

-- ---- radios

module _ {L : Type 0} (state : L → SourceState) (limit : ℕ) (journal : List Entry) where
  pub record LogsRun (radios : List RadioFields) (first : ℕ) (logs now : List L) (works : List LogWork) : Type 0 where
    pub runs : List LogRun
    pub each : length runs ≡ length radios
    pub opened_are : map (λ log. OfLog log.opened) runs ≡ log_states state logs
    pub back_are : map (λ log. OfLog log.back) runs ≡ log_states state now
    pub read : All (λ log. EndsLog most_of_a_log log.opened log.back log.bytes log.end) runs
    pub ends_are : map (λ log. log.end) runs ≡ map (λ w. w.end) works
    pub due : HaveDue limit journal first (map (λ w. w.full) works) (radio_dues first radios runs)

  abbrev pub ReadEach : List RadioFields → ℕ → List L → List L → List LogWork → Type 0
  ReadEach radios first logs now works = (i : ℕ) (radio : RadioFields) (a b : L) (work : LogWork) → i < length logs →
      ReadsRadio (slice_index_or radios i radio) (column_of (first + i) limit journal) (state (slice_index_or logs i a)) (state (slice_index_or now i b)) (slice_index_or works i work)

  pub logs_run : (radios : List RadioFields) (first : ℕ) (logs now : List L) (works : List LogWork) → length logs ≡ length radios → length now ≡ length logs → length works ≡ length logs →
      ReadEach radios first logs now works → LogsRun radios first logs now works
  logs_run [] first [] [] [] n m k at = record { runs = []; each = refl; opened_are = refl; back_are = refl; read = All-nil _; ends_are = refl; due = tt }
  logs_run [] first [] [] (work ∷ works) n m k at = absurd (omega (arith, k))
  logs_run [] first [] (b ∷ now) works n m k at = absurd (omega (arith, m))
  logs_run [] first (a ∷ logs) now works n m k at = absurd (omega (arith, n))
  logs_run (radio ∷ radios) first [] now works n m k at = absurd (omega (arith, n))
  logs_run (radio ∷ radios) first (a ∷ logs) [] works n m k at = absurd (omega (arith, m))
  logs_run (radio ∷ radios) first (a ∷ logs) (b ∷ now) [] n m k at = absurd (omega (arith, k))
  logs_run (radio ∷ radios) first (a ∷ logs) (b ∷ now) (work ∷ works) n m k at =
      let zeroth : first + 0 ≡ first = omega arith in
      let one : ReadsRadio radio (column_of first limit journal) (state a) (state b) work = subst (λ f. ReadsRadio radio (column_of f limit journal) (state a) (state b) work) zeroth (at 0 radio a b work (omega arith)) in
      let others : ReadEach radios (suc first) logs now works = λ i r c d w lt.
      let next : first + suc i ≡ suc first + i = omega arith in
      subst (λ f. ReadsRadio (slice_index_or radios i r) (column_of f limit journal) (state (slice_index_or logs i c)) (state (slice_index_or now i d)) (slice_index_or works i w)) next (at (suc i) r c d w (omega (arith, lt))) in
      let rest = logs_run radios (suc first) logs now works (omega (arith, n)) (omega (arith, m)) (omega (arith, k)) others in
      let run : LogRun = record { opened = state a; back = state b; bytes = one.bytes; end = work.end } in
      record {
        runs = run ∷ rest.runs;
        each = ap suc rest.each;
        opened_are = ap (λ l. OfLog (state a) ∷ l) rest.opened_are;
        back_are = ap (λ l. OfLog (state b) ∷ l) rest.back_are;
        read = All-cons (λ (log : LogRun). EndsLog most_of_a_log log.opened log.back log.bytes log.end) run rest.runs one.ends rest.read;
        ends_are = ap (λ l. work.end ∷ l) rest.ends_are;
        due = (one.due, rest.due);
      }

pub radio_dues-length : (feed : ℕ) (radios : List RadioFields) (logs : List LogRun) → length logs ≡ length radios → length (radio_dues feed radios logs) ≡ length radios
radio_dues-length feed [] [] n = refl
radio_dues-length feed [] (log ∷ logs) n = refl
radio_dues-length feed (radio ∷ radios) [] n = absurd (omega (arith, n))
radio_dues-length feed (radio ∷ radios) (log ∷ logs) n = ap suc (radio_dues-length (suc feed) radios logs (omega (arith, n)))

-- ---- servers

module _ {T : Type 0} (state : T → LinkState) (limit : ℕ) (journal : List Entry) where
  pub record PollsRun (servers : List ServerFields) (first : ℕ) (links now : List T) (works : List PollWork) : Type 0 where
    pub runs : List PollRun
    pub polled : Pairs IsPolled servers runs
    pub opened_are : map (λ poll. OfLink poll.opened) runs ≡ link_states state links
    pub back_are : map (λ poll. OfLink poll.back) runs ≡ link_states state now
    pub ends_are : map (λ poll. poll.end) runs ≡ map (λ w. w.end) works
    pub due : HaveDue limit journal first (map (λ w. w.full) works) (server_dues first servers runs)

  abbrev pub AskEach : List ServerFields → ℕ → List T → List T → List PollWork → Type 0
  AskEach servers first links now works = (i : ℕ) (server : ServerFields) (a b : T) (work : PollWork) → i < length links →
      AsksServer (slice_index_or servers i server) (column_of (first + i) limit journal) (state (slice_index_or links i a)) (state (slice_index_or now i b)) (slice_index_or works i work)

  pub polls_run : (servers : List ServerFields) (first : ℕ) (links now : List T) (works : List PollWork) → length links ≡ length servers → length now ≡ length links → length works ≡ length links →
      AskEach servers first links now works → PollsRun servers first links now works
  polls_run [] first [] [] [] n m k at = record { runs = []; polled = tt; opened_are = refl; back_are = refl; ends_are = refl; due = tt }
  polls_run [] first [] [] (work ∷ works) n m k at = absurd (omega (arith, k))
  polls_run [] first [] (b ∷ now) works n m k at = absurd (omega (arith, m))
  polls_run [] first (a ∷ links) now works n m k at = absurd (omega (arith, n))
  polls_run (server ∷ servers) first [] now works n m k at = absurd (omega (arith, n))
  polls_run (server ∷ servers) first (a ∷ links) [] works n m k at = absurd (omega (arith, m))
  polls_run (server ∷ servers) first (a ∷ links) (b ∷ now) [] n m k at = absurd (omega (arith, k))
  polls_run (server ∷ servers) first (a ∷ links) (b ∷ now) (work ∷ works) n m k at =
      let zeroth : first + 0 ≡ first = omega arith in
      let one : AsksServer server (column_of first limit journal) (state a) (state b) work = subst (λ f. AsksServer server (column_of f limit journal) (state a) (state b) work) zeroth (at 0 server a b work (omega arith)) in
      let others : AskEach servers (suc first) links now works = λ i r c d w lt.
      let next : first + suc i ≡ suc first + i = omega arith in
      subst (λ f. AsksServer (slice_index_or servers i r) (column_of f limit journal) (state (slice_index_or links i c)) (state (slice_index_or now i d)) (slice_index_or works i w)) next (at (suc i) r c d w (omega (arith, lt))) in
      let rest = polls_run servers (suc first) links now works (omega (arith, n)) (omega (arith, m)) (omega (arith, k)) others in
      let run : PollRun = record { opened = state a; back = state b; events = one.events; end = work.end } in
      record {
        runs = run ∷ rest.runs;
        polled = (record { reported = one.reported; ends = one.ends }, rest.polled);
        opened_are = ap (λ l. OfLink (state a) ∷ l) rest.opened_are;
        back_are = ap (λ l. OfLink (state b) ∷ l) rest.back_are;
        ends_are = ap (λ l. work.end ∷ l) rest.ends_are;
        due = (one.due, rest.due);
      }

pub polled-length : (servers : List ServerFields) (runs : List PollRun) → Pairs IsPolled servers runs → length runs ≡ length servers
polled-length [] [] p = refl
polled-length [] (run ∷ runs) p = absurd p
polled-length (server ∷ servers) [] p = absurd p
polled-length (server ∷ servers) (run ∷ runs) p = ap suc (polled-length servers runs p.1)

-- ---- the leap second file

module _ {L : Type 0} (state : L → SourceState) (opening : L → ℕ) (limit : ℕ) (journal : List Entry) (start feed : ℕ) where
  pub record LeapsRun (file now : Option L) (work : Option LogWork) : Type 0 where
    pub run : Option LeapRun
    pub openings : map opening (option_to_list now) ≡ map opening (option_to_list file)
    pub opened_are : map (λ leap. OfLog leap.opened) (option_to_list run) ≡ log_states state (option_to_list file)
    pub back_are : map (λ leap. OfLog leap.back) (option_to_list run) ≡ log_states state (option_to_list now)
    pub there : is_some run ≡ is_some file
    pub read : IfSome run (λ leap. EndsLeap most_of_a_list leap.opened leap.back leap.bytes leap.whole leap.end)
    pub ends_are : map (λ leap. leap.end) (option_to_list run) ≡ map (λ w. w.end) (option_to_list work)
    pub due : HaveDue limit journal feed (map (λ w. w.full) (option_to_list work)) (leap_dues feed start run)

  pub leaps_run : (file now : Option L) (work : Option LogWork) → LeapServed (seen state opening) start (column_of feed limit journal) file now work → LeapsRun file now work
  leaps_run None None None h = record { run = None; openings = refl; opened_are = refl; back_are = refl; there = refl; read = tt; ends_are = refl; due = tt }
  leaps_run None None (Some work) h = absurd h
  leaps_run None (Some b) work h = absurd h
  leaps_run (Some a) None work h = absurd h
  leaps_run (Some a) (Some b) None h = absurd h
  leaps_run (Some a) (Some b) (Some work) h = record {
    run = Some (record { opened = state a; back = state b; bytes = h.1.bytes; whole = h.1.whole; end = work.end });
    openings = ap (λ n. n ∷ []) h.0;
    opened_are = refl;
    back_are = refl;
    there = refl;
    read = h.1.ends;
    ends_are = refl;
    due = (h.1.due, tt);
  }

pub leap_dues-length : (feed start : ℕ) (run : Option LeapRun) → length (leap_dues feed start run) ≡ length (option_to_list run)
leap_dues-length feed start None = refl
leap_dues-length feed start (Some leap) = refl

-- ---- links

-- a link's run, and what its work says of it
record LinkIs (of : StationFields) (journal : List Entry) (during after : ℕ) (a b : LinkState) (work : LinkWork) : Type 0 where
  pub run : LinkRun
  pub opened_is : run.opened ≡ a
  pub back_is : run.back ≡ b
  pub answered : IsAnswered of journal during after run
  pub end_is : run.end ≡ end_of work
  pub line_is : (number : ℕ) → line_of_work number work ≡ line_of_link number run

-- a count of both phases
both : (count : Turn → ℕ) (first second : List Turn) (n m : ℕ) → n ≡ sum_by count first → m ≡ sum_by count second → n + m ≡ sum_by count (first ++ second)
both count first second n m is too = ap (λ k. k + m) is ∙ ap (λ k. sum_by count first + k) too ∙ sym (sum_by-append count first second)

alone : (count : Turn → ℕ) (first second : List Turn) (n : ℕ) → n ≡ sum_by count first → second ≡ [] → n ≡ sum_by count (first ++ second)
alone count first second n is none = is ∙ ap (sum_by count) (sym (append-nil first)) ∙ ap (λ l. sum_by count (first ++ l)) (sym none)

same_line : (number : ℕ) (s t : Tally) (e f : End) → s.answered ≡ t.answered → s.dropped ≡ t.dropped → s.again ≡ t.again → s.kissed ≡ t.kissed → s.unkept ≡ t.unkept → e ≡ f → link_line number s e ≡ link_line number t f
same_line number s t e f answered dropped again kissed unkept end =
    ap (λ n. link_line number (record { answered = n; dropped = s.dropped; again = s.again; kissed = s.kissed; unkept = s.unkept }) e) answered
    ∙ ap (λ n. link_line number (record { answered = t.answered; dropped = n; again = s.again; kissed = s.kissed; unkept = s.unkept }) e) dropped
    ∙ ap (λ n. link_line number (record { answered = t.answered; dropped = t.dropped; again = n; kissed = s.kissed; unkept = s.unkept }) e) again
    ∙ ap (λ n. link_line number (record { answered = t.answered; dropped = t.dropped; again = t.again; kissed = n; unkept = s.unkept }) e) kissed
    ∙ ap (λ n. link_line number (record { answered = t.answered; dropped = t.dropped; again = t.again; kissed = t.kissed; unkept = n }) e) unkept
    ∙ ap (λ k. link_line number t k) end

module _ (of : StationFields) (journal : List Entry) (during after : ℕ) (a b : LinkState) (work : LinkWork) (h : ServesLink (service_of of journal (record { during = during; after = after })) a b work) where
  goes_on : work.first.end ≡ Count → LinkIs of journal during after a b work
  goes_on is =
      let reported = h.second_phase.served is in
      let served : Served = reported.0 in
      let phase : ServesPhase after h.between b served h.second = reported.2 in
      let first = subst (λ e. EndsBy during a.faults h.between.faults h.first e) is h.first_phase.ends in
      record {
        run = record { opened = a; back = b; first = h.first; second = h.second; end = served.end };
        opened_is = refl;
        back_is = refl;
        answered = record {
          reported = subst (λ l. Adds a.events b.events l) (sym (flat_map-append events_of h.first h.second)) (Adds-more a.events h.between.events b.events _ _ h.first_phase.events phase.events);
          gate_now = h.gate_now;
          replies = h.valid;
          pages = h.pages;
          last = h.last;
          rising = h.rising;
          whole = h.whole;
          none_left = h.none_again;
          few_left = h.few_again;
          ends = inl (first.0, first.1, subst (λ n. EndsBy after n b.faults h.second served.end) first.2 phase.ends);
        };
        end_is = sym (ap (end_by work.first.end) reported.1);
        line_is = λ number. same_line number _ (tally_of (h.first ++ h.second)) _ _
            (ap (λ (s : Option Served). in_both work.first.answered (option_map (λ x. x.answered) s)) reported.1 ∙ both answered_of h.first h.second _ _ h.first_phase.counts.answered phase.counts.answered)
            (ap (λ (s : Option Served). in_both work.first.dropped (option_map (λ x. x.dropped) s)) reported.1 ∙ both dropped_of h.first h.second _ _ h.first_phase.counts.dropped phase.counts.dropped)
            (ap (λ (s : Option Served). in_both work.first.again (option_map (λ x. x.again) s)) reported.1 ∙ both torn_of h.first h.second _ _ h.first_phase.counts.again phase.counts.again)
            (ap (λ (s : Option Served). in_both work.first.kissed (option_map (λ x. x.kissed) s)) reported.1 ∙ both kissed_of h.first h.second _ _ h.first_phase.counts.kissed phase.counts.kissed)
            (ap (λ (s : Option Served). in_both work.first.unkept (option_map (λ x. x.unkept) s)) reported.1 ∙ both unkept_of h.first h.second _ _ h.first_phase.counts.unkept phase.counts.unkept)
            (ap (end_by work.first.end) reported.1);
      }

  ends_first : work.first.end ≢ Count → LinkIs of journal during after a b work
  ends_first not =
      let none = h.second_phase.not not in
      let no_second : h.second ≡ [] = none.2 in
      let same : b ≡ h.between = none.1 in
      let end : end_of work ≡ work.first.end = ap (end_by work.first.end) none.0 in
      record {
        run = record { opened = a; back = b; first = h.first; second = h.second; end = end_of work };
        opened_is = refl;
        back_is = refl;
        answered = record {
          reported = subst (λ (s : LinkState). Adds a.events s.events (flat_map events_of (h.first ++ h.second))) (sym same)
              (subst (λ l. Adds a.events h.between.events (flat_map events_of (h.first ++ l))) (sym no_second) (subst (λ l. Adds a.events h.between.events (flat_map events_of l)) (sym (append-nil h.first)) h.first_phase.events));
          gate_now = h.gate_now;
          replies = h.valid;
          pages = h.pages;
          last = h.last;
          rising = h.rising;
          whole = h.whole;
          none_left = h.none_again;
          few_left = h.few_again;
          ends = inr (subst (λ e. e ≢ Count) (sym end) not, no_second, subst (λ e. EndsBy during a.faults b.faults h.first e) (sym end) (subst (λ (s : LinkState). EndsBy during a.faults s.faults h.first work.first.end) (sym same) h.first_phase.ends));
        };
        end_is = refl;
        line_is = λ number. same_line number _ (tally_of (h.first ++ h.second)) _ _
            (ap (λ (s : Option Served). in_both work.first.answered (option_map (λ x. x.answered) s)) none.0 ∙ alone answered_of h.first h.second _ h.first_phase.counts.answered no_second)
            (ap (λ (s : Option Served). in_both work.first.dropped (option_map (λ x. x.dropped) s)) none.0 ∙ alone dropped_of h.first h.second _ h.first_phase.counts.dropped no_second)
            (ap (λ (s : Option Served). in_both work.first.again (option_map (λ x. x.again) s)) none.0 ∙ alone torn_of h.first h.second _ h.first_phase.counts.again no_second)
            (ap (λ (s : Option Served). in_both work.first.kissed (option_map (λ x. x.kissed) s)) none.0 ∙ alone kissed_of h.first h.second _ h.first_phase.counts.kissed no_second)
            (ap (λ (s : Option Served). in_both work.first.unkept (option_map (λ x. x.unkept) s)) none.0 ∙ alone unkept_of h.first h.second _ h.first_phase.counts.unkept no_second)
            refl;
      }

  link_is : LinkIs of journal during after a b work
  link_is = by work.first.end refl
    where
      by : (e : End) → work.first.end ≡ e → LinkIs of journal during after a b work
      by Count is = goes_on is
      by LinkEnd is = ends_first (λ same. let wrong : LinkEnd ≡ Count = sym is ∙ same in cc)
      by LinkFault is = ends_first (λ same. let wrong : LinkFault ≡ Count = sym is ∙ same in cc)

module _ {T : Type 0} (state : T → LinkState) (of : StationFields) (journal : List Entry) (during after : ℕ) where
  pub record LinksRun (place : ℕ) (links now : List T) (works : List LinkWork) : Type 0 where
    pub runs : List LinkRun
    pub each : length runs ≡ length links
    pub answered : All (IsAnswered of journal during after) runs
    pub opened_are : map (λ link. OfLink link.opened) runs ≡ link_states state links
    pub back_are : map (λ link. OfLink link.back) runs ≡ link_states state now
    pub ends_are : map (λ link. link.end) runs ≡ map end_of works
    pub lines_are : each_text line_of_work place works ≡ each_text line_of_link place runs

  abbrev pub ServeEach : List T → List T → List LinkWork → Type 0
  ServeEach links now works = (i : ℕ) (a b : T) (work : LinkWork) → i < length links → ServesLink (service_of of journal (record { during = during; after = after })) (state (slice_index_or links i a)) (state (slice_index_or now i b)) (slice_index_or works i work)

  pub links_run : (place : ℕ) (links now : List T) (works : List LinkWork) → length now ≡ length links → length works ≡ length links → ServeEach links now works → LinksRun place links now works
  links_run place [] [] [] m k at = record { runs = []; each = refl; answered = All-nil _; opened_are = refl; back_are = refl; ends_are = refl; lines_are = refl }
  links_run place [] [] (work ∷ works) m k at = absurd (omega (arith, k))
  links_run place [] (b ∷ now) works m k at = absurd (omega (arith, m))
  links_run place (a ∷ links) [] works m k at = absurd (omega (arith, m))
  links_run place (a ∷ links) (b ∷ now) [] m k at = absurd (omega (arith, k))
  links_run place (a ∷ links) (b ∷ now) (work ∷ works) m k at =
      let one = link_is of journal during after (state a) (state b) work (at 0 a b work (omega arith)) in
      let rest = links_run (suc place) links now works (omega (arith, m)) (omega (arith, k)) (λ i c d w lt. at (suc i) c d w (omega (arith, lt))) in
      record {
        runs = one.run ∷ rest.runs;
        each = ap suc rest.each;
        answered = All-cons (IsAnswered of journal during after) one.run rest.runs one.answered rest.answered;
        opened_are = ap (λ s. OfLink s ∷ map (λ (link : LinkRun). OfLink link.opened) rest.runs) one.opened_is ∙ ap (λ l. OfLink (state a) ∷ l) rest.opened_are;
        back_are = ap (λ s. OfLink s ∷ map (λ (link : LinkRun). OfLink link.back) rest.runs) one.back_is ∙ ap (λ l. OfLink (state b) ∷ l) rest.back_are;
        ends_are = ap (λ e. e ∷ map (λ (link : LinkRun). link.end) rest.runs) one.end_is ∙ ap (λ l. end_of work ∷ l) rest.ends_are;
        lines_are = ap (λ l. l ++ each_text line_of_work (suc place) works) (one.line_is place) ∙ ap (λ l. line_of_link place one.run ++ l) rest.lines_are;
      }
