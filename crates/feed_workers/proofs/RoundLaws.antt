-- One round of a poller, hearing after hearing.
use Rattle.std.proofs.Common.{◌≡◌, inl, inr, ℕ, ◌+◌, ◌<◌, ◌≤◌, Option, Some, List, [], ◌∷◌, ◌++◌, take, length, Bool, true, false, is_ok, refl, sym, ap, ◌∙◌, subst, arith, length-append, append_assoc}
use Rattle.std.proofs.lemmas.List.{append-nil}
use Rattle.std.proofs.lemmas.Bool.{true≢false}
use Rattle.outside_traits.specs.Faults.{RoseByOne}
use Rattle.outside_traits.specs.Links.{ReceivesNext, ReportsMoment, event_of}
use Rattle.outside_traits.specs.States.{NetEvent, LinkState, Adds}
use Rattle.outside_traits.specs.States.NetEvent.{Came, Silent, Ended, Timed, Went}
use Rattle.outside_traits.specs.declared.link.Arrival.{Arrival}
use Rattle.outside_traits.specs.declared.link.Hearing.{Hearing}
use Rattle.outside_traits.specs.declared.link.Hearing.TheVariants.{Datagram, Quiet, End}
use Rattle.outside_traits.specs.declared.outside.Address.{Address}
use Rattle.outside_traits.proofs.StateLaws.{Adds-more}
use Rattle.journal_entry.specs.declared.entry.Entry.{Entry}
use Rattle.journal_entry.specs.declared.entry.What.{What}
use Rattle.ntp_packet.specs.Layout.{layout}
use Rattle.page_cell.specs.declared.view.Claim.{Claim}
use Rattle.poll_core.specs.Formulas.{request_header}
use Rattle.poll_core.specs.Histories.{Event, judge}
use Rattle.poll_core.specs.Histories.Event.{Asked, Answered}
use Rattle.poll_core.specs.Polling.{HasPolled}
use Rattle.poll_core.specs.declared.poll.Poll.{Poll}
use Rattle.feed_workers.specs.Asking.{HasDone, Polled, InRound, ReceivesOne}
use Rattle.feed_workers.specs.Keeping.{Keeps}
use Rattle.feed_workers.specs.Polling.{RunsPolls, Session}
use Rattle.feed_workers.specs.Polls.{Round, events_in, asking, history_of, what_of, entry_after, due_link, ends_round, is_hearing, is_ended, GoOn}
use Rattle.feed_workers.specs.declared.poller.HearingEnd.TheVariants.{On, Over, Fault}
use Rattle.feed_workers.specs.declared.poller.HearingEnd.TheVariants as how
use Rattle.feed_workers.specs.declared.work.PollEnd.TheVariants.{LinkEnd, LinkFault}
use Rattle.feed_workers.proofs.PollLaws.{due_link-push, GoOn-push, done_more, done_kept, on_to, polled_more, ends_link, ends_cut}

abbrev only : Entry → List Entry
only entry = entry ∷ []

-- the moment of the outstanding request is no later than the link's last one
pub is_timely : (asked : Option ℕ) (moment latest x : ℕ) → asked ≡ Some moment → latest ≡ moment → asked ≡ Some x → x ≤ latest
is_timely asked moment latest x is same e = let same_moment : moment ≡ x = cc in omega (arith, same, same_moment)

event_is : (mid last : LinkState) (hearing is : Hearing) (piece : List ℕ) → ReceivesNext mid last hearing piece → hearing ≡ is → Adds mid.events last.events (event_of is piece ∷ [])
event_is mid last hearing is piece receives same = subst (λ (h : Hearing). Adds mid.events last.events (event_of h piece ∷ [])) same receives.event

-- what does not end a round is not the link's end
not_ended : (server : Address) (before : List NetEvent) (event : NetEvent) → ends_round server before event ≡ false → is_ended event ≡ false
not_ended server before (Came from at bytes) on = refl
not_ended server before Silent on = refl
not_ended server before Ended on = absurd (true≢false on)
not_ended server before (Timed moment) on = refl
not_ended server before (Went to bytes) on = refl

-- a list that is not empty has a last item
record Ended_by (events : List NetEvent) : Type 0 where
  pub prefix : List NetEvent
  pub last : NetEvent
  pub is : events ≡ prefix ++ last ∷ []

ended_by : (first : NetEvent) (events : List NetEvent) → Ended_by (first ∷ events)
ended_by first [] = record { prefix = []; last = first; is = refl }
ended_by first (next ∷ events) = let rest = ended_by next events in record { prefix = first ∷ rest.prefix; last = rest.last; is = ap (λ (l : List NetEvent). first ∷ l) rest.is }

GoOn-last : (server : Address) (before prefix : List NetEvent) (last : NetEvent) → GoOn server before (prefix ++ last ∷ []) →
    GoOn server before prefix × (is_hearing last ≡ true) × (ends_round server (before ++ prefix) last ≡ false)
GoOn-last server before [] last go = (tt, go.0, subst (λ (l : List NetEvent). ends_round server l last ≡ false) (sym (append-nil before)) go.1)
GoOn-last server before (first ∷ prefix) last go =
    let rest = GoOn-last server (before ++ first ∷ []) prefix last go.2 in
    ((go.0, go.1, rest.0), rest.1, subst (λ (l : List NetEvent). ends_round server l last ≡ false) (append_assoc before (first ∷ []) prefix) rest.2)

no_exchange : (server : Address) (poll : Poll) (events : List NetEvent) → HasPolled poll server (history_of events) → HasPolled poll server (history_of events ++ [])
no_exchange server poll events polled = subst (λ (l : List Event). HasPolled poll server l) (sym (append-nil (history_of events))) polled

longer : (server : Address) (made : List Round) (moment : ℕ) (earlier : List NetEvent) (event : NetEvent) →
    (events_in server made ++ (asking server moment ++ earlier)) ++ event ∷ [] ≡ events_in server made ++ (asking server moment ++ (earlier ++ event ∷ []))
longer server made moment earlier event =
    append_assoc (events_in server made) (asking server moment ++ earlier) (event ∷ []) ∙ ap (λ (l : List NetEvent). events_in server made ++ l) (append_assoc (asking server moment) earlier (event ∷ []))

module _ (session : Session) where
  -- a datagram, whose entry was kept
  pub receives_datagram : (poll now : Poll) (last : LinkState) (claim : Claim) (full accepted : Bool) (events : List NetEvent) (hearing : Hearing) (arrival : Arrival) (piece : List ℕ) (feed : ℕ) (what : What) →
      HasDone poll session events → session.share.begun.number ≡ feed → ReceivesNext session.link last hearing piece → hearing ≡ Datagram arrival → last.faults ≡ session.link.faults →
      HasPolled now session.server (history_of events ++ Answered arrival.at arrival.from (take arrival.length piece) ∷ []) →
      what ≡ what_of (judge session.server (history_of events) arrival.at arrival.from (take arrival.length piece)) →
      accepted ≡ is_ok (judge session.server (history_of events) arrival.at arrival.from (take arrival.length piece)) →
      ((due : List Entry) → Keeps session.share due → Keeps (record session.share { claim = claim; full = full }) (due ++ record { feed = feed; at = arrival.at; what = what } ∷ [])) →
      (ends_round session.server events (Came arrival.from arrival.at (take arrival.length piece)) ≡ accepted)
      × HasDone now (on_to session last claim full) (events ++ Came arrival.from arrival.at (take arrival.length piece) ∷ [])
  receives_datagram poll now last claim full accepted events hearing arrival piece feed what done same receives is faults polled what_is accepted_is keeps =
      let event = Came arrival.from arrival.at (take arrival.length piece) in
      let entry : Entry = record { feed = feed; at = arrival.at; what = what } in
      let one : entry_after session.share.begun.number session.server events event ≡ entry ∷ [] =
      ap (λ (n : ℕ). only (record { feed = n; at = arrival.at; what = what_of (judge session.server (history_of events) arrival.at arrival.from (take arrival.length piece)) })) same
      ∙ ap (λ (w : What). only (record { feed = feed; at = arrival.at; what = w })) (sym what_is) in
      (sym accepted_is, done_kept session poll now last claim full events event entry done one (event_is session.link last hearing (Datagram arrival) piece receives is) faults polled keeps)

  -- nothing came, or the link's end
  pub receives_quiet : (poll : Poll) (last : LinkState) (events : List NetEvent) (hearing : Hearing) (piece : List ℕ) →
      HasDone poll session events → ReceivesNext session.link last hearing piece → hearing ≡ Quiet → last.faults ≡ session.link.faults →
      HasDone poll (record session { link = last }) (events ++ Silent ∷ [])
  receives_quiet poll last events hearing piece done receives is faults =
      done_more session poll poll last events Silent done refl (event_is session.link last hearing Quiet piece receives is) faults (no_exchange session.server poll events done.polled)

  pub receives_end : (poll : Poll) (last : LinkState) (events : List NetEvent) (hearing : Hearing) (piece : List ℕ) →
      HasDone poll session events → ReceivesNext session.link last hearing piece → hearing ≡ End → last.faults ≡ session.link.faults →
      HasDone poll (record session { link = last }) (events ++ Ended ∷ [])
  receives_end poll last events hearing piece done receives is faults =
      done_more session poll poll last events Ended done refl (event_is session.link last hearing End piece receives is) faults (no_exchange session.server poll events done.polled)

  -- the request was not sent
  pub unsent : (poll : Poll) (reported last : LinkState) (count polls moment : ℕ) → count < polls → Polled poll session count →
      ReportsMoment session.link reported moment → Adds reported.events last.events [] → RoseByOne reported.faults last.faults →
      RunsPolls (record session { link = last }) polls LinkFault
  unsent poll reported last count polls moment lt p reports none rose =
      let events = events_in session.server p.made in
      let feed = session.share.begun.number in
      let kept : Keeps session.share (due_link feed session.server (events ++ Timed moment ∷ [])) =
      subst (λ (due : List Entry). Keeps session.share due) (sym (due_link-push feed session.server events (Timed moment) ∙ append-nil (due_link feed session.server events))) p.done.kept in
      ends_cut (record session { link = last }) p.made count p.whole p.size p.open_all polls (Timed moment ∷ []) lt
      (Adds-more session.begun.events session.link.events last.events events (Timed moment ∷ []) p.done.reported (Adds-more session.link.events reported.events last.events (Timed moment ∷ []) [] reports.event none))
      kept (moment, inl refl) (subst (λ (n : ℕ). RoseByOne n last.faults) (reports.no_fault ∙ p.done.no_fault) rose)

  -- the request was sent
  pub asked : (poll now : Poll) (reported last : LinkState) (count moment : ℕ) (request : List ℕ) → Polled poll session count →
      ReportsMoment session.link reported moment → ((history : List Event) → HasPolled poll session.server history → HasPolled now session.server (history ++ Asked moment ∷ [])) →
      Adds reported.events last.events (Went session.server request ∷ []) → last.faults ≡ reported.faults → request ≡ layout (request_header moment) →
      InRound now (record session { link = last }) count 0
  asked poll now reported last count moment request p reports polled sent same is =
      let server = session.server in
      let events = events_in server p.made in
      let timed = done_more session poll now reported events (Timed moment) p.done refl reports.event reports.no_fault (polled (history_of events) p.done.polled) in
      let went = done_more (record session { link = reported }) now now last (events ++ Timed moment ∷ []) (Went server (layout (request_header moment))) timed refl
      (subst (λ (bytes : List ℕ). Adds reported.events last.events (Went server bytes ∷ [])) is sent) same (no_exchange server now (events ++ Timed moment ∷ []) timed.polled) in
      record {
        made = p.made;
        whole = p.whole;
        size = p.size;
        open_all = p.open_all;
        moment = moment;
        earlier = [];
        goes = tt;
        received_is = refl;
        done = subst (λ (l : List NetEvent). HasDone now (record session { link = last }) l) (append_assoc events (Timed moment ∷ []) (Went server (layout (request_header moment)) ∷ [])) went;
      }

  module _ (poll now : Poll) (last : LinkState) (claim : Claim) (full : Bool) (count heard : ℕ) (r : InRound poll session count heard) where
    -- a hearing after which the round goes on
    pub round_on : ReceivesOne now (on_to session last claim full) (events_in session.server r.made ++ (asking session.server r.moment ++ r.earlier)) On →
        InRound now (on_to session last claim full) count (heard + 1)
    round_on h = record {
      made = r.made;
      whole = r.whole;
      size = r.size;
      open_all = r.open_all;
      moment = r.moment;
      earlier = r.earlier ++ h.0 ∷ [];
      goes = GoOn-push session.server (events_in session.server r.made ++ asking session.server r.moment) r.earlier h.0 r.goes h.1
          (subst (λ (l : List NetEvent). ends_round session.server l h.0 ≡ false) (sym (append_assoc (events_in session.server r.made) (asking session.server r.moment) r.earlier)) h.2);
      received_is = omega (arith, r.received_is, length-append r.earlier (h.0 ∷ []));
      done = subst (λ (l : List NetEvent). HasDone now (on_to session last claim full) l) (longer session.server r.made r.moment r.earlier h.0) h.4;
    }

    -- a hearing that ends the round
    pub round_over : heard ≤ 7 → ReceivesOne now (on_to session last claim full) (events_in session.server r.made ++ (asking session.server r.moment ++ r.earlier)) Over →
        Polled now (on_to session last claim full) (count + 1)
    round_over few h =
        let round : Round = record { moment = r.moment; earlier = r.earlier; last = h.0 } in
        polled_more (on_to session last claim full) r.made count r.whole r.size r.open_all now round
        (subst (λ (l : List NetEvent). HasDone now (on_to session last claim full) l) (longer session.server r.made r.moment r.earlier h.0) h.4)
        (record { goes = r.goes; hearing = h.1; few = omega (arith, few, r.received_is); ends = inl h.2 }) h.3

    -- the link's end
    pub round_end : (polls : ℕ) → count < polls → heard ≤ 7 → ReceivesOne now (on_to session last claim full) (events_in session.server r.made ++ (asking session.server r.moment ++ r.earlier)) how.End →
        RunsPolls (on_to session last claim full) polls LinkEnd
    round_end polls lt few h =
        let round : Round = record { moment = r.moment; earlier = r.earlier; last = Ended } in
        ends_link (on_to session last claim full) r.made count r.whole r.size r.open_all now polls round lt
        (subst (λ (l : List NetEvent). HasDone now (on_to session last claim full) l) (longer session.server r.made r.moment r.earlier Ended) h)
        (record { goes = r.goes; hearing = refl; few = omega (arith, few, r.received_is); ends = inl refl }) refl

    -- a hearing that failed
    pub round_cut : (polls : ℕ) → count < polls → heard ≤ 7 → ReceivesOne now (on_to session last claim full) (events_in session.server r.made ++ (asking session.server r.moment ++ r.earlier)) Fault →
        RunsPolls (on_to session last claim full) polls LinkFault
    round_cut polls lt few h =
        ends_cut (on_to session last claim full) r.made count r.whole r.size r.open_all polls (asking session.server r.moment ++ r.earlier) lt h.0 h.2
        (r.moment, inr (r.earlier, refl, r.goes, omega (arith, few, r.received_is))) h.1

  -- eight hearings, none of which ends the round: the eighth does
  pub round_full : (poll : Poll) (count heard : ℕ) → heard ≡ 8 → InRound poll session count heard → Polled poll session (count + 1)
  round_full poll count heard all_eight r = eighth r.earlier refl
    where
      eighth : (earlier : List NetEvent) → r.earlier ≡ earlier → Polled poll session (count + 1)
      eighth [] none = absurd (let size = ap (λ (l : List NetEvent). length l) none in omega (arith, r.received_is, size, all_eight))
      eighth (first ∷ events) is =
          let by = ended_by first events in
          let same : r.earlier ≡ by.prefix ++ by.last ∷ [] = is ∙ by.is in
          let sizes = ap (λ (l : List NetEvent). length l) same in
          let before = events_in session.server r.made ++ asking session.server r.moment in
          let goes = GoOn-last session.server before by.prefix by.last (subst (λ (l : List NetEvent). GoOn session.server before l) same r.goes) in
          let round : Round = record { moment = r.moment; earlier = by.prefix; last = by.last } in
          let seven : length by.prefix ≡ 7 = omega (arith, r.received_is, all_eight, sizes, length-append by.prefix (by.last ∷ [])) in
          polled_more session r.made count r.whole r.size r.open_all poll round
          (subst (λ (l : List NetEvent). HasDone poll session (events_in session.server r.made ++ (asking session.server r.moment ++ l))) same r.done)
          (record { goes = goes.0; hearing = goes.1; few = omega (arith, seven); ends = inr seven })
          (not_ended session.server (before ++ by.prefix) by.last goes.2)
