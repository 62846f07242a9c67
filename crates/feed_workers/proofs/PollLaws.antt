-- The events of a poller, one more at the end, and round after round.
use Rattle.std.proofs.Common.{◌≡◌, ℕ, ◌+◌, ◌<◌, List, [], ◌∷◌, ◌++◌, length, Bool, true, false, refl, sym, ap, ◌∙◌, subst, arith, length-append, append_assoc}
use Rattle.std.specs.Prelude.{All}
use Rattle.std.proofs.lemmas.Grind.{flat_map-append}
use Rattle.std.proofs.lemmas.List.{append-nil}
use Rattle.std.proofs.lemmas.List.Elements.{All-nil, All-push}
use Rattle.outside_traits.specs.Faults.{RoseByOne}
use Rattle.outside_traits.specs.States.{NetEvent, LinkState, Adds}
use Rattle.outside_traits.specs.States.NetEvent.{Ended}
use Rattle.outside_traits.specs.declared.outside.Address.{Address}
use Rattle.outside_traits.proofs.StateLaws.{Adds-none, Adds-more}
use Rattle.journal_entry.specs.declared.entry.Entry.{Entry}
use Rattle.page_cell.specs.declared.view.Claim.{Claim}
use Rattle.poll_core.specs.Histories.{Event}
use Rattle.poll_core.specs.Polling.{HasPolled}
use Rattle.poll_core.specs.declared.poll.Poll.{Poll}
use Rattle.feed_workers.specs.Asking.{HasDone, Polled}
use Rattle.feed_workers.specs.Keeping.{Keeps}
use Rattle.feed_workers.specs.Polling.{RunsPolls, Session, session_at}
use Rattle.feed_workers.specs.Polls.{Round, events_of, events_in, exchanges_of, history_of, entry_after, due_after, due_link, ends_round, is_hearing, GoOn, IsWhole, AreWhole, IsOpen, IsCut}
use Rattle.feed_workers.specs.declared.work.PollEnd.TheVariants.{Rounds, LinkEnd, LinkFault}
use Rattle.feed_workers.proofs.KeepLaws.{keeps_none}

-- one event more at the end
due_push : (feed : ℕ) (server : Address) (before events : List NetEvent) (event : NetEvent) →
    due_after feed server before (events ++ event ∷ []) ≡ due_after feed server before events ++ entry_after feed server (before ++ events) event
due_push feed server before [] event = append-nil (entry_after feed server before event) ∙ ap (λ (l : List NetEvent). entry_after feed server l event) (sym (append-nil before))
due_push feed server before (first ∷ events) event =
    ap (λ (l : List Entry). entry_after feed server before first ++ l) (due_push feed server (before ++ first ∷ []) events event)
    ∙ sym (append_assoc (entry_after feed server before first) (due_after feed server (before ++ first ∷ []) events) (entry_after feed server ((before ++ first ∷ []) ++ events) event))
    ∙ ap (λ (l : List NetEvent). (entry_after feed server before first ++ due_after feed server (before ++ first ∷ []) events) ++ entry_after feed server l event) (append_assoc before (first ∷ []) events)

pub due_link-push : (feed : ℕ) (server : Address) (events : List NetEvent) (event : NetEvent) →
    due_link feed server (events ++ event ∷ []) ≡ due_link feed server events ++ entry_after feed server events event
due_link-push feed server events event = due_push feed server [] events event

history-push : (events : List NetEvent) (event : NetEvent) → history_of (events ++ event ∷ []) ≡ history_of events ++ exchanges_of event
history-push events event = flat_map-append exchanges_of events (event ∷ []) ∙ ap (λ (l : List Event). history_of events ++ l) (append-nil (exchanges_of event))

pub GoOn-push : (server : Address) (before events : List NetEvent) (event : NetEvent) → GoOn server before events → is_hearing event ≡ true → ends_round server (before ++ events) event ≡ false →
    GoOn server before (events ++ event ∷ [])
GoOn-push server before [] event go is not_end = (is, subst (λ (l : List NetEvent). ends_round server l event ≡ false) (append-nil before) not_end, tt)
GoOn-push server before (first ∷ events) event go is not_end =
    (go.0, go.1, GoOn-push server (before ++ first ∷ []) events event go.2 is (subst (λ (l : List NetEvent). ends_round server l event ≡ false) (sym (append_assoc before (first ∷ []) events)) not_end))

pub events_in-push : (server : Address) (rounds : List Round) (round : Round) → events_in server (rounds ++ round ∷ []) ≡ events_in server rounds ++ events_of server round
events_in-push server rounds round = flat_map-append (events_of server) rounds (round ∷ []) ∙ ap (λ (l : List NetEvent). events_in server rounds ++ l) (append-nil (events_of server round))

AreWhole-push-later : (server : Address) (before : List NetEvent) (rounds : List Round) (round : Round) → AreWhole server before rounds → IsWhole server (before ++ events_in server rounds) round →
    AreWhole server before (rounds ++ round ∷ [])
AreWhole-push-later server before [] round are is = (subst (λ (l : List NetEvent). IsWhole server l round) (append-nil before) is, tt)
AreWhole-push-later server before (first ∷ rounds) round are is =
    (are.0, AreWhole-push-later server (before ++ events_of server first) rounds round are.1 (subst (λ (l : List NetEvent). IsWhole server l round) (sym (append_assoc before (events_of server first) (events_in server rounds))) is))

pub AreWhole-push : (server : Address) (rounds : List Round) (round : Round) → AreWhole server [] rounds → IsWhole server (events_in server rounds) round → AreWhole server [] (rounds ++ round ∷ [])
AreWhole-push server rounds round are is = AreWhole-push-later server [] rounds round are is

-- the same polls, with the link and the claim as they are now
abbrev pub on_to : Session → LinkState → Claim → (full : Bool) → Session
on_to session link claim full = record session { link = link; share = record session.share { claim = claim; full = full } }

-- nothing is done yet
pub polled_none : (server : Address) (link : LinkState) (claim : Claim) (limit : ℕ) (poll : Poll) → HasPolled poll server [] →
    Polled poll (session_at server link link (record { begun = claim; claim = claim; limit = limit; full = false })) 0
polled_none server link claim limit poll polled = record {
  made = [];
  done = record { reported = Adds-none link.events; polled = polled; kept = keeps_none claim limit; no_fault = refl };
  whole = tt;
  size = refl;
  open_all = All-nil IsOpen;
}

module _ (session : Session) where
  -- an event that has no entry
  pub done_more : (poll now : Poll) (last : LinkState) (events : List NetEvent) (event : NetEvent) → HasDone poll session events →
      entry_after session.share.begun.number session.server events event ≡ [] → Adds session.link.events last.events (event ∷ []) → last.faults ≡ session.link.faults →
      HasPolled now session.server (history_of events ++ exchanges_of event) → HasDone now (record session { link = last }) (events ++ event ∷ [])
  done_more poll now last events event h none reported same polled = record {
    reported = Adds-more session.begun.events session.link.events last.events events (event ∷ []) h.reported reported;
    polled = subst (λ (l : List Event). HasPolled now session.server l) (sym (history-push events event)) polled;
    kept = subst (λ (due : List Entry). Keeps session.share due)
        (sym (due_link-push session.share.begun.number session.server events event ∙ ap (λ (l : List Entry). due_link session.share.begun.number session.server events ++ l) none ∙ append-nil (due_link session.share.begun.number session.server events))) h.kept;
    no_fault = same ∙ h.no_fault;
  }

  -- an event whose entry was kept
  pub done_kept : (poll now : Poll) (last : LinkState) (claim : Claim) (full : Bool) (events : List NetEvent) (event : NetEvent) (entry : Entry) →
      HasDone poll session events → entry_after session.share.begun.number session.server events event ≡ entry ∷ [] → Adds session.link.events last.events (event ∷ []) → last.faults ≡ session.link.faults →
      HasPolled now session.server (history_of events ++ exchanges_of event) →
      ((due : List Entry) → Keeps session.share due → Keeps (record session.share { claim = claim; full = full }) (due ++ entry ∷ [])) →
      HasDone now (on_to session last claim full) (events ++ event ∷ [])
  done_kept poll now last claim full events event entry h one reported same polled keeps = record {
    reported = Adds-more session.begun.events session.link.events last.events events (event ∷ []) h.reported reported;
    polled = subst (λ (l : List Event). HasPolled now session.server l) (sym (history-push events event)) polled;
    kept = subst (λ (due : List Entry). Keeps (record session.share { claim = claim; full = full }) due)
        (sym (due_link-push session.share.begun.number session.server events event ∙ ap (λ (l : List Entry). due_link session.share.begun.number session.server events ++ l) one)) (keeps (due_link session.share.begun.number session.server events) h.kept);
    no_fault = same ∙ h.no_fault;
  }

  module _ (made : List Round) (count : ℕ) (are : AreWhole session.server [] made) (size : length made ≡ count) (all : All IsOpen made) where
    -- one whole round more
    pub polled_more : (poll : Poll) (round : Round) → HasDone poll session (events_in session.server made ++ events_of session.server round) →
        IsWhole session.server (events_in session.server made) round → IsOpen round → Polled poll session (count + 1)
    polled_more poll round done whole open_one = record {
      made = made ++ round ∷ [];
      done = subst (λ (l : List NetEvent). HasDone poll session l) (sym (events_in-push session.server made round)) done;
      whole = AreWhole-push session.server made round are whole;
      size = omega (arith, size, length-append made (round ∷ []));
      open_all = All-push IsOpen made round all open_one;
    }

    -- the last round, which heard the link's end
    pub ends_link : (poll : Poll) (polls : ℕ) (round : Round) → count < polls →
        HasDone poll session (events_in session.server made ++ events_of session.server round) → IsWhole session.server (events_in session.server made) round → round.last ≡ Ended →
        RunsPolls session polls LinkEnd
    ends_link poll polls round lt done whole ended = record {
      events = events_in session.server made ++ events_of session.server round;
      reported = done.reported;
      kept = done.kept;
      ends = (made, round, sym (events_in-push session.server made round), AreWhole-push session.server made round are whole, omega (arith, size, lt), all, ended, done.no_fault);
    }

    -- a round that was cut
    pub ends_cut : (polls : ℕ) (cut : List NetEvent) → count < polls → Adds session.begun.events session.link.events (events_in session.server made ++ cut) →
        Keeps session.share (due_link session.share.begun.number session.server (events_in session.server made ++ cut)) → IsCut session.server (events_in session.server made) cut →
        RoseByOne session.begun.faults session.link.faults → RunsPolls session polls LinkFault
    ends_cut polls cut lt reported kept is rose = record {
      events = events_in session.server made ++ cut;
      reported = reported;
      kept = kept;
      ends = (made, cut, refl, are, omega (arith, size, lt), all, is, rose);
    }

  -- all polls were made
  pub ends_all : (poll : Poll) (polls : ℕ) → Polled poll session polls → RunsPolls session polls Rounds
  ends_all poll polls p = record {
    events = events_in session.server p.made;
    reported = p.done.reported;
    kept = p.done.kept;
    ends = (p.made, refl, p.whole, p.size, p.open_all, p.done.no_fault);
  }
