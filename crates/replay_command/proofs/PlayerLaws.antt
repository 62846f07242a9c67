-- One line more for a player.
use Rattle.std.proofs.Common.{◌≡◌, ◌∙◌, ℕ, Bool, true, false, Some, None, Ok, Err, Result, List, [], ◌∷◌, ◌++◌, refl, sym, ap, subst}
use Rattle.std.proofs.lemmas.List.{append-nil}
use Rattle.std.specs.Option.{option_to_list}
use Rattle.tick_units.specs.declared.marks.Reduction.{Reduction}
use Rattle.journal_entry.specs.declared.entry.Entry.{Entry}
use Rattle.radio_receiver.specs.Histories.{History}
use Rattle.clock_page.specs.Page.{PageFields}
use Rattle.ntp_packet.specs.Layout.{layout}
use Rattle.ntp_packet.specs.declared.header.Header.{Header}
use Rattle.poll_core.specs.Formulas.{request_header}
use Rattle.reply_core.specs.Reply.{request_of}
use Rattle.reply_core.specs.declared.code.Code.{Code}
use Rattle.reply_core.specs.declared.dropped.Dropped.{Dropped as WhyDropped}
use Rattle.sealed_reply.specs.Replies.{reply_to}
use Rattle.kiss_gate.specs.Clients.{IsJudged, after, code_of as code_for}
use Rattle.kiss_gate.specs.declared.judged.Judged.{Judged}
use Rattle.system_fold.specs.Settings.{SettingsFields}
use Rattle.packet_auth.specs.Keys.{KeyFields, keys_of}
use Rattle.station_values.specs.Station.{StationFields, settings_of}
use Rattle.script_line.specs.declared.line.ScriptLine.{ScriptLine}
use Rattle.script_line.specs.declared.line.ScriptLine.TheVariants.{Pulse, Ask, Answer, Swap, Request, Leap}
use Rattle.replay_command.specs.Keeping.{JournalFields}
use Rattle.replay_command.specs.Replay.{MayKeepSender, Played, ReplayCase, due, due_to, gate_after, gate_with, gate_with_datagram, is_valid, is_leap_feed, lines_of, may_receive, may_poll, may_swap, may_announce, outcome_of_due, outcome_of_request, page_after, played_so, radio_of, sender_of, server_of}
use Rattle.replay_command.specs.KeptPlayer.{HasAnswered, HasGiven, HasReceivedPulse, HasKept, HasLeap, HasPlayed, HasRadios, HasServers, HasReported}
use Rattle.replay_command.specs.declared.outcome.Outcome.{Outcome}
use Rattle.replay_command.specs.declared.outcome.Outcome.TheVariants.{Nothing, Asked, Replied, Dropped}
use Rattle.replay_command.specs.declared.player.Player.{Player}
use Rattle.replay_command.proofs.LeapLaws.{HasLeap-answer, HasLeap-ask, HasLeap-other, no_moment}
use Rattle.replay_command.proofs.LineLaws.{due_push}
use Rattle.replay_command.proofs.ReplayLaws.{gate_push, lines_push}
use Rattle.replay_command.proofs.RadioLaws.{HasRadios-other}
use Rattle.replay_command.proofs.ServerLaws.{HasServers-other}

-- a player with one line more
plays-on : {B : Type 0} (stands : B → History → Type 0) (player : Player B) (of : ReplayCase) (before : List Played) (line : ScriptLine) (was_kept : Bool) →
    HasRadios stands player.radios of.station (lines_of before ++ line ∷ []) → HasServers player.servers of.station (lines_of before ++ line ∷ []) →
    HasLeap player.leap of.station (lines_of before ++ line ∷ []) → HasKept player.journal (settings_of of.station) of.limit (due of.station (lines_of before ++ line ∷ [])) → keys_of player.keys ≡ of.station.keys →
    player.clients ≡ gate_with (gate_after of.station before) line was_kept → HasPlayed stands player of (before ++ played_so line was_kept ∷ [])
plays-on stands player of before line was_kept radios servers leap journal keys clients =
    let same = sym (lines_push before (played_so line was_kept)) in
    record {
      radios = subst (HasRadios stands player.radios of.station) same radios;
      servers = subst (HasServers player.servers of.station) same servers;
      leap = subst (HasLeap player.leap of.station) same leap;
      journal = subst (λ ls. HasKept player.journal (settings_of of.station) of.limit (due of.station ls)) same journal;
      keys = keys;
      clients = clients ∙ sym (gate_push of.station before (played_so line was_kept));
    }

-- a line that is due no entry leaves the journal
same-journal : (journal : JournalFields) (station : StationFields) (limit : ℕ) (lines : List ScriptLine) (line : ScriptLine) → due_to station lines line ≡ None →
    HasKept journal (settings_of station) limit (due station lines) → HasKept journal (settings_of station) limit (due station (lines ++ line ∷ []))
same-journal journal station limit lines line none h =
    subst (HasKept journal (settings_of station) limit)
    (sym (due_push station lines line ∙ ap (λ o. due station lines ++ option_to_list o) none ∙ append-nil (due station lines))) h

-- one that is due an entry adds it
more-journal : (old new : JournalFields) (station : StationFields) (limit : ℕ) (lines : List ScriptLine) (line : ScriptLine) (e : Entry) → Some e ≡ due_to station lines line →
    ((settings : SettingsFields) (limit : ℕ) (entries : List Entry) → HasKept old settings limit entries → HasKept new settings limit (entries ++ e ∷ [])) →
    HasKept old (settings_of station) limit (due station lines) → HasKept new (settings_of station) limit (due station (lines ++ line ∷ []))
more-journal old new station limit lines line e is keeps h =
    subst (HasKept new (settings_of station) limit)
    (sym (due_push station lines line ∙ ap (λ o. due station lines ++ option_to_list o) (sym is)))
    (keeps (settings_of station) limit (due station lines) h)

-- nothing was changed
pub still : {B : Type 0} (stands : B → History → Type 0) (old new : Player B) (of : ReplayCase) (before : List Played) (valid : Bool) →
    new.servers ≡ old.servers → new.leap ≡ old.leap → new.journal ≡ old.journal → new.keys ≡ old.keys → new.clients ≡ old.clients → (valid ≡ false) × HasRadios stands new.radios of.station (lines_of before) →
    HasPlayed stands old of before → (valid ≡ false) × HasPlayed stands new of before
still stands old new of before valid servers leap journal keys clients refused h = (
  refused.0,
  record {
    radios = refused.1;
    servers = subst (λ s. HasServers s of.station (lines_of before)) (sym servers) h.servers;
    leap = subst (λ l. HasLeap l of.station (lines_of before)) (sym leap) h.leap;
    journal = subst (λ j. HasKept j (settings_of of.station) of.limit (due of.station (lines_of before))) (sym journal) h.journal;
    keys = ap keys_of keys ∙ h.keys;
    clients = clients ∙ h.clients;
  },
)

pub still-servers : {B : Type 0} (stands : B → History → Type 0) (old new : Player B) (of : ReplayCase) (before : List Played) (valid : Bool) →
    new.radios ≡ old.radios → new.leap ≡ old.leap → new.journal ≡ old.journal → new.keys ≡ old.keys → new.clients ≡ old.clients → (valid ≡ false) × HasServers new.servers of.station (lines_of before) →
    HasPlayed stands old of before → (valid ≡ false) × HasPlayed stands new of before
still-servers stands old new of before valid radios leap journal keys clients refused h = (
  refused.0,
  record {
    radios = subst (λ r. HasRadios stands r of.station (lines_of before)) (sym radios) h.radios;
    servers = refused.1;
    leap = subst (λ l. HasLeap l of.station (lines_of before)) (sym leap) h.leap;
    journal = subst (λ j. HasKept j (settings_of of.station) of.limit (due of.station (lines_of before))) (sym journal) h.journal;
    keys = ap keys_of keys ∙ h.keys;
    clients = clients ∙ h.clients;
  },
)

pub still-leap : {B : Type 0} (stands : B → History → Type 0) (old new : Player B) (of : ReplayCase) (before : List Played) (valid : Bool) →
    new.radios ≡ old.radios → new.servers ≡ old.servers → new.journal ≡ old.journal → new.keys ≡ old.keys → new.clients ≡ old.clients → (valid ≡ false) × HasLeap new.leap of.station (lines_of before) →
    HasPlayed stands old of before → (valid ≡ false) × HasPlayed stands new of before
still-leap stands old new of before valid radios servers journal keys clients refused h = (
  refused.0,
  record {
    radios = subst (λ r. HasRadios stands r of.station (lines_of before)) (sym radios) h.radios;
    servers = subst (λ s. HasServers s of.station (lines_of before)) (sym servers) h.servers;
    leap = refused.1;
    journal = subst (λ j. HasKept j (settings_of of.station) of.limit (due of.station (lines_of before))) (sym journal) h.journal;
    keys = ap keys_of keys ∙ h.keys;
    clients = clients ∙ h.clients;
  },
)

-- a pulse that completes a minute
pub receives-entry : {B : Type 0} (stands : B → History → Type 0) (old new : Player B) (of : ReplayCase) (before : List Played) (feed : ℕ) (reduction : Reduction) (e : Entry) (given : Outcome) →
    (may_receive (radio_of of.station feed) feed reduction (lines_of before) ≡ true) × HasReceivedPulse stands new.radios of.station (lines_of before) (Pulse feed reduction) (Some e) →
    new.servers ≡ old.servers → new.leap ≡ old.leap → new.keys ≡ old.keys → new.clients ≡ old.clients →
    ((settings : SettingsFields) (limit : ℕ) (entries : List Entry) → HasKept old.journal settings limit entries → HasKept new.journal settings limit (entries ++ e ∷ [])) →
    ((settings : SettingsFields) (limit : ℕ) (entries : List Entry) → HasKept old.journal settings limit entries → given ≡ outcome_of_due settings limit entries (Some e)) →
    HasPlayed stands old of before →
    (is_valid of.station (lines_of before) (Pulse feed reduction) ≡ true) × HasGiven stands new of before (Pulse feed reduction) given
receives-entry stands old new of before feed reduction e given heard servers leap keys clients keeps gives h =
    let lines = lines_of before in
    let line = Pulse feed reduction in (
      heard.0,
      record {
        was_kept = true;
        may_be = refl;
        played = plays-on stands new of before line true
            heard.1.played
            (HasServers-other new.servers of.station lines line (λ f a. refl) (λ p within. refl) (subst (λ s. HasServers s of.station lines) (sym servers) h.servers))
            (HasLeap-other new.leap of.station lines line refl (subst (λ l. HasLeap l of.station lines) (sym leap) h.leap))
            (more-journal old.journal new.journal of.station of.limit lines line e heard.1.due_is keeps h.journal)
            (ap keys_of keys ∙ h.keys)
            (clients ∙ h.clients);
        outcome_is = gives (settings_of of.station) of.limit (due of.station lines) h.journal ∙ ap (outcome_of_due (settings_of of.station) of.limit (due of.station lines)) heard.1.due_is;
      },
    )

-- a pulse that completes none
pub receives-none : {B : Type 0} (stands : B → History → Type 0) (old new : Player B) (of : ReplayCase) (before : List Played) (feed : ℕ) (reduction : Reduction) →
    (may_receive (radio_of of.station feed) feed reduction (lines_of before) ≡ true) × HasReceivedPulse stands new.radios of.station (lines_of before) (Pulse feed reduction) None →
    new.servers ≡ old.servers → new.leap ≡ old.leap → new.journal ≡ old.journal → new.keys ≡ old.keys → new.clients ≡ old.clients → HasPlayed stands old of before →
    (is_valid of.station (lines_of before) (Pulse feed reduction) ≡ true) × HasGiven stands new of before (Pulse feed reduction) Nothing
receives-none stands old new of before feed reduction heard servers leap journal keys clients h =
    let lines = lines_of before in
    let line = Pulse feed reduction in (
      heard.0,
      record {
        was_kept = true;
        may_be = refl;
        played = plays-on stands new of before line true
            heard.1.played
            (HasServers-other new.servers of.station lines line (λ f a. refl) (λ p within. refl) (subst (λ s. HasServers s of.station lines) (sym servers) h.servers))
            (HasLeap-other new.leap of.station lines line refl (subst (λ l. HasLeap l of.station lines) (sym leap) h.leap))
            (same-journal new.journal of.station of.limit lines line (sym heard.1.due_is) (subst (λ j. HasKept j (settings_of of.station) of.limit (due of.station lines)) (sym journal) h.journal))
            (ap keys_of keys ∙ h.keys)
            (clients ∙ h.clients);
        outcome_is = ap (outcome_of_due (settings_of of.station) of.limit (due of.station lines)) heard.1.due_is;
      },
    )

pub asks-server : {B : Type 0} (stands : B → History → Type 0) (old new : Player B) (of : ReplayCase) (before : List Played) (feed at : ℕ) (bytes : List ℕ) →
    (may_poll (server_of of.station feed) feed at (lines_of before) ≡ true) × HasServers new.servers of.station (lines_of before ++ Ask feed at ∷ []) → bytes ≡ layout (request_header at) →
    new.radios ≡ old.radios → new.leap ≡ old.leap → new.journal ≡ old.journal → new.keys ≡ old.keys → new.clients ≡ old.clients → HasPlayed stands old of before →
    (is_valid of.station (lines_of before) (Ask feed at) ≡ true) × HasGiven stands new of before (Ask feed at) (Asked bytes)
asks-server stands old new of before feed at bytes asked is radios leap journal keys clients h =
    let lines = lines_of before in
    let line = Ask feed at in (
      asked.0,
      record {
        was_kept = true;
        may_be = refl;
        played = plays-on stands new of before line true
            (HasRadios-other stands new.radios of.station lines line (λ f. refl) (λ f. refl) (λ p. refl) (subst (λ r. HasRadios stands r of.station lines) (sym radios) h.radios))
            asked.1
            (HasLeap-ask new.leap of.station lines feed at asked.0 (subst (λ l. HasLeap l of.station lines) (sym leap) h.leap))
            (same-journal new.journal of.station of.limit lines line refl (subst (λ j. HasKept j (settings_of of.station) of.limit (due of.station lines)) (sym journal) h.journal))
            (ap keys_of keys ∙ h.keys)
            (clients ∙ h.clients);
        outcome_is = ap Asked is;
      },
    )

pub answers-server : {B : Type 0} (stands : B → History → Type 0) (old new : Player B) (of : ReplayCase) (before : List Played) (feed at : ℕ) (datagram : List ℕ) (e : Entry) (given : Outcome) →
    (may_poll (server_of of.station feed) feed at (lines_of before) ≡ true) × HasAnswered new.servers of.station (lines_of before) (Answer feed at datagram) e →
    new.radios ≡ old.radios → new.leap ≡ old.leap → new.keys ≡ old.keys → new.clients ≡ old.clients →
    ((settings : SettingsFields) (limit : ℕ) (entries : List Entry) → HasKept old.journal settings limit entries → HasKept new.journal settings limit (entries ++ e ∷ [])) →
    ((settings : SettingsFields) (limit : ℕ) (entries : List Entry) → HasKept old.journal settings limit entries → given ≡ outcome_of_due settings limit entries (Some e)) →
    HasPlayed stands old of before →
    (is_valid of.station (lines_of before) (Answer feed at datagram) ≡ true) × HasGiven stands new of before (Answer feed at datagram) given
answers-server stands old new of before feed at datagram e given answered radios leap keys clients keeps gives h =
    let lines = lines_of before in
    let line = Answer feed at datagram in (
      answered.0,
      record {
        was_kept = true;
        may_be = refl;
        played = plays-on stands new of before line true
            (HasRadios-other stands new.radios of.station lines line (λ f. refl) (λ f. refl) (λ p. refl) (subst (λ r. HasRadios stands r of.station lines) (sym radios) h.radios))
            answered.1.played
            (HasLeap-answer new.leap of.station lines feed at datagram answered.0 (subst (λ l. HasLeap l of.station lines) (sym leap) h.leap))
            (more-journal old.journal new.journal of.station of.limit lines line e answered.1.due_is keeps h.journal)
            (ap keys_of keys ∙ h.keys)
            (clients ∙ h.clients);
        outcome_is = gives (settings_of of.station) of.limit (due of.station lines) h.journal ∙ ap (outcome_of_due (settings_of of.station) of.limit (due of.station lines)) answered.1.due_is;
      },
    )

pub swaps-radio : {B : Type 0} (stands : B → History → Type 0) (old new : Player B) (of : ReplayCase) (before : List Played) (feed : ℕ) →
    (may_swap of.station (radio_of of.station feed) (lines_of before) ≡ true) × HasRadios stands new.radios of.station (lines_of before ++ Swap feed ∷ []) →
    new.servers ≡ old.servers → new.leap ≡ old.leap → new.journal ≡ old.journal → new.keys ≡ old.keys → new.clients ≡ old.clients → HasPlayed stands old of before →
    (is_valid of.station (lines_of before) (Swap feed) ≡ true) × HasGiven stands new of before (Swap feed) Nothing
swaps-radio stands old new of before feed swapped servers leap journal keys clients h =
    let lines = lines_of before in
    let line = Swap feed in (
      swapped.0,
      record {
        was_kept = true;
        may_be = refl;
        played = plays-on stands new of before line true
            swapped.1
            (HasServers-other new.servers of.station lines line (λ f a. refl) (λ p within. refl) (subst (λ s. HasServers s of.station lines) (sym servers) h.servers))
            (HasLeap-other new.leap of.station lines line refl (subst (λ l. HasLeap l of.station lines) (sym leap) h.leap))
            (same-journal new.journal of.station of.limit lines line refl (subst (λ j. HasKept j (settings_of of.station) of.limit (due of.station lines)) (sym journal) h.journal))
            (ap keys_of keys ∙ h.keys)
            (clients ∙ h.clients);
        outcome_is = refl;
      },
    )

pub reports-leap : {B : Type 0} (stands : B → History → Type 0) (old new : Player B) (of : ReplayCase) (before : List Played) (feed at leap_at : ℕ) (e : Entry) (given : Outcome) →
    (may_announce (is_leap_feed of.station feed) feed at (lines_of before) ≡ true) × HasReported new.leap of.station (lines_of before) (Leap feed at leap_at) e →
    new.radios ≡ old.radios → new.servers ≡ old.servers → new.keys ≡ old.keys → new.clients ≡ old.clients →
    ((settings : SettingsFields) (limit : ℕ) (entries : List Entry) → HasKept old.journal settings limit entries → HasKept new.journal settings limit (entries ++ e ∷ [])) →
    ((settings : SettingsFields) (limit : ℕ) (entries : List Entry) → HasKept old.journal settings limit entries → given ≡ outcome_of_due settings limit entries (Some e)) →
    HasPlayed stands old of before →
    (is_valid of.station (lines_of before) (Leap feed at leap_at) ≡ true) × HasGiven stands new of before (Leap feed at leap_at) given
reports-leap stands old new of before feed at leap_at e given reported radios servers keys clients keeps gives h =
    let lines = lines_of before in
    let line = Leap feed at leap_at in (
      reported.0,
      record {
        was_kept = true;
        may_be = refl;
        played = plays-on stands new of before line true
            (HasRadios-other stands new.radios of.station lines line (λ f. refl) (λ f. refl) (λ p. refl) (subst (λ r. HasRadios stands r of.station lines) (sym radios) h.radios))
            (HasServers-other new.servers of.station lines line (λ f a. refl) (λ p within. no_moment of.station lines feed at leap_at p reported.0 within) (subst (λ s. HasServers s of.station lines) (sym servers) h.servers))
            reported.1.played
            (more-journal old.journal new.journal of.station of.limit lines line e reported.1.due_is keeps h.journal)
            (ap keys_of keys ∙ h.keys)
            (clients ∙ h.clients);
        outcome_is = gives (settings_of of.station) of.limit (due of.station lines) h.journal ∙ ap (outcome_of_due (settings_of of.station) of.limit (due of.station lines)) reported.1.due_is;
      },
    )

-- a request changes nothing but the gate
requests-on : {B : Type 0} (stands : B → History → Type 0) (old new : Player B) (of : ReplayCase) (before : List Played) (connection arrived sent : ℕ) (datagram : List ℕ) (was_kept : Bool) →
    new.radios ≡ old.radios → new.servers ≡ old.servers → new.leap ≡ old.leap → new.journal ≡ old.journal → new.keys ≡ old.keys →
    new.clients ≡ gate_with (gate_after of.station before) (Request connection arrived sent datagram) was_kept → HasPlayed stands old of before →
    HasPlayed stands new of (before ++ played_so (Request connection arrived sent datagram) was_kept ∷ [])
requests-on stands old new of before connection arrived sent datagram was_kept radios servers leap journal keys clients h =
    let lines = lines_of before in
    let line = Request connection arrived sent datagram in
    plays-on stands new of before line was_kept
    (HasRadios-other stands new.radios of.station lines line (λ f. refl) (λ f. refl) (λ p. refl) (subst (λ r. HasRadios stands r of.station lines) (sym radios) h.radios))
    (HasServers-other new.servers of.station lines line (λ f a. refl) (λ p within. refl) (subst (λ s. HasServers s of.station lines) (sym servers) h.servers))
    (HasLeap-other new.leap of.station lines line refl (subst (λ l. HasLeap l of.station lines) (sym leap) h.leap))
    (same-journal new.journal of.station of.limit lines line refl (subst (λ j. HasKept j (settings_of of.station) of.limit (due of.station lines)) (sym journal) h.journal))
    (ap keys_of keys ∙ h.keys)
    clients

-- a datagram that is no request
pub drops-request : {B : Type 0} (stands : B → History → Type 0) (player : Player B) (of : ReplayCase) (before : List Played) (connection arrived sent : ℕ) (datagram : List ℕ) (why : WhyDropped) →
    request_of datagram ≡ Err why → HasPlayed stands player of before →
    HasGiven stands player of before (Request connection arrived sent datagram) (Dropped why)
drops-request stands player of before connection arrived sent datagram why dropped h = record {
  was_kept = true;
  may_be = rw dropped refl;
  played = requests-on stands player player of before connection arrived sent datagram true refl refl refl refl refl (rw dropped h.clients) h;
  outcome_is = rw dropped refl;
}

-- what is replied to is a request
is-request : (keys : List KeyFields) (code : Code) (page : PageFields) (datagram : List ℕ) (arrived sent : ℕ) (bytes : List ℕ) → reply_to keys code page datagram arrived sent ≡ Ok bytes →
    (header : Header) × (request_of datagram ≡ Ok header)
is-request keys code page datagram arrived sent bytes replied = by (request_of datagram) refl
  where
    by : (r : Result Header WhyDropped) → request_of datagram ≡ r → (header : Header) × (request_of datagram ≡ Ok header)
    by (Ok header) is = (header, is)
    by (Err why) is = absurd (let never = rw is at replied in cc)

-- a request that was judged
pub judges-request : {B : Type 0} (stands : B → History → Type 0) (old new : Player B) (of : ReplayCase) (before : List Played) (connection arrived sent : ℕ) (datagram : List ℕ) (ip : ℕ) (judged : Judged) (bytes : List ℕ) (page : PageFields) →
    new.radios ≡ old.radios → new.servers ≡ old.servers → new.leap ≡ old.leap → new.journal ≡ old.journal → new.keys ≡ old.keys →
    ip ≡ sender_of connection → IsJudged old.clients ip arrived judged → new.clients ≡ after old.clients ip arrived judged.kept →
    reply_to (keys_of old.keys) judged.code page datagram arrived sent ≡ Ok bytes → page ≡ page_after of.station of.limit (lines_of before) → HasPlayed stands old of before →
    HasGiven stands new of before (Request connection arrived sent datagram) (Replied bytes judged.kept)
judges-request stands old new of before connection arrived sent datagram ip judged bytes page radios servers leap journal keys ip_is is_judged clients replied page_is h =
    let header = is-request (keys_of old.keys) judged.code page datagram arrived sent bytes replied in
    let of_gate : IsJudged (gate_after of.station before) (sender_of connection) arrived judged = subst (λ gate. IsJudged gate (sender_of connection) arrived judged) h.clients (subst (λ i. IsJudged old.clients i arrived judged) ip_is is_judged) in
    let now : new.clients ≡ after (gate_after of.station before) (sender_of connection) arrived judged.kept = clients ∙ ap (λ i. after old.clients i arrived judged.kept) ip_is ∙ ap (λ gate. after gate (sender_of connection) arrived judged.kept) h.clients in
    let replied_so : reply_to of.station.keys (code_for (gate_after of.station before) (sender_of connection) arrived) (page_after of.station of.limit (lines_of before)) datagram arrived sent ≡ Ok bytes =
    sym (ap (λ ks. reply_to ks (code_for (gate_after of.station before) (sender_of connection) arrived) (page_after of.station of.limit (lines_of before)) datagram arrived sent) h.keys)
    ∙ sym (ap (λ code. reply_to (keys_of old.keys) code (page_after of.station of.limit (lines_of before)) datagram arrived sent) of_gate.code)
    ∙ sym (ap (λ p. reply_to (keys_of old.keys) judged.code p datagram arrived sent) page_is)
    ∙ replied in
    record {
      was_kept = judged.kept;
      may_be = subst (λ r. MayKeepSender r (gate_after of.station before) (sender_of connection) arrived judged.kept) (sym header.1) of_gate.kept;
      played = requests-on stands old new of before connection arrived sent datagram judged.kept radios servers leap journal keys
          (now ∙ sym (ap (λ r. gate_with_datagram r (gate_after of.station before) (sender_of connection) arrived judged.kept) header.1)) h;
      outcome_is = sym (ap (λ r. outcome_of_request r judged.kept) replied_so);
    }
