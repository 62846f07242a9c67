-- What one line more does to the servers of a station.
use Rattle.std.proofs.Common.{◌≡◌, ◌≢◌, ◌∙◌, ◌⊎◌, inl, inr, ℕ, ◌+◌, ◌-◌, ◌<◌, ◌≤◌, nat_lt, true, false, cond, Some, None, List, [], ◌∷◌, ◌++◌, length, get_or, slice_set, unwrap_or, sym, ap, subst, arith}
use Rattle.std.proofs.lemmas.Bool.Decides.{nat_tests}
use Rattle.std.proofs.lemmas.List.{length-set}
use Rattle.std.proofs.lemmas.Option.{slice_get_cases, slice_get_past, slice_get_within}
use Rattle.std.specs.List.{filter_map, last_or, slice_get}
use Rattle.outside_traits.specs.declared.outside.Address.{Address}
use Rattle.journal_entry.specs.declared.entry.Entry.{Entry}
use Rattle.journal_entry.specs.declared.entry.What.{What}
use Rattle.poll_core.specs.Histories.{Event, judge}
use Rattle.poll_core.specs.Histories.Event.{Asked, Answered}
use Rattle.poll_core.specs.Polling.{HasPolled}
use Rattle.station_values.specs.Station.{ServerFields, StationFields}
use Rattle.script_line.specs.declared.line.ScriptLine.{ScriptLine}
use Rattle.script_line.specs.declared.line.ScriptLine.TheVariants.{Ask, Answer}
use Rattle.replay_command.specs.Replay.{due_of_server, event_in, events_of, last_moment, may_poll, moment_in, server_of, what_answered}
use Rattle.replay_command.specs.KeptPlayer.{HasAnswered, HasPolling, HasServer, HasServers}
use Rattle.replay_command.specs.declared.server.Server.{Server}
use Rattle.replay_command.specs.declared.servers.Servers.{Servers}
use Rattle.replay_command.proofs.ListLaws.{filter_map-none, filter_map-some, last_or-push, slice_set-cases}
use Rattle.replay_command.proofs.RadioLaws.{eqb-no, eqb-yes, nat_le-no, nat_le-yes}

-- a line that is not of a server leaves it as it is
pub HasServer-other : (server : Server) (fields : ServerFields) (feed : ℕ) (lines : List ScriptLine) (line : ScriptLine) →
    event_in fields.address feed line ≡ None → moment_in feed line ≡ None → HasServer server fields feed lines → HasServer server fields feed (lines ++ line ∷ [])
HasServer-other server fields feed lines line none still h = record {
  polled = subst (HasPolled server.poll fields.address) (sym (filter_map-none (event_in fields.address feed) lines line none)) h.polled;
  address = h.address;
  last = h.last ∙ ap (λ ms. unwrap_or (last_or None ms) 0) (sym (filter_map-none (moment_in feed) lines line still));
}

-- an event more
HasServer-event : (old new : Server) (fields : ServerFields) (feed : ℕ) (lines : List ScriptLine) (line : ScriptLine) (at : ℕ) (event : Address → Event) →
    event_in fields.address feed line ≡ Some (event fields.address) → moment_in feed line ≡ Some at → new.address ≡ old.address → new.last ≡ at →
    ((h : List Event) → HasPolled old.poll old.address h → HasPolled new.poll old.address (h ++ event old.address ∷ [])) →
    HasServer old fields feed lines → HasServer new fields feed (lines ++ line ∷ [])
HasServer-event old new fields feed lines line at event is moment address last polls h =
    let had : HasPolled old.poll old.address (events_of fields.address feed lines) = subst (λ a. HasPolled old.poll a (events_of fields.address feed lines)) (sym h.address) h.polled in
    let has : HasPolled new.poll fields.address (events_of fields.address feed lines ++ event fields.address ∷ []) =
    subst (λ a. HasPolled new.poll a (events_of fields.address feed lines ++ event a ∷ [])) h.address (polls (events_of fields.address feed lines) had) in
    record {
      polled = subst (HasPolled new.poll fields.address) (sym (filter_map-some (event_in fields.address feed) lines line (event fields.address) is)) has;
      address = address ∙ h.address;
      last = last ∙ sym (ap (λ ms. unwrap_or (last_or None ms) 0) (filter_map-some (moment_in feed) lines line at moment) ∙ ap (λ o. unwrap_or o 0) (last_or-push None (filter_map (moment_in feed) lines) at));
    }

-- a line of no server
pub HasServers-other : (servers : Servers) (station : StationFields) (lines : List ScriptLine) (line : ScriptLine) →
    ((feed : ℕ) (address : Address) → event_in address feed line ≡ None) → ((place : ℕ) → place < length station.servers → moment_in (length station.radios + place) line ≡ None) →
    HasServers servers station lines → HasServers servers station (lines ++ line ∷ [])
HasServers-other servers station lines line none still h = record {
  first_is = h.first_is;
  polling = record {
    count = h.polling.count;
    each = λ place server fields at here. HasServer-other server fields (length station.radios + place) lines line (none (length station.radios + place) fields.address) (still place (slice_get_within station.servers place fields here)) (h.polling.each place server fields at here);
  };
}

-- a line of one server
HasServers-event : (old new : Servers) (station : StationFields) (lines : List ScriptLine) (line : ScriptLine) (feed place at : ℕ) (server after : Server) (event : Address → Event) →
    feed ≡ old.first + place → slice_get old.servers.items place ≡ Some server →
    ((address : Address) → event_in address feed line ≡ Some (event address)) → moment_in feed line ≡ Some at →
    ((other : ℕ) (address : Address) → other ≢ feed → event_in address other line ≡ None) → ((other : ℕ) → other ≢ feed → moment_in other line ≡ None) →
    after.address ≡ server.address → after.last ≡ at →
    ((h : List Event) → HasPolled server.poll server.address h → HasPolled after.poll server.address (h ++ event server.address ∷ [])) →
    new.first ≡ old.first → new.servers.items ≡ slice_set old.servers.items place after →
    HasServers old station lines → HasServers new station (lines ++ line ∷ [])
HasServers-event old new station lines line feed place at server after event feed_is here is moment none still address last polls first now h = record {
  first_is = first ∙ h.first_is;
  polling = subst (λ ss. HasPolling ss station (lines ++ line ∷ [])) (sym now) (record {
    count = length-set old.servers.items place after ∙ h.polling.count;
    each = λ p s fields at_p here_p. by p s fields here_p (slice_set-cases old.servers.items place p after s at_p);
  });
}
  where
    by : (p : ℕ) (s : Server) (fields : ServerFields) → slice_get station.servers p ≡ Some fields → ((p ≡ place) × (s ≡ after)) ⊎ ((p ≢ place) × (slice_get old.servers.items p ≡ Some s)) →
        HasServer s fields (length station.radios + p) (lines ++ line ∷ [])
    by p s fields here_p (inl (e, f)) =
        let same : feed ≡ length station.radios + p = feed_is ∙ ap (λ n. n + place) h.first_is ∙ ap (λ n. length station.radios + n) (sym e) in
        let old_p : slice_get old.servers.items p ≡ Some server = ap (slice_get old.servers.items) e ∙ here in
        subst (λ x. HasServer x fields (length station.radios + p) (lines ++ line ∷ [])) (sym f)
        (HasServer-event server after fields (length station.radios + p) lines line at event
        (subst (λ n. event_in fields.address n line ≡ Some (event fields.address)) same (is fields.address)) (subst (λ n. moment_in n line ≡ Some at) same moment)
        address last polls (h.polling.each p server fields old_p here_p))
    by p s fields here_p (inr (n, f)) =
        let first_is = h.first_is in
        let away : length station.radios + p ≢ feed = λ e. n (omega arith) in
        HasServer-other s fields (length station.radios + p) lines line (none (length station.radios + p) fields.address away) (still (length station.radios + p) away) (h.polling.each p s fields f here_p)

server_of-before : (station : StationFields) (feed : ℕ) → feed < length station.radios → server_of station feed ≡ None
server_of-before station feed before =
    let is : nat_lt feed (length station.radios) ≡ true = grind (arith, nat_tests) in
    ap (λ b. cond b None (slice_get station.servers (feed - length station.radios))) is

server_of-at : (station : StationFields) (feed place : ℕ) → feed ≡ length station.radios + place → server_of station feed ≡ slice_get station.servers place
server_of-at station feed place e =
    let is : nat_lt feed (length station.radios) ≡ false = grind (arith, nat_tests) in
    let here : feed - length station.radios ≡ place = omega arith in
    ap (λ b. cond b None (slice_get station.servers (feed - length station.radios))) is ∙ ap (slice_get station.servers) here

-- the station's own server of a feed
fields_of : (servers : Servers) (station : StationFields) (lines : List ScriptLine) (feed place : ℕ) (server : Server) →
    HasServers servers station lines → feed ≡ servers.first + place → slice_get servers.servers.items place ≡ Some server →
    (fields : ServerFields) × (server_of station feed ≡ Some fields) × HasServer server fields feed lines
fields_of servers station lines feed place server h e at = by (slice_get_cases station.servers place).1
  where
    same : feed ≡ length station.radios + place
    same = e ∙ ap (λ n. n + place) h.first_is

    by : ((fields : ServerFields) × (place < length station.servers) × (slice_get station.servers place ≡ Some fields) × (get_or station.servers place fields ≡ fields)) ⊎ ((length station.servers ≤ place) × (slice_get station.servers place ≡ None)) →
        (fields : ServerFields) × (server_of station feed ≡ Some fields) × HasServer server fields feed lines
    by (inl (fields, within, here, read)) = (fields, server_of-at station feed place same ∙ here, subst (λ n. HasServer server fields n lines) (sym same) (h.polling.each place server fields at here))
    by (inr (past, none)) = let within = slice_get_within servers.servers.items place server at in let count = h.polling.count in absurd (omega arith)

pub polls-before : (servers : Servers) (station : StationFields) (lines : List ScriptLine) (feed at : ℕ) → feed < servers.first → HasServers servers station lines → may_poll (server_of station feed) feed at lines ≡ false
polls-before servers station lines feed at before h = ap (λ o. may_poll o feed at lines) (server_of-before station feed (subst (λ n. feed < n) h.first_is before))

pub polls-past : (servers : Servers) (station : StationFields) (lines : List ScriptLine) (feed place at : ℕ) → feed ≡ servers.first + place → length servers.servers.items ≤ place → HasServers servers station lines → may_poll (server_of station feed) feed at lines ≡ false
polls-past servers station lines feed place at e past h =
    let count = h.polling.count in
    ap (λ o. may_poll o feed at lines) (server_of-at station feed place (e ∙ ap (λ n. n + place) h.first_is) ∙ slice_get_past station.servers place (omega arith))

pub polls-late : (servers : Servers) (station : StationFields) (lines : List ScriptLine) (feed place at : ℕ) (server : Server) → feed ≡ servers.first + place → slice_get servers.servers.items place ≡ Some server → at < server.last → HasServers servers station lines → may_poll (server_of station feed) feed at lines ≡ false
polls-late servers station lines feed place at server e here late h =
    let own = fields_of servers station lines feed place server h e here in
    let last = own.2.last in
    ap (λ o. may_poll o feed at lines) own.1 ∙ nat_le-no (last_moment feed lines) at (subst (λ n. at < n) last late)

pub polls : (servers : Servers) (station : StationFields) (lines : List ScriptLine) (feed place at : ℕ) (server : Server) → feed ≡ servers.first + place → slice_get servers.servers.items place ≡ Some server → server.last ≤ at → HasServers servers station lines → may_poll (server_of station feed) feed at lines ≡ true
polls servers station lines feed place at server e here timely h =
    let own = fields_of servers station lines feed place server h e here in
    let last = own.2.last in
    ap (λ o. may_poll o feed at lines) own.1 ∙ nat_le-yes (last_moment feed lines) at (subst (λ n. n ≤ at) last timely)

pub asks : (old new : Servers) (station : StationFields) (lines : List ScriptLine) (feed place at : ℕ) (server after : Server) →
    feed ≡ old.first + place → slice_get old.servers.items place ≡ Some server →
    after.address ≡ server.address → after.last ≡ at →
    ((s : Address) (h : List Event) → HasPolled server.poll s h → HasPolled after.poll s (h ++ Asked at ∷ [])) →
    new.first ≡ old.first → new.servers.items ≡ slice_set old.servers.items place after →
    HasServers old station lines → HasServers new station (lines ++ Ask feed at ∷ [])
asks old new station lines feed place at server after e here address last asked first now h =
    HasServers-event old new station lines (Ask feed at) feed place at server after (λ s. Asked at) e here
    (λ s. ap (λ b. cond b (Some (Asked at)) None) (eqb-yes feed)) (ap (λ b. cond b (Some at) None) (eqb-yes feed))
    (λ other s n. ap (λ b. cond b (Some (Asked at)) None) (eqb-no feed other n)) (λ other n. ap (λ b. cond b (Some at) None) (eqb-no feed other n))
    address last (λ history. asked server.address history) first now h

abbrev entry_of : ℕ → ℕ → What → Entry
entry_of feed at what = record { feed = feed; at = at; what = what }

pub answers : (old new : Servers) (station : StationFields) (lines : List ScriptLine) (feed place at : ℕ) (datagram : List ℕ) (server after : Server) (what : What) →
    feed ≡ old.first + place → slice_get old.servers.items place ≡ Some server →
    after.address ≡ server.address → after.last ≡ at →
    ((s : Address) (h : List Event) → HasPolled server.poll s h → HasPolled after.poll s (h ++ Answered at server.address datagram ∷ [])) →
    ((s : Address) (h : List Event) → HasPolled server.poll s h → what ≡ what_answered (judge s h at server.address datagram)) →
    new.first ≡ old.first → new.servers.items ≡ slice_set old.servers.items place after →
    HasServers old station lines → HasAnswered new station lines (Answer feed at datagram) (record { feed = feed; at = at; what = what })
answers old new station lines feed place at datagram server after what e here address last answered judged first now h =
    let own = fields_of old station lines feed place server h e here in
    let fields = own.0 in
    let had = own.2 in
    record {
      played = HasServers-event old new station lines (Answer feed at datagram) feed place at server after (λ s. Answered at s datagram) e here
          (λ s. ap (λ b. cond b (Some (Answered at s datagram)) None) (eqb-yes feed)) (ap (λ b. cond b (Some at) None) (eqb-yes feed))
          (λ other s n. ap (λ b. cond b (Some (Answered at s datagram)) None) (eqb-no feed other n)) (λ other n. ap (λ b. cond b (Some at) None) (eqb-no feed other n))
          address last (λ history. answered server.address history) first now h;
      due_is =
          let is : what ≡ what_answered (judge fields.address (events_of fields.address feed lines) at fields.address datagram) =
          judged fields.address (events_of fields.address feed lines) had.polled ∙ ap (λ a. what_answered (judge fields.address (events_of fields.address feed lines) at a datagram)) had.address in
          ap (λ w. Some (entry_of feed at w)) is ∙ sym (ap (λ o. due_of_server o feed at datagram lines) own.1);
    }
