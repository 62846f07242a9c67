-- What one line more does to the feed of the leap second file.
use Rattle.std.proofs.Common.{◌≡◌, ◌≢◌, ◌∙◌, ℕ, ◌+◌, ◌-◌, ◌<◌, ◌≤◌, ◌==◌, ◌&&◌, nat_le, nat_lt, true, false, cond, is_some, option_map, Option, Some, None, List, [], ◌∷◌, ◌++◌, length, unwrap_or, refl, sym, ap, subst, arith}
use Rattle.std.proofs.lemmas.Bool.{and_parts, eqb-true}
use Rattle.std.proofs.lemmas.Bool.Decides.{nat_tests}
use Rattle.std.proofs.lemmas.Option.{slice_get_past}
use Rattle.std.specs.List.{filter_map, last_or, slice_get}
use Rattle.station_values.specs.Station.{StationFields, leap_feed}
use Rattle.script_line.specs.declared.line.ScriptLine.{ScriptLine}
use Rattle.script_line.specs.declared.line.ScriptLine.TheVariants.{Ask, Answer, Leap}
use Rattle.replay_command.specs.Replay.{is_leap_feed, last_moment, may_poll, may_announce, moment_in, server_of}
use Rattle.replay_command.specs.KeptPlayer.{HasLeap}
use Rattle.replay_command.specs.declared.leap.LeapFeed.{LeapFeed}
use Rattle.replay_command.proofs.ListLaws.{filter_map-none, filter_map-some, last_or-push}
use Rattle.replay_command.proofs.RadioLaws.{eqb-no, eqb-yes, nat_le-no, nat_le-yes}

-- a line that announces no leap second
pub HasLeap-other : (leap : LeapFeed) (station : StationFields) (lines : List ScriptLine) (line : ScriptLine) → moment_in (leap_feed station) line ≡ None → HasLeap leap station lines → HasLeap leap station (lines ++ line ∷ [])
HasLeap-other leap station lines line still h = record {
  number_is = h.number_is;
  last = h.last ∙ ap (λ ms. unwrap_or (last_or None ms) 0) (sym (filter_map-none (moment_in (leap_feed station)) lines line still));
}

-- the feed of the file is no server's
no_server : (station : StationFields) → server_of station (leap_feed station) ≡ None
no_server station =
    let later : nat_lt (leap_feed station) (length station.radios) ≡ false = grind (arith, nat_tests) in
    ap (λ b. cond b None (slice_get station.servers (leap_feed station - length station.radios))) later
    ∙ slice_get_past station.servers (leap_feed station - length station.radios) (omega arith)

not-polled : (station : StationFields) (feed at : ℕ) (lines : List ScriptLine) → may_poll (server_of station feed) feed at lines ≡ true → leap_feed station ≢ feed
not-polled station feed at lines may e =
    let never : may_poll (server_of station feed) feed at lines ≡ false = ap (λ o. may_poll o feed at lines) (subst (λ n. server_of station n ≡ None) e (no_server station)) in
    absurd (cc)

-- a server's lines leave it as it is
pub HasLeap-ask : (leap : LeapFeed) (station : StationFields) (lines : List ScriptLine) (feed at : ℕ) → may_poll (server_of station feed) feed at lines ≡ true → HasLeap leap station lines → HasLeap leap station (lines ++ Ask feed at ∷ [])
HasLeap-ask leap station lines feed at may =
    HasLeap-other leap station lines (Ask feed at) (ap (λ b. cond b (Some at) None) (eqb-no feed (leap_feed station) (not-polled station feed at lines may)))

pub HasLeap-answer : (leap : LeapFeed) (station : StationFields) (lines : List ScriptLine) (feed at : ℕ) (datagram : List ℕ) → may_poll (server_of station feed) feed at lines ≡ true → HasLeap leap station lines → HasLeap leap station (lines ++ Answer feed at datagram ∷ [])
HasLeap-answer leap station lines feed at datagram may =
    HasLeap-other leap station lines (Answer feed at datagram) (ap (λ b. cond b (Some at) None) (eqb-no feed (leap_feed station) (not-polled station feed at lines may)))

-- the feed of the file, by the number that is kept
own-feed : (name : Option (List ℕ)) (number : Option ℕ) (own feed : ℕ) → number ≡ option_map (λ n. own) name → number ≡ Some feed → (is_some name ≡ true) × (feed ≡ own)
own-feed None number own feed is e = absurd (cc)
own-feed (Some name) number own feed is e = (refl, cc)

not-own : (name : Option (List ℕ)) (number : Option ℕ) (own feed : ℕ) → number ≡ option_map (λ n. own) name → number ≢ Some feed → (is_some name && (feed == own)) ≡ false
not-own None number own feed is n = refl
not-own (Some name) number own feed is n = eqb-no feed own (λ e. n (is ∙ ap Some e))

is-leap : (leap : LeapFeed) (station : StationFields) (lines : List ScriptLine) (feed : ℕ) → HasLeap leap station lines → leap.number ≡ Some feed → (is_leap_feed station feed ≡ true) × (feed ≡ leap_feed station)
is-leap leap station lines feed h e =
    let own = own-feed station.leap_file leap.number (leap_feed station) feed h.number_is e in
    (rw own.0 (ap (λ n. n == leap_feed station) own.1 ∙ eqb-yes (leap_feed station)), own.1)

pub reports-not : (leap : LeapFeed) (station : StationFields) (lines : List ScriptLine) (feed at : ℕ) → leap.number ≢ Some feed → HasLeap leap station lines → may_announce (is_leap_feed station feed) feed at lines ≡ false
reports-not leap station lines feed at n h =
    ap (λ b. may_announce b feed at lines) (not-own station.leap_file leap.number (leap_feed station) feed h.number_is n)

pub reports-late : (leap : LeapFeed) (station : StationFields) (lines : List ScriptLine) (feed at : ℕ) → leap.number ≡ Some feed → at < leap.last → HasLeap leap station lines → may_announce (is_leap_feed station feed) feed at lines ≡ false
reports-late leap station lines feed at e late h =
    let own = is-leap leap station lines feed h e in
    let last : leap.last ≡ last_moment feed lines = h.last ∙ ap (λ n. last_moment n lines) (sym own.1) in
    ap (λ b. may_announce b feed at lines) own.0 ∙ nat_le-no (last_moment feed lines) at (subst (λ n. at < n) last late)

-- the file announces a leap second
pub reports : (old new : LeapFeed) (station : StationFields) (lines : List ScriptLine) (feed at leap_at : ℕ) → old.number ≡ Some feed → old.last ≤ at → new.number ≡ old.number → new.last ≡ at → HasLeap old station lines →
    (may_announce (is_leap_feed station feed) feed at lines ≡ true) × HasLeap new station (lines ++ Leap feed at leap_at ∷ [])
reports old new station lines feed at leap_at e timely number last h =
    let own = is-leap old station lines feed h e in
    let was : old.last ≡ last_moment feed lines = h.last ∙ ap (λ n. last_moment n lines) (sym own.1) in
    let mine : moment_in (leap_feed station) (Leap feed at leap_at) ≡ Some at = ap (λ n. cond (n == leap_feed station) (Some at) None) own.1 ∙ ap (λ b. cond b (Some at) None) (eqb-yes (leap_feed station)) in (
      ap (λ b. may_announce b feed at lines) own.0 ∙ nat_le-yes (last_moment feed lines) at (subst (λ n. n ≤ at) was timely),
      record {
        number_is = number ∙ h.number_is;
        last = last ∙ sym (ap (λ ms. unwrap_or (last_or None ms) 0) (filter_map-some (moment_in (leap_feed station)) lines (Leap feed at leap_at) at mine) ∙ ap (λ o. unwrap_or o 0) (last_or-push None (filter_map (moment_in (leap_feed station)) lines) at));
      },
    )

-- a line of the file is no server's
pub no_moment : (station : StationFields) (lines : List ScriptLine) (feed at leap_at place : ℕ) → may_announce (is_leap_feed station feed) feed at lines ≡ true → place < length station.servers → moment_in (length station.radios + place) (Leap feed at leap_at) ≡ None
no_moment station lines feed at leap_at place may within =
    let leap = (and_parts (is_leap_feed station feed) (nat_le (last_moment feed lines) at) may).0 in
    let own : feed ≡ leap_feed station = eqb-true feed (leap_feed station) (and_parts (is_some station.leap_file) (feed == leap_feed station) leap).1 in
    ap (λ b. cond b (Some at) None) (eqb-no feed (length station.radios + place) (λ e. absurd (omega arith)))
