-- The phases in which a station's gear is opened: its radios' logs, its leap second file, its servers' links, and the links that it serves on.
use Rattle.std.proofs.Common.{◌≡◌, ◌+◌, ℕ, suc, Option, Some, None, List, [], ◌∷◌, ◌++◌, length, map, ap, sym, ◌∙◌, arith, subst}
use Rattle.std.specs.Prelude.{slice_get}
use Rattle.std.specs.Option.{option_map, option_to_list}
use Rattle.std.proofs.lemmas.List.{append-nil, length-append}
use Rattle.outside_traits.specs.Openings.{Wanted, State, OutsideState}
use Rattle.outside_traits.specs.Openings.Wanted.{LogOf}
use Rattle.station_values.specs.Station.{StationFields}
use Rattle.station_gear.specs.Gears.{logs_needed, leap_needed, servers_needed, links_needed, wanted_by}
use Rattle.station_gear.specs.Opens.{HoldsOpenings, OpensAll, StopsIn, StopsAt}
use Rattle.station_gear.specs.declared.gear.Missing.TheVariants.{Feed, LeapFile, Link}
use Rattle.station_gear.proofs.HoldingLaws.{prefix_held, then_held, failed_at}

-- two phases that opened all that they needed
both_all : (needed more : List Wanted) (numbers numbers_too : List ℕ) (states states_too : List State) (before mid now : OutsideState) →
    OpensAll needed numbers states before mid → OpensAll more numbers_too states_too mid now →
    OpensAll (needed ++ more) (numbers ++ numbers_too) (states ++ states_too) before now
both_all needed more numbers numbers_too states states_too before mid now first second = record {
  openings = then_held needed more numbers numbers_too states states_too before mid now None first second.openings;
  all = omega (arith, first.all, second.all, length-append needed more, length-append numbers numbers_too);
}

-- what stands after others
get_later : {X : Type 0} (xs ys : List X) (n : ℕ) → slice_get (xs ++ ys) (length xs + n) ≡ slice_get ys n
get_later [] ys n = ap (slice_get ys) (omega arith)
get_later (x ∷ xs) ys n = (let next : suc (length xs) + n ≡ suc (length xs + n) = omega arith in ap (slice_get (x ∷ xs ++ ys)) next) ∙ get_later xs ys n

named_leap : (name : Option (List ℕ)) (what : Wanted) → slice_get (map LogOf (option_to_list name)) 0 ≡ Some what → option_map LogOf name ≡ Some what
named_leap None what e = e
named_leap (Some name) what e = e

module _ (of : StationFields) (logs leap servers links : List ℕ) (log_states leap_states server_states link_states : List State) (before now : OutsideState) where
  abbrev numbers : List ℕ
  numbers = logs ++ (leap ++ (servers ++ links))

  abbrev states : List State
  states = log_states ++ (leap_states ++ (server_states ++ link_states))

  pub all_phases : (opened listed mid : OutsideState) → OpensAll (logs_needed of) logs log_states before opened → OpensAll (leap_needed of) leap leap_states opened listed →
      OpensAll (servers_needed of) servers server_states listed mid → OpensAll (links_needed of) links link_states mid now →
      OpensAll (wanted_by of) numbers states before now
  all_phases opened listed mid first second third fourth =
      both_all (logs_needed of) (leap_needed of ++ (servers_needed of ++ links_needed of)) logs (leap ++ (servers ++ links)) log_states (leap_states ++ (server_states ++ link_states)) before opened now first
      (both_all (leap_needed of) (servers_needed of ++ links_needed of) leap (servers ++ links) leap_states (server_states ++ link_states) opened listed now second
      (both_all (servers_needed of) (links_needed of) servers links server_states link_states listed mid now third fourth))

  -- the first two phases opened all, and the servers and links after them some
  after_files : (opened listed : OutsideState) (failing : Option Wanted) (feeds : List ℕ) (feed_states : List State) →
      OpensAll (logs_needed of) logs log_states before opened → OpensAll (leap_needed of) leap leap_states opened listed →
      HoldsOpenings (servers_needed of ++ links_needed of) feeds feed_states listed now failing →
      HoldsOpenings (wanted_by of) (logs ++ (leap ++ feeds)) (log_states ++ (leap_states ++ feed_states)) before now failing
  after_files opened listed failing feeds feed_states first second rest =
      then_held (logs_needed of) (leap_needed of ++ (servers_needed of ++ links_needed of)) logs (leap ++ feeds) log_states (leap_states ++ feed_states) before opened now failing first
      (then_held (leap_needed of) (servers_needed of ++ links_needed of) leap feeds leap_states feed_states opened listed now failing second rest)

  pub link_fails : (opened listed mid : OutsideState) → OpensAll (logs_needed of) logs log_states before opened → OpensAll (leap_needed of) leap leap_states opened listed →
      OpensAll (servers_needed of) servers server_states listed mid →
      StopsIn (links_needed of) links link_states mid now → (place : ℕ) → place ≡ length links → StopsAt of (Link place) numbers states before now
  link_fails opened listed mid first second third fourth place at = record {
    what = fourth.what;
    named = ap (slice_get (links_needed of)) at ∙ failed_at (links_needed of) links link_states mid now fourth.what fourth.openings;
    openings = after_files opened listed (Some fourth.what) (servers ++ links) (server_states ++ link_states) first second
        (then_held (servers_needed of) (links_needed of) servers links server_states link_states listed mid now (Some fourth.what) third fourth.openings);
  }

  pub server_fails : (opened listed : OutsideState) → OpensAll (logs_needed of) logs log_states before opened → OpensAll (leap_needed of) leap leap_states opened listed →
      StopsIn (servers_needed of) servers server_states listed now → links ≡ [] → link_states ≡ [] → (number : ℕ) → number ≡ length logs + length servers →
      StopsAt of (Feed number) numbers states before now
  server_fails opened listed first second third no_link no_state number at =
      let named : slice_get (servers_needed of) (length servers) ≡ Some third.what = failed_at (servers_needed of) servers server_states listed now third.what third.openings in
      let held = after_files opened listed (Some third.what) servers server_states first second (prefix_held (servers_needed of) (links_needed of) servers server_states listed now (Some third.what) third.openings) in
      record {
        what = third.what;
        named = ap (slice_get (logs_needed of ++ servers_needed of)) (at ∙ ap (λ n. n + length servers) first.all)
            ∙ get_later (logs_needed of) (servers_needed of) (length servers) ∙ named;
        openings = subst (λ ns. HoldsOpenings (wanted_by of) (logs ++ (leap ++ ns)) states before now (Some third.what)) (sym (ap (λ l. servers ++ l) no_link ∙ append-nil servers))
            (subst (λ ss. HoldsOpenings (wanted_by of) (logs ++ (leap ++ servers)) (log_states ++ (leap_states ++ ss)) before now (Some third.what)) (sym (ap (λ l. server_states ++ l) no_state ∙ append-nil server_states)) held);
      }

  -- nothing was opened after the radios' logs
  none_later : leap ≡ [] → leap_states ≡ [] → servers ≡ [] → server_states ≡ [] → links ≡ [] → link_states ≡ [] →
      (needed : List Wanted) (what : Wanted) → HoldsOpenings needed logs log_states before now (Some what) → HoldsOpenings needed numbers states before now (Some what)
  none_later no_leap no_leap_state no_server no_server_state no_link no_link_state needed what held =
      let same : numbers ≡ logs = ap (λ l. logs ++ (l ++ (servers ++ links))) no_leap ∙ ap (λ l. logs ++ (l ++ links)) no_server ∙ ap (λ l. logs ++ l) no_link ∙ append-nil logs in
      let alike : states ≡ log_states = ap (λ l. log_states ++ (l ++ (server_states ++ link_states))) no_leap_state ∙ ap (λ l. log_states ++ (l ++ link_states)) no_server_state
      ∙ ap (λ l. log_states ++ l) no_link_state ∙ append-nil log_states in
      subst (λ ns. HoldsOpenings needed ns states before now (Some what)) (sym same)
      (subst (λ ss. HoldsOpenings needed logs ss before now (Some what)) (sym alike) held)

  pub leap_fails : (opened : OutsideState) → OpensAll (logs_needed of) logs log_states before opened → StopsIn (leap_needed of) [] [] opened now →
      leap ≡ [] → leap_states ≡ [] → servers ≡ [] → server_states ≡ [] → links ≡ [] → link_states ≡ [] → StopsAt of LeapFile numbers states before now
  leap_fails opened first second no_leap no_leap_state no_server no_server_state no_link no_link_state =
      let held = then_held (logs_needed of) (leap_needed of ++ (servers_needed of ++ links_needed of)) logs [] log_states [] before opened now (Some second.what) first
      (prefix_held (leap_needed of) (servers_needed of ++ links_needed of) [] [] opened now (Some second.what) second.openings) in
      record {
        what = second.what;
        named = named_leap of.leap_file second.what (failed_at (leap_needed of) [] [] opened now second.what second.openings);
        openings = none_later no_leap no_leap_state no_server no_server_state no_link no_link_state (wanted_by of) second.what
            (subst (λ ns. HoldsOpenings (wanted_by of) ns log_states before now (Some second.what)) (append-nil logs)
            (subst (λ ss. HoldsOpenings (wanted_by of) (logs ++ []) ss before now (Some second.what)) (append-nil log_states) held));
      }

  pub log_fails : StopsIn (logs_needed of) logs log_states before now → leap ≡ [] → leap_states ≡ [] → servers ≡ [] → server_states ≡ [] → links ≡ [] → link_states ≡ [] →
      (number : ℕ) → number ≡ length logs → StopsAt of (Feed number) numbers states before now
  log_fails first no_leap no_leap_state no_server no_server_state no_link no_link_state number at =
      let feeds = prefix_held (logs_needed of) (servers_needed of) logs log_states before now (Some first.what) first.openings in
      record {
        what = first.what;
        named = ap (slice_get (logs_needed of ++ servers_needed of)) at
            ∙ failed_at (logs_needed of ++ servers_needed of) logs log_states before now first.what feeds;
        openings = none_later no_leap no_leap_state no_server no_server_state no_link no_link_state (wanted_by of) first.what
            (prefix_held (logs_needed of) (leap_needed of ++ (servers_needed of ++ links_needed of)) logs log_states before now (Some first.what) first.openings);
      }
