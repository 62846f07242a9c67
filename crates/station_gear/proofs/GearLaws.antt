-- For whoever opens a gear, uses it and gives it back: its objects are out, and the openings made are visits.
use Rattle.std.proofs.Common.{◌≡◌, ℕ, Option, None, List, [], ◌∷◌, ◌++◌, length, map, refl, ap, sym, ◌∙◌, arith, subst}
use Rattle.std.specs.Prelude.{Result, Ok, Err, MatchResult}
use Rattle.std.specs.Option.{MatchOption, option_to_list}
use Rattle.std.proofs.lemmas.List.{length-append, length-map}
use Rattle.outside_traits.specs.Faults.{RoseByOne}
use Rattle.outside_traits.specs.States.{SourceState, LinkState}
use Rattle.outside_traits.specs.Openings.{Wanted, State, OutsideState, MakesOpenings, Visit, failed}
use Rattle.outside_traits.specs.Openings.State.{OfLog, OfLink}
use Rattle.outside_traits.specs.ManyOut.{Held, AreOut, GivesAllBack, returned}
use Rattle.outside_traits.proofs.ManyOutLaws.{AreOut-held, GrowsBy-back}
use Rattle.outside_traits.proofs.OpeningLaws.{opens_more}
use Rattle.station_values.specs.Station.{StationFields}
use Rattle.station_gear.specs.Gears.{numbers_of, states_of, wanted_by}
use Rattle.station_gear.specs.Opens.{HoldsOpenings, OpensAll, StopsAt, failing_of}
use Rattle.station_gear.specs.declared.gear.Missing.{Missing}
use Rattle.station_gear.specs.declared.gear.Gear.{Gear}

-- a gear has as many numbers as states
pub gear_sizes : {L T : Type 0} (log_number : L → ℕ) (link_number : T → ℕ) (log_state : L → SourceState) (link_state : T → LinkState) (gear : Gear L T) →
    length (states_of log_state link_state gear) ≡ length (numbers_of log_number link_number gear)
gear_sizes log_number link_number log_state link_state gear =
    let logs = gear.logs.items in
    let leap = option_to_list gear.leap in
    let servers = gear.servers.items in
    let links = gear.links.items in
    omega (
      arith,
      length-append (map (λ l. OfLog (log_state l)) logs) (map (λ l. OfLog (log_state l)) leap ++ (map (λ l. OfLink (link_state l)) servers ++ map (λ l. OfLink (link_state l)) links)),
      length-append (map (λ l. OfLog (log_state l)) leap) (map (λ l. OfLink (link_state l)) servers ++ map (λ l. OfLink (link_state l)) links),
      length-append (map (λ l. OfLink (link_state l)) servers) (map (λ l. OfLink (link_state l)) links),
      length-append (map log_number logs) (map log_number leap ++ (map link_number servers ++ map link_number links)),
      length-append (map log_number leap) (map link_number servers ++ map link_number links),
      length-append (map link_number servers) (map link_number links),
      length-map logs (λ l. OfLog (log_state l)),
      length-map leap (λ l. OfLog (log_state l)),
      length-map servers (λ l. OfLink (link_state l)),
      length-map links (λ l. OfLink (link_state l)),
      length-map logs log_number,
      length-map leap log_number,
      length-map servers link_number,
      length-map links link_number,
    )

-- what was held is what is visited
same_what : (outs : List Held) (states : List State) → length states ≡ length outs → map (λ (visit : Visit). visit.what) (returned outs states) ≡ map (λ (held : Held). held.what) outs
same_what [] states sizes = refl
same_what (held ∷ outs) [] sizes = absurd (omega (arith, sizes))
same_what (held ∷ outs) (state ∷ states) sizes = ap (λ rest. held.what ∷ rest) (same_what outs states (omega (arith, sizes)))

-- whatever a call answered, those before what failed are out
pub gear_held : (of : StationFields) (result : Result (Unit {0}) Missing) (numbers : List ℕ) (states : List State) (before now : OutsideState) →
    MatchResult result (λ _. OpensAll (wanted_by of) numbers states before now) (λ missing. StopsAt of missing numbers states before now) →
    HoldsOpenings (wanted_by of) numbers states before now (failing_of of result)
gear_held of (Ok done) numbers states before now all = all.openings
gear_held of (Err missing) numbers states before now stops = subst (λ o. HoldsOpenings (wanted_by of) numbers states before now o) (sym stops.named) stops.openings

-- a use that keeps the numbers of each part keeps all of them
pub same_numbers : (logs logs_now leap leap_now servers servers_now links links_now : List ℕ) → logs_now ≡ logs → leap_now ≡ leap → servers_now ≡ servers →
    links_now ≡ links → logs_now ++ (leap_now ++ (servers_now ++ links_now)) ≡ logs ++ (leap ++ (servers ++ links))
same_numbers logs logs_now leap leap_now servers servers_now links links_now first second third fourth =
    ap (λ l. l ++ (leap_now ++ (servers_now ++ links_now))) first ∙ ap (λ l. logs ++ (l ++ (servers_now ++ links_now))) second
    ∙ ap (λ l. logs ++ (leap ++ (l ++ links_now))) third ∙ ap (λ l. logs ++ (leap ++ (servers ++ l))) fourth

module _ (needed : List Wanted) (numbers numbers_now : List ℕ) (states : List State) (before mid : OutsideState) (failing : Option Wanted)
    (held : HoldsOpenings needed numbers states before mid failing) (same : numbers_now ≡ numbers) where
  -- what was opened is out, as long as its numbers are kept: it may be given back
  pub are_out : AreOut mid.openings numbers_now
  are_out = subst (λ l. AreOut mid.openings l) (sym same) (AreOut-held before mid [] held.outs (map failed (option_to_list failing)) numbers held.noted held.numbered held.count)

  -- once it is back, the openings made are visits, and perhaps one that failed
  pub all_visited : (states_now : List State) (now : OutsideState) → length states_now ≡ length numbers_now → GivesAllBack mid now numbers_now states_now →
      MakesOpenings needed before now (returned held.outs states_now) failing
  all_visited states_now now sizes gives =
      let size : length states_now ≡ length held.outs = sizes ∙ ap (λ (l : List ℕ). length l) same ∙ held.count in
      let given : GivesAllBack mid now numbers states_now = subst (λ l. GivesAllBack mid now l states_now) same gives in
      record {
        later = held.later;
        in_order = held.in_order ∙ ap (λ l. l ++ (option_to_list failing ++ held.later)) (sym (same_what held.outs states_now size));
        noted = GrowsBy-back before mid now [] held.outs (map failed (option_to_list failing)) numbers states_now held.noted held.numbered given held.count size;
        faults = subst (λ n. MatchOption failing (n ≡ before.faults) (λ _. RoseByOne before.faults n)) (sym gives.no_fault) held.faults;
      }

-- a call that visits one more before it: the station's own log, opened and given back
pub visited_before : (needed : List Wanted) (before mid now : OutsideState) (visit : Visit) (visits : List Visit) (failing : Option Wanted) →
    MakesOpenings (visit.what ∷ []) before mid (visit ∷ []) None → MakesOpenings needed mid now visits failing →
    MakesOpenings (visit.what ∷ needed) before now (visit ∷ visits) failing
visited_before needed before mid now visit visits failing first then_ = opens_more (visit.what ∷ []) needed before mid now (visit ∷ []) visits failing first refl then_
