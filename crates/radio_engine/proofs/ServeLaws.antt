-- For whoever has a station served: `serve` opens its logs and links and gives them back, `drill` makes up its logs.
use Rattle.std.proofs.Common.{◌≡◌, ℕ, ◌∙◌, None, length, refl, sym, subst}
use Rattle.std.specs.Prelude.{vec_len}
use Rattle.outside_traits.specs.ManyOut.{AreOut, GivesAllBack}
use Rattle.outside_traits.specs.Openings.{OutsideState}
use Rattle.outside_traits.specs.States.{LinkState, SourceState}
use Rattle.station_values.specs.Station.{StationFields, leap_feed}
use Rattle.feed_workers.specs.Served.{Sights, seen, sights_of}
use Rattle.feed_workers.specs.declared.crew.Orders.{Orders}
use Rattle.station_crew.specs.declared.crew.Ended.{Ended}
use Rattle.station_gear.specs.Gears.{numbers_of, states_of, wanted_by}
use Rattle.station_gear.specs.Opens.{IsWhole, OpensAll}
use Rattle.station_gear.specs.declared.gear.Gear.{Gear}
use Rattle.station_gear.proofs.GearLaws.{are_out, same_numbers}
use Rattle.station_report.specs.Crewing.{CannotServe, LeavesAll, ServesAll}
use Rattle.station_report.specs.declared.done.Done.{Done}
use Rattle.station_report.proofs.RunOfLaws.{leaps_run}
use Rattle.station_report.proofs.ServingLaws as serving
use Rattle.command_ends.specs.declared.ending.Ending.TheVariants.{NoMemory}

-- what a crew leaves, but for its logs and links
abbrev pub done_of : {L T : Type 0} → Ended L T → Done
done_of ended = record { journal = ended.journal; work = ended.work }

-- the workers of a station have run, and this is all that they leave
abbrev pub EndsAll : {L T : Type 0} → Sights L T → StationFields → Orders → Gear L T → Ended L T → Type 0
EndsAll sights of orders gear ended = LeavesAll sights of orders gear (done_of ended) ended.gear

module _ {L T : Type 0} (log_state : L → SourceState) (log_opening : L → ℕ) (state : T → LinkState) (opening : T → ℕ) (of : StationFields) (orders : Orders) (gear : Gear L T)
    (ended : Ended L T) (ends : EndsAll (sights_of (seen log_state log_opening) (seen state opening)) of orders gear ended) where
  -- the workers keep the numbers of all logs and links
  pub numbers_kept : numbers_of log_opening opening ended.gear ≡ numbers_of log_opening opening gear
  numbers_kept =
      let leap = leaps_run log_state log_opening orders.limit ended.journal.entries of.top.start (leap_feed of) gear.leap ended.gear.leap ended.work.leap ends.leap_served in
      same_numbers _ _ _ _ _ _ _ _ ends.radios_served.openings leap.openings ends.servers_served.openings ends.links_served.openings

-- all was opened, and nothing more was opened or given back since then
module _ {L T : Type 0} (log_state : L → SourceState) (log_opening : L → ℕ) (state : T → LinkState) (opening : T → ℕ) (of : StationFields) (before mid later : OutsideState) (gear : Gear L T)
    (opens : OpensAll (wanted_by of) (numbers_of log_opening opening gear) (states_of log_state state gear) before mid) (same : later ≡ mid) where
  -- a gear with the same numbers may be given back
  pub are_still_out : (last : Gear L T) → numbers_of log_opening opening last ≡ numbers_of log_opening opening gear → AreOut later.openings (numbers_of log_opening opening last)
  are_still_out last kept =
      let out = are_out (wanted_by of) (numbers_of log_opening opening gear) (numbers_of log_opening opening last) (states_of log_state state gear) before mid None opens.openings kept in
      subst (λ (o : OutsideState). AreOut o.openings (numbers_of log_opening opening last)) (sym same) out

  module _ (of_logs : vec_len gear.logs ≡ length gear.logs.items) (of_servers : vec_len gear.servers ≡ length gear.servers.items) (of_links : vec_len gear.links ≡ length gear.links.items) where
    -- it was given back as it was, since no memory was found
    pub lacked_memory : (last : Gear L T) (now : OutsideState) → last ≡ gear → GivesAllBack later now (numbers_of log_opening opening last) (states_of log_state state last) → CannotServe of before now NoMemory
    lacked_memory last now is gives =
        let back = subst (λ (o : OutsideState). GivesAllBack o now (numbers_of log_opening opening last) (states_of log_state state last)) same gives in
        serving.lacks_memory log_state log_opening state opening of before mid now gear of_logs of_servers of_links NoMemory opens (record {
          gives = subst (λ (g : Gear L T). GivesAllBack mid now (numbers_of log_opening opening g) (states_of log_state state g)) is back;
          memory = refl;
        })

    -- it was given back as the workers left it
    pub was_served : IsWhole of gear → (orders : Orders) (ended : Ended L T) → EndsAll (sights_of (seen log_state log_opening) (seen state opening)) of orders gear ended → (now : OutsideState) →
        GivesAllBack later now (numbers_of log_opening opening ended.gear) (states_of log_state state ended.gear) → ServesAll of orders before now (done_of ended)
    was_served whole orders ended ends now gives =
        let back = subst (λ (o : OutsideState). GivesAllBack o now (numbers_of log_opening opening ended.gear) (states_of log_state state ended.gear)) same gives in
        serving.serves_all log_state log_opening state opening of orders gear (sym of_logs ∙ whole.logs) whole.leap (sym of_servers ∙ whole.servers) (sym of_links ∙ whole.links)
        (done_of ended) ended.gear ends before mid now back opens
