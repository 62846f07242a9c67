-- Which of the logs and links of a station were opened and are out, and which one is missing.
use Rattle.std.specs.Prelude.{◌≡◌, ◌-◌, ◌&&◌, ℕ, min, nat_le, is_some, Option, None, Some, Result, Ok, Err, List, ◌++◌, length, map, slice_get, vec_len}
use Rattle.std.specs.Option.{MatchOption, option_map, option_to_list}
use Rattle.outside_traits.specs.Faults.{RoseByOne}
use Rattle.outside_traits.specs.Openings.{Wanted, State, OutsideState, GrowsBy, failed}
use Rattle.outside_traits.specs.Openings.Wanted.{LogOf}
use Rattle.outside_traits.specs.ManyOut.{Held, held_opening, AreNumbers}
use Rattle.station_values.specs.Station.{StationFields}
use Rattle.station_gear.specs.Gears.{logs_needed, servers_needed, links_needed, wanted_by}
use Rattle.station_gear.specs.declared.gear.Gear.{Gear}
use Rattle.station_gear.specs.declared.gear.Missing.{Missing}
use Rattle.station_gear.specs.declared.gear.Missing.TheVariants.{Feed, LeapFile, Link}

-- The first of those needed were opened, in order, and their objects are out. Their numbers are those of their openings, and each
-- reports now what it reported when it was opened. One more may follow, which failed. Then the count of faults rose by one, and
-- otherwise it stays. Those after it are not opened.
pub record HoldsOpenings (needed : List Wanted) (numbers : List ℕ) (states : List State) (before now : OutsideState) (failing : Option Wanted) : Type 0 where
  pub outs : List Held
  pub later : List Wanted
  pub in_order : needed ≡ map (λ held. held.what) outs ++ (option_to_list failing ++ later)
  pub noted : GrowsBy before now (map held_opening outs ++ map failed (option_to_list failing))
  pub faults : MatchOption failing (now.faults ≡ before.faults) (λ _. RoseByOne before.faults now.faults)
  pub reported : states ≡ map (λ held. held.opened) outs
  pub count : length numbers ≡ length outs
  pub numbered : AreNumbers before.openings now.openings 0 numbers

-- all of those needed were opened
pub record OpensAll (needed : List Wanted) (numbers : List ℕ) (states : List State) (before now : OutsideState) : Type 0 where
  pub openings : HoldsOpenings needed numbers states before now None
  pub all : length numbers ≡ length needed

-- one of those needed failed
pub record StopsIn (needed : List Wanted) (numbers : List ℕ) (states : List State) (before now : OutsideState) : Type 0 where
  pub what : Wanted
  pub openings : HoldsOpenings needed numbers states before now (Some what)

-- what has a name: a radio's log or a server's link, the leap second file, or a link that the station serves on
abbrev pub named_by : StationFields → Missing → Option Wanted
named_by of (Feed number) = slice_get (logs_needed of ++ servers_needed of) number
named_by of LeapFile = option_map LogOf of.leap_file
named_by of (Link place) = slice_get (links_needed of) place

-- what failed, by the answer of a call
abbrev pub failing_of : StationFields → Result (Unit {0}) Missing → Option Wanted
failing_of of (Ok done) = None
failing_of of (Err missing) = named_by of missing

-- one of those that a station needs failed, and this names it
pub record StopsAt (of : StationFields) (missing : Missing) (numbers : List ℕ) (states : List State) (before now : OutsideState) : Type 0 where
  pub what : Wanted
  pub named : named_by of missing ≡ Some what
  pub openings : HoldsOpenings (wanted_by of) numbers states before now (Some what)

-- a gear has all that a station needs
pub record IsWhole {L T : Type 0} (of : StationFields) (gear : Gear L T) : Type 0 where
  pub logs : vec_len gear.logs ≡ length of.radios
  pub leap : is_some gear.leap ≡ is_some of.leap_file
  pub servers : vec_len gear.servers ≡ length of.servers
  pub links : vec_len gear.links ≡ length of.links

-- it has what comes before the missing one, and no more
abbrev pub IsUpTo : {L T : Type 0} → StationFields → Missing → Gear L T → Type 0
IsUpTo of (Feed number) gear = (vec_len gear.logs ≡ min number (length of.radios))
    × (is_some gear.leap ≡ (nat_le (length of.radios) number && is_some of.leap_file)) × (vec_len gear.servers ≡ number - length of.radios) × (vec_len gear.links ≡ 0)
IsUpTo of LeapFile gear = (vec_len gear.logs ≡ length of.radios) × (gear.leap ≡ None) × (vec_len gear.servers ≡ 0) × (vec_len gear.links ≡ 0)
IsUpTo of (Link place) gear = (vec_len gear.logs ≡ length of.radios) × (is_some gear.leap ≡ is_some of.leap_file) × (vec_len gear.servers ≡ length of.servers) × (vec_len gear.links ≡ place)
