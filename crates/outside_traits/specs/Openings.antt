-- The openings of an outside, in order: what was asked for, and what the object reported as it was opened and given back. Also
-- which openings a call makes.
use Rattle.std.specs.Prelude.{◌≡◌, ◌≤◌, ℕ, zero, suc, Option, None, Some, List, [], ◌∷◌, ◌++◌, length, map, slice_get}
use Rattle.std.specs.List.{sum_by}
use Rattle.std.specs.Option.{MatchOption, option_map, option_to_list}
use Rattle.outside_traits.specs.Faults.{RoseByOne}
use Rattle.outside_traits.specs.States.{SourceState, LinkState, Adds}

-- what is asked for: a log by its name, or a link by its port and the moment at which it starts
pub data Wanted : Type 0 where
  LogOf : List ℕ → Wanted
  LinkAt : ℕ → ℕ → Wanted

-- what a log or a link reports at one moment
pub data State : Type 0 where
  OfLog : SourceState → State
  OfLink : LinkState → State

-- one opening: what was asked for; what the object reported then, where it was opened; what it reported when it was given back
pub record Opening : Type 0 where
  pub what : Wanted
  pub opened : Option State
  pub back : Option State

-- an opening that was answered, as long as its object is out
abbrev pub answered : Wanted → State → Opening
answered what state = record { what = what; opened = Some state; back = None }

-- an opening that failed
abbrev pub failed : Wanted → Opening
failed what = record { what = what; opened = None; back = None }

-- how many openings an outside reports, and how many bytes of their names
pub record Room : Type 0 where
  pub openings : ℕ
  pub names : ℕ

-- the bytes of the name of what is asked for
abbrev pub name_of : Wanted → List ℕ
name_of (LogOf name) = name
name_of (LinkAt port start) = []

abbrev pub names_in : List Opening → ℕ
names_in openings = sum_by (λ opening. length (name_of opening.what)) openings

abbrev pub HasRoom : Room → List Opening → Type 0
HasRoom room openings = (length openings ≤ room.openings) × (names_in openings ≤ room.names)

-- an outside at one moment: its openings so far, where they are known, its room for them, and its count of faults
pub record OutsideState : Type 0 where
  pub openings : Option (List Opening)
  pub room : Room
  pub faults : ℕ

-- the openings have these more; the outside reports them as long as there is room for them
pub record GrowsBy (before now : OutsideState) (more : List Opening) : Type 0 where
  pub noted : Adds before.openings now.openings more
  pub reported : (openings : List Opening) → before.openings ≡ Some openings → HasRoom before.room (openings ++ more) →
      now.openings ≡ Some (openings ++ more)
  pub same_room : now.room ≡ before.room

-- the number of the next opening
abbrev pub IsNext : Option (List Opening) → ℕ → Type 0
IsNext None number = Unit {0}
IsNext (Some openings) number = number ≡ length openings

-- the object of this opening was answered and is not back yet
abbrev pub IsOutAt : List Opening → ℕ → Type 0
IsOutAt openings number = (what : Wanted) × (opened : State) × (slice_get openings number ≡ Some (answered what opened))

abbrev pub IsOut : Option (List Opening) → ℕ → Type 0
IsOut None number = Unit {0}
IsOut (Some openings) number = IsOutAt openings number

-- the openings, with what the object of this number reported when it was given back
abbrev pub with_back : ℕ → State → List Opening → List Opening
with_back number state [] = []
with_back zero state (opening ∷ openings) = record opening { back = Some state } ∷ openings
with_back (suc number) state (opening ∷ openings) = opening ∷ with_back number state openings

-- the object of this number was given back
pub record GivesBack (before now : OutsideState) (number : ℕ) (state : State) : Type 0 where
  pub noted : now.openings ≡ option_map (with_back number state) before.openings
  pub same_room : now.room ≡ before.room
  pub no_fault : now.faults ≡ before.faults

-- an object that was opened and given back: what was asked for, and what it reported then and in the end
pub record Visit : Type 0 where
  pub what : Wanted
  pub opened : State
  pub back : State

abbrev pub visited : Visit → Opening
visited visit = record { what = visit.what; opened = Some visit.opened; back = Some visit.back }

-- a log that was opened and given back
abbrev pub log_visit : List ℕ → SourceState → SourceState → Visit
log_visit name opened back = record { what = LogOf name; opened = OfLog opened; back = OfLog back }

-- A call makes its openings in the order of those that it needs. The first of them are visits: all that was opened is given back.
-- One more may follow, which failed; then the count of faults rose by one. Otherwise the count stays. The call does not ask for
-- those after a failed one.
pub record MakesOpenings (needed : List Wanted) (outside outside_now : OutsideState) (visits : List Visit) (failing : Option Wanted) : Type 0 where
  pub later : List Wanted
  pub in_order : needed ≡ map (λ visit. visit.what) visits ++ (option_to_list failing ++ later)
  pub noted : GrowsBy outside outside_now (map visited visits ++ map failed (option_to_list failing))
  pub faults : MatchOption failing (outside_now.faults ≡ outside.faults) (λ _. RoseByOne outside.faults outside_now.faults)
