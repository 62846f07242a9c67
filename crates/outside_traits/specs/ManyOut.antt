-- Several objects that are out at once: what was opened in order, under which numbers, and what is given back.
use Rattle.std.specs.Prelude.{◌≡◌, ◌<◌, ◌+◌, ℕ, suc, Option, None, Some, List, [], ◌∷◌, length}
use Rattle.std.specs.Option.{option_map}
use Rattle.outside_traits.specs.Openings.{Wanted, State, Opening, OutsideState, Visit, IsOutAt, answered, with_back}

-- an object that is out: what was asked for, and what it reported when it was opened
pub record Held : Type 0 where
  pub what : Wanted
  pub opened : State

abbrev pub held_opening : Held → Opening
held_opening held = answered held.what held.opened

-- what was held, with what each reported when it was given back
abbrev pub returned : List Held → List State → List Visit
returned [] states = []
returned (held ∷ others) [] = []
returned (held ∷ others) (state ∷ states) = record { what = held.what; opened = held.opened; back = state } ∷ returned others states

-- each number is one more than the one before it
abbrev pub CountUp : ℕ → List ℕ → Type 0
CountUp first [] = Unit {0}
CountUp first (number ∷ numbers) = (number ≡ first) × CountUp (suc first) numbers

-- these are the numbers of the openings from this place on, where they are reported
abbrev pub AreNumbers : Option (List Opening) → Option (List Opening) → ℕ → List ℕ → Type 0
AreNumbers before None place numbers = Unit {0}
AreNumbers None (Some now) place numbers = Unit {0}
AreNumbers (Some before) (Some now) place numbers = CountUp (length before + place) numbers

abbrev pub AreAbove : ℕ → List ℕ → Type 0
AreAbove number [] = Unit {0}
AreAbove number (other ∷ numbers) = (number < other) × AreAbove number numbers

abbrev pub AreOutAt : List Opening → List ℕ → Type 0
AreOutAt openings [] = Unit {0}
AreOutAt openings (number ∷ numbers) = IsOutAt openings number × AreAbove number numbers × AreOutAt openings numbers

-- the objects of these numbers, which rise, are out
abbrev pub AreOut : Option (List Opening) → List ℕ → Type 0
AreOut None numbers = Unit {0}
AreOut (Some openings) numbers = AreOutAt openings numbers

abbrev pub with_backs : List ℕ → List State → List Opening → List Opening
with_backs [] states openings = openings
with_backs (number ∷ numbers) [] openings = openings
with_backs (number ∷ numbers) (state ∷ states) openings = with_backs numbers states (with_back number state openings)

-- the objects of these numbers were given back, in this order
pub record GivesAllBack (before now : OutsideState) (numbers : List ℕ) (states : List State) : Type 0 where
  pub noted : now.openings ≡ option_map (with_backs numbers states) before.openings
  pub same_room : now.room ≡ before.room
  pub no_fault : now.faults ≡ before.faults
