-- A rack of receivers: those that a station's radios have, and those that are left as spares. All of it is this project's own.
use Rattle.std.specs.Prelude.{◌≡◌, ℕ, ◌+◌, ◌≤◌, ◌&&◌, Bool, true, Some, List, [], ◌∷◌, All, map, if◌then◌else◌}
use Rattle.std.specs.List.{count_by, slice_get}
use Rattle.tick_units.specs.declared.marks.Plan.{Plan}
use Rattle.radio_receiver.specs.Histories.{History, is_blank}
use Rattle.station_values.specs.Station.{RadioFields, is_same_plan, plan_count}
use Rattle.station_gear.specs.declared.rack.Spare.{Spare}

-- each of some receivers stands for one of these histories, in order
abbrev pub AreOf : {B : Type 0} → (B → History → Type 0) → List B → List History → Type 0
AreOf stands [] [] = Unit {0}
AreOf stands [] (h ∷ others) = ⊥
AreOf stands (b ∷ more) [] = ⊥
AreOf stands (b ∷ more) (h ∷ others) = stands b h × AreOf stands more others

abbrev pub is_blank_of : Plan → History → Bool
is_blank_of plan h = is_same_plan plan h.plan && is_blank h.reductions

-- receivers of any history, among them at least four blank ones of each plan
pub record IsRack {B : Type 0} (stands : B → History → Type 0) (rack : List B) : Type 0 where
  pub histories : List History
  pub are : AreOf stands rack histories
  pub enough : (plan : Plan) → 4 ≤ count_by (is_blank_of plan) histories

-- a receiver that is left is blank, and of its plan
pub record IsSpare {B : Type 0} (stands : B → History → Type 0) (spare : Spare B) : Type 0 where
  pub delay : ℕ
  pub blank : stands spare.receiver (record { plan = spare.plan; delay = delay; reductions = [] })

abbrev pub left_of : {B : Type 0} → Plan → List (Spare B) → ℕ
left_of plan spares = count_by (λ spare. is_same_plan plan spare.plan) spares

-- at this place stands a receiver of the plan
pub record IsPlaceOf {B : Type 0} (plan : Plan) (spares : List (Spare B)) (place : ℕ) : Type 0 where
  pub spare : Spare B
  pub at : slice_get spares place ≡ Some spare
  pub plan_is : is_same_plan plan spare.plan ≡ true

-- a blank receiver of a plan
pub record IsBlankOf {B : Type 0} (stands : B → History → Type 0) (plan : Plan) (receiver : B) : Type 0 where
  pub delay : ℕ
  pub blank : stands receiver (record { plan = plan; delay = delay; reductions = [] })

abbrev pub one_of : Plan → Plan → ℕ
one_of plan other = if is_same_plan plan other then 1 else 0

-- one receiver of a plan was taken of those that were left
pub record HasPicked {B : Type 0} (stands : B → History → Type 0) (old new : List (Spare B)) (plan : Plan) (receiver : B) : Type 0 where
  pub receiver_is : All (IsSpare stands) old → IsBlankOf stands plan receiver
  pub others : All (IsSpare stands) old → All (IsSpare stands) new
  pub count : (p : Plan) → left_of p old ≡ left_of p new + one_of p plan

-- four receivers of each plan are left, and none is fitted
pub record AreFour {B : Type 0} (stands : B → History → Type 0) (spares : List (Spare B)) : Type 0 where
  pub blank : All (IsSpare stands) spares
  pub four : (plan : Plan) → left_of plan spares ≡ 4

-- this many receivers of a rack were examined, and these kept; the others are still to be examined
pub record HasSorted {B : Type 0} (stands : B → History → Type 0) (spares : List (Spare B)) (rest : List B) : Type 0 where
  pub histories : List History
  pub are : AreOf stands rest histories
  pub blank : All (IsSpare stands) spares
  pub most : (plan : Plan) → left_of plan spares ≤ 4
  pub enough : (plan : Plan) → 4 ≤ left_of plan spares + count_by (is_blank_of plan) histories

-- the history of a radio's receiver before its first reduction
abbrev pub silent : RadioFields → History
silent radio = record { plan = radio.plan; delay = radio.delay; reductions = [] }

-- each of these radios has its receiver, and of each plan four are fitted or left
pub record HasFitted {B : Type 0} (stands : B → History → Type 0) (receivers : List B) (spares : List (Spare B)) (radios : List RadioFields) : Type 0 where
  pub fitted : AreOf stands receivers (map silent radios)
  pub blank : All (IsSpare stands) spares
  pub four : (plan : Plan) → left_of plan spares + plan_count plan radios ≡ 4
