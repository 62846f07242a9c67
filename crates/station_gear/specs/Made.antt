-- A rack of receivers that have received nothing yet: how many it has of each plan.
use Rattle.std.specs.Prelude.{◌≡◌, ℕ, ◌+◌, List, if◌then◌else◌}
use Rattle.std.specs.List.{count_by}
use Rattle.tick_units.specs.declared.marks.Plan.{Plan}
use Rattle.radio_receiver.specs.Histories.{History}
use Rattle.station_values.specs.Station.{is_same_plan}
use Rattle.station_gear.specs.Racks.{AreOf, is_blank_of}

-- each receiver stands for a history, and this many of each plan are blank
pub record HasOfEach {B : Type 0} (stands : B → History → Type 0) (count : Plan → ℕ) (rack : List B) : Type 0 where
  pub histories : List History
  pub are : AreOf stands rack histories
  pub counts : (plan : Plan) → count_by (is_blank_of plan) histories ≡ count plan

-- one more of a plan, and as many as before of the others
abbrev pub with_one : Plan → (Plan → ℕ) → Plan → ℕ
with_one plan count other = if is_same_plan other plan then count other + 1 else count other
