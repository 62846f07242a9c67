-- A rack that is made of blank receivers, one after the other.
use Rattle.std.proofs.Common.{◌≡◌, ◌∙◌, ℕ, ◌+◌, ◌&&◌, true, List, [], ◌∷◌, ◌++◌, if◌then◌else◌, refl, sym, ap, subst, arith}
use Rattle.std.specs.List.{count_by}
use Rattle.tick_units.specs.Plans.{plans}
use Rattle.tick_units.specs.declared.marks.Plan.{Plan}
use Rattle.radio_receiver.specs.Histories.{History, blank_of}
use Rattle.station_values.specs.Station.{is_same_plan}
use Rattle.station_values.proofs.PlanLaws.{once}
use Rattle.station_gear.specs.Racks.{AreOf, IsRack, is_blank_of}
use Rattle.station_gear.specs.Made.{HasOfEach, with_one}
use Rattle.station_gear.proofs.ListLaws.{and_true, count_by-cons, count_by-push, one-more, weight}

-- one more of each of these plans
abbrev pub with_each : List Plan → (Plan → ℕ) → Plan → ℕ
with_each [] count = count
with_each (plan ∷ more) count = with_each more (with_one plan count)

each-counted : (some : List Plan) (count : Plan → ℕ) (plan : Plan) → with_each some count plan ≡ count plan + count_by (is_same_plan plan) some
each-counted [] count plan = omega arith
each-counted (first ∷ more) count plan =
    let had = each-counted more (with_one first count) plan in
    let one = one-more (is_same_plan plan first) (count plan) in
    let all = count_by-cons (is_same_plan plan) first more in
    omega arith

module _ {B : Type 0} (stands : B → History → Type 0) where
  pub are_of-push : (rack : List B) (histories : List History) (b : B) (h : History) → AreOf stands rack histories → stands b h → AreOf stands (rack ++ b ∷ []) (histories ++ h ∷ [])
  are_of-push [] [] b h are is = (is, tt)
  are_of-push [] (first ∷ others) b h are is = absurd are
  are_of-push (x ∷ more) [] b h are is = absurd are
  are_of-push (x ∷ more) (first ∷ others) b h are is = (are.0, are_of-push more others b h are.1 is)

  counted : (plan other : Plan) (histories : List History) (n : ℕ) → count_by (is_blank_of other) histories ≡ n → count_by (is_blank_of other) (histories ++ blank_of plan ∷ []) ≡ (if is_same_plan other plan then n + 1 else n)
  counted plan other histories n is =
      count_by-push (is_blank_of other) histories (blank_of plan) ∙ ap (λ m. m + weight (is_same_plan other plan && true)) is
      ∙ ap (λ m. n + m) (and_true (is_same_plan other plan)) ∙ one-more (is_same_plan other plan) n

  pub of_each_push : (count : Plan → ℕ) (rack : List B) (b : B) (plan : Plan) → HasOfEach stands count rack → stands b (blank_of plan) → HasOfEach stands (with_one plan count) (rack ++ b ∷ [])
  of_each_push count rack b plan has is = record {
    histories = has.histories ++ blank_of plan ∷ [];
    are = are_of-push rack has.histories b (blank_of plan) has.are is;
    counts = λ other. counted plan other has.histories (count other) (has.counts other);
  }

  -- one more of each plan
  pub round : (n : ℕ) (rack : List B) → HasOfEach stands (with_each plans (λ _. n)) rack → HasOfEach stands (λ _. n + 1) rack
  round n rack has = record {
    histories = has.histories;
    are = has.are;
    counts = λ plan. has.counts plan ∙ each-counted plans (λ _. n) plan ∙ ap (λ m. n + m) (once plan);
  }

  -- four of each plan are a rack
  pub rack_of : (rack : List B) → HasOfEach stands (λ _. 4) rack → IsRack stands rack
  rack_of rack has = record { histories = has.histories; are = has.are; enough = λ plan. let n = has.counts plan in omega arith }

  -- a rack that holds nothing yet
  pub none_yet : (rack : List B) → rack ≡ [] → HasOfEach stands (λ _. 0) rack
  none_yet rack none = subst (HasOfEach stands (λ _. 0)) (sym none) (record { histories = []; are = tt; counts = λ plan. refl })
