-- The survivors that agree best with each other (RFC 5905, section 11.2.2). Jitters are squared here, and each difference in them
-- counts as at most 256 s. The order of the survivors is this project's own.
use Rattle.std.specs.Prelude.{◌≡◌, ℕ, zero, suc, ◌-◌, ◌/◌, ◌==◌, ◌<◌, ◌≤◌, Bool, true, false, ◌&&◌, ◌||◌, nat_le, nat_lt, int_le, int_lt, All, List, [], ◌∷◌, ◌++◌, length, map, sum_by, if◌then◌else◌}
use Rattle.std.specs.List.{list_all, IsLastBest}
use Rattle.tick_units.specs.Orders.{greatest, in_order}
use Rattle.tick_units.specs.Units.{square}
use Rattle.cluster_core.specs.declared.survivor.Survivor.{Survivor}

-- the lower stratum comes first, of equal ones the shorter distance, and then the lesser feed
abbrev pub may_precede : Survivor → Survivor → Bool
may_precede x y = nat_lt x.stratum y.stratum || (x.stratum == y.stratum && (int_lt x.distance y.distance || (int_le x.distance y.distance && nat_le x.feed y.feed)))

-- the mean of the squared distances of the others from one, rounded down; from itself it has none
abbrev pub selection_jitter : List Survivor → Survivor → ℕ
selection_jitter all x = sum_by (λ y. square y.offset x.offset) all / (length all - 1)

abbrev pub greatest_jitter : List Survivor → ℕ
greatest_jitter all = greatest (map (selection_jitter all) all)

-- no more than three are left, or even the greatest selection jitter is less than the least of their own
abbrev pub is_at_rest : List Survivor → Bool
is_at_rest all = nat_le (length all) 3 || list_all (λ x. nat_lt (greatest_jitter all) x.jitter2) all

-- the one at a place has the greatest selection jitter, and those after it have less
abbrev pub IsWorst : List Survivor → ℕ → Type 0
IsWorst all place = IsLastBest (λ x y. nat_lt (selection_jitter all y) (selection_jitter all x)) all (length all) place

-- one is discarded: none has a greater selection jitter, and of those with as great a jitter it is the last
pub record Discards (all left : List Survivor) : Type 0 where
  pub prefix : List Survivor
  pub discarded : Survivor
  pub back : List Survivor
  pub whole : all ≡ prefix ++ discarded ∷ back
  pub others : left ≡ prefix ++ back
  pub greatest : All (λ x. selection_jitter all x ≤ selection_jitter all discarded) all
  pub last : All (λ x. selection_jitter all x < selection_jitter all discarded) back

-- one after another is discarded, until these are left
pub data Settles : List Survivor → List Survivor → Type 0 where
  stays : (all : List Survivor) → is_at_rest all ≡ true → Settles all all
  goes_on : (all fewer left : List Survivor) → is_at_rest all ≡ false → Discards all fewer → Settles fewer left → Settles all left

-- the same, from the survivors in order
abbrev pub Clusters : List Survivor → List Survivor → Type 0
Clusters survivors left = Settles (in_order may_precede survivors) left

-- a list without the last of its items of the greatest number: the first item goes that is greater than all after it
abbrev pub without_greatest : (Survivor → ℕ) → List Survivor → List Survivor
without_greatest number [] = []
without_greatest number (x ∷ xs) = if list_all (λ y. nat_lt (number y) (number x)) xs then xs else x ∷ without_greatest number xs

abbrev pub left_within : ℕ → List Survivor → List Survivor
left_within zero all = all
left_within (suc steps) all = if is_at_rest all then all else left_within steps (without_greatest (selection_jitter all) all)

-- the list of the survivors that are left
abbrev pub survivors_left : List Survivor → List Survivor
survivors_left survivors = left_within (length survivors) (in_order may_precede survivors)
