-- Discards, one after another.
use Rattle.std.proofs.Common.{◌≡◌, ℕ, zero, suc, ◌+◌, ◌<◌, ◌≤◌, Bool, true, false, cond, List, ◌∷◌, ◌++◌, length, refl, sym, ap, ◌∙◌, subst, arith, length-append, ◌⊎◌, inl, inr}
use Rattle.std.specs.Prelude.{All, Contains, nat_lt, ◌||◌, ◌≤ℤ◌}
use Rattle.std.specs.List.{list_all}
use Rattle.std.proofs.lemmas.Bool.{cases_lt, false≢true, le-leb}
use Rattle.std.proofs.lemmas.List.Elements.{All-contains, All-contains_itself, All-weaker, Contains-append_cases, Contains-append_left, Contains-append_right}
use Rattle.std.proofs.lemmas.List.Sorted.{Contains-permutation, IsPermutation-sym, length_permutation}
use Rattle.tick_units.specs.Orders.{in_order}
use Rattle.cluster_core.specs.Bounds.{AreNear}
use Rattle.cluster_core.specs.Clusters.{Clusters, Discards, Settles, is_at_rest, may_precede, survivors_left, left_within, greatest_jitter, selection_jitter, without_greatest}
use Rattle.cluster_core.specs.Clusters.Settles.{stays, goes_on}
use Rattle.cluster_core.specs.declared.survivor.Survivor.{Survivor}
use Rattle.tick_units.proofs.OrderLaws.{in_order-keeps}
use Rattle.cluster_core.proofs.WorstLaws.{discards-is, discards-some}

-- three are at rest
rests-few : (all : List Survivor) → length all ≤ 3 → is_at_rest all ≡ true
rests-few all few = ap (λ b. b || list_all (λ x. nat_lt (greatest_jitter all) x.jitter2) all) (le-leb (length all) 3 few)

many-busy : (all : List Survivor) → is_at_rest all ≡ false → 3 < length all
many-busy all busy = by_length (cases_lt 3 (length all))
  where
    by_length : (3 < length all) ⊎ (length all ≤ 3) → 3 < length all
    by_length (inl many) = many
    by_length (inr few) = absurd (false≢true (sym busy ∙ rests-few all few))

length-discards : (all fewer : List Survivor) → Discards all fewer → length all ≡ length fewer + 1
length-discards all fewer h = omega (arith, simp length-append at (ap length h.whole), simp length-append at (ap length h.others))

-- the members that are fewer were there before
left-before : (all fewer : List Survivor) (x : Survivor) → Discards all fewer → Contains fewer x → Contains all x
left-before all fewer x h here =
    subst (λ xs. Contains xs x) (sym h.whole) (by_part (Contains-append_cases h.prefix h.back x (subst (λ xs. Contains xs x) h.others here)))
  where
    by_part : Contains h.prefix x ⊎ Contains h.back x → Contains (h.prefix ++ h.discarded ∷ h.back) x
    by_part (inl before) = Contains-append_left h.prefix (h.discarded ∷ h.back) x before
    by_part (inr later) = Contains-append_right h.prefix (h.discarded ∷ h.back) x (suc later.0, omega (arith, later.1), later.2)

-- survivors settle to one list
pub settled-is : (all left : List Survivor) → Settles all left → (steps : ℕ) → length all ≤ steps → left ≡ left_within steps all
settled-is _ _ (stays all quiet) zero enough = refl
settled-is _ _ (stays all quiet) (suc steps) enough = sym (ap (λ b. cond b all (left_within steps (without_greatest (selection_jitter all) all))) quiet)
settled-is _ _ (goes_on all fewer left busy discards more) zero enough = absurd (omega (arith, many-busy all busy))
settled-is _ _ (goes_on all fewer left busy discards more) (suc steps) enough =
    settled-is fewer left more steps (omega (arith, length-discards all fewer discards))
    ∙ ap (left_within steps) (discards-is all fewer discards)
    ∙ sym (ap (λ b. cond b all (left_within steps (without_greatest (selection_jitter all) all))) busy)

-- and to one they do settle
settles-some : (steps : ℕ) (all : List Survivor) → length all ≤ steps → Settles all (left_within steps all)
settles-some zero all enough = stays all (rests-few all (omega arith))
settles-some (suc steps) all enough = by_test (settles-some steps (without_greatest (selection_jitter all) all)) (is_at_rest all) refl
  where
    by_test : (length (without_greatest (selection_jitter all) all) ≤ steps → Settles (without_greatest (selection_jitter all) all) (left_within steps (without_greatest (selection_jitter all) all))) → (b : Bool) → is_at_rest all ≡ b → Settles all (cond b all (left_within steps (without_greatest (selection_jitter all) all)))
    by_test further true quiet = stays all quiet
    by_test further false busy =
        let discards = discards-some all (omega (arith, many-busy all busy)) in
        goes_on all _ _ busy discards (further (omega (arith, length-discards all _ discards)))

pub settled-members : (all left : List Survivor) → Settles all left → All (Contains all) left
settled-members _ _ (stays all quiet) = All-contains_itself all
settled-members _ _ (goes_on all fewer left busy discards more) = All-weaker (Contains fewer) (Contains all) (λ x here. left-before all fewer x discards here) left (settled-members fewer left more)

pub settled-some : (all left : List Survivor) → Settles all left → 0 < length all → 0 < length left
settled-some _ _ (stays all quiet) some = some
settled-some _ _ (goes_on all fewer left busy discards more) some = settled-some fewer left more (omega (arith, many-busy all busy, length-discards all fewer discards))

-- the same from the list that is not in order yet
length-in_order : (survivors : List Survivor) → length (in_order may_precede survivors) ≡ length survivors
length-in_order survivors = length_permutation survivors _ (in_order-keeps may_precede survivors)

pub clusters-is : (survivors left : List Survivor) → Clusters survivors left → left ≡ survivors_left survivors
clusters-is survivors left h = settled-is (in_order may_precede survivors) left h (length survivors) (omega (arith, length-in_order survivors))

pub clusters-survivors_left : (survivors : List Survivor) → Clusters survivors (survivors_left survivors)
clusters-survivors_left survivors = settles-some (length survivors) (in_order may_precede survivors) (omega (arith, length-in_order survivors))

pub clusters-members : (survivors left : List Survivor) → Clusters survivors left → All (Contains survivors) left
clusters-members survivors left h =
    All-weaker (Contains (in_order may_precede survivors)) (Contains survivors)
    (λ x here. Contains-permutation _ survivors x (IsPermutation-sym survivors _ (in_order-keeps may_precede survivors)) here) left
    (settled-members (in_order may_precede survivors) left h)

pub clusters-some : (survivors left : List Survivor) → Clusters survivors left → 0 < length survivors → 0 < length left
clusters-some survivors left h some = settled-some (in_order may_precede survivors) left h (omega (arith, length-in_order survivors))

-- what holds of all survivors holds of those that are left
pub clusters-all : (P : Survivor → Type 0) (survivors left : List Survivor) → Clusters survivors left → All P survivors → All P left
clusters-all P survivors left h all = All-weaker (Contains survivors) P (λ x here. All-contains P survivors x all here) left (clusters-members survivors left h)

pub clusters-near : (survivors left : List Survivor) → Clusters survivors left → AreNear survivors → AreNear left
clusters-near survivors left h near = record {
  low = near.low;
  high = near.high;
  apart = near.apart;
  from = clusters-all (λ x. near.low ≤ℤ x.offset) survivors left h near.from;
  upto = clusters-all (λ x. x.offset ≤ℤ near.high) survivors left h near.upto;
}
