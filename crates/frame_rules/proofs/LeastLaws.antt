-- Where the numbers of rules rise along their list, the first broken rule has the least number of those that are broken.
use Rattle.std.proofs.Common.{◌≡◌, ℕ, suc, ◌<◌, ◌≤◌, Bool, true, false, cond, Some, List, [], ◌∷◌, find, refl, sym, subst, ◌∙◌, arith}
use Rattle.std.specs.Prelude.{All, IsTrue, nat_lt, ◌&&◌}
use Rattle.std.specs.Option.{option_map}
use Rattle.std.proofs.lemmas.Bool.{false≢true, and_parts, ltb-true}
use Rattle.std.proofs.lemmas.List.Elements.{All-cons, All-nil, All-weaker}
use Rattle.frame_rules.specs.First.{first_broken, IsLeastBroken}
use Rattle.frame_rules.specs.declared.rules.Rule.{Rule}

-- each number is greater than the one before it
abbrev pub are_above : ℕ → List Rule → Bool
are_above least [] = true
are_above least (rule ∷ rules) = nat_lt least rule.number && are_above rule.number rules

abbrev AreAbove : ℕ → List Rule → Type 0
AreAbove least [] = Unit {0}
AreAbove least (rule ∷ rules) = (least < rule.number) × AreAbove rule.number rules

detects-above : (least : ℕ) (rules : List Rule) → are_above least rules ≡ true → AreAbove least rules
detects-above least [] h = tt
detects-above least (rule ∷ rules) h =
    let parts = and_parts _ _ h in
    (ltb-true _ _ parts.0, detects-above rule.number rules parts.1)

-- what is above a number is above each lesser one
above-all : (least : ℕ) (rules : List Rule) → AreAbove least rules → All (λ rule. IsTrue rule.broken → least ≤ rule.number) rules
above-all least [] h = All-nil (λ rule. IsTrue rule.broken → least ≤ rule.number)
above-all least (rule ∷ rules) h = All-cons (λ r. IsTrue r.broken → least ≤ r.number) rule rules (λ b. let e : least < rule.number = h.0 in omega arith) (All-weaker (λ r. IsTrue r.broken → rule.number ≤ r.number) (λ r. IsTrue r.broken → least ≤ r.number) (λ r above b. let e : rule.number ≤ r.number = above b in let f : least < rule.number = h.0 in omega arith) rules (above-all rule.number rules h.1))

rising-least : (least : ℕ) (rules : List Rule) (n : ℕ) → AreAbove least rules → first_broken rules ≡ Some n → IsLeastBroken rules n
rising-least least [] n h e = absurd (cc)
rising-least least (rule ∷ rules) n h e = by_test rule.broken refl e (rising-least rule.number rules n h.1)
  where
    by_test : (b : Bool) → rule.broken ≡ b → option_map (λ r. r.number) (cond b (Some rule) (find (λ r. r.broken) rules)) ≡ Some n → (first_broken rules ≡ Some n → IsLeastBroken rules n) → IsLeastBroken (rule ∷ rules) n
    by_test true is e further =
        let number : rule.number ≡ n = cc in
        record {
          broken = (0, omega arith, λ i. record { number = number i; broken = is i });
          least = subst (λ m. All (λ r. IsTrue r.broken → m ≤ r.number) (rule ∷ rules)) number (All-cons (λ r. IsTrue r.broken → rule.number ≤ r.number) rule rules (λ b. omega arith) (above-all rule.number rules h.1));
        }
    by_test false is e further =
        let known = further e in
        record {
          broken = (suc known.broken.0, omega arith, known.broken.2);
          least = All-cons (λ r. IsTrue r.broken → n ≤ r.number) rule rules (λ b. absurd (false≢true (sym is ∙ b))) known.least;
        }

pub first-is_least : (rules : List Rule) (n : ℕ) → are_above 0 rules ≡ true → first_broken rules ≡ Some n → IsLeastBroken rules n
first-is_least rules n h e = rising-least 0 rules n (detects-above 0 rules h) e
