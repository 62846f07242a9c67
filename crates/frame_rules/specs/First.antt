-- Which of the rules of a code plan is named: of those that a segment breaks, the one of the least number.
use Rattle.std.specs.Prelude.{ℕ, ◌≤◌, true, Option, List, All, IsTrue, find}
use Rattle.std.specs.List.{Contains}
use Rattle.std.specs.Option.{option_map}
use Rattle.frame_rules.specs.declared.rules.Rule.{Rule}

-- the number of the first rule that is broken, the rules being listed by number
abbrev pub first_broken : List Rule → Option ℕ
first_broken rules = option_map (λ rule. rule.number) (find (λ rule. rule.broken) rules)

-- the number is that of a broken rule, and no broken rule has a lesser one
pub record IsLeastBroken (rules : List Rule) (number : ℕ) : Type 0 where
  pub broken : Contains rules (record { number = number; broken = true })
  pub least : All (λ rule. IsTrue rule.broken → number ≤ rule.number) rules
