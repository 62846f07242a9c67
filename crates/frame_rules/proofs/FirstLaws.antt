-- No rule of a list is named exactly where each is unbroken.
use Rattle.std.proofs.Common.{◌≡◌, Bool, true, false, cond, None, Some, List, [], ◌∷◌, find, refl, sym, ap, ◌∙◌}
use Rattle.std.specs.Option.{option_map}
use Rattle.frame_rules.specs.First.{first_broken}
use Rattle.frame_rules.specs.declared.rules.Rule.{Rule}

-- each rule of the list is unbroken
abbrev pub AreUnbroken : List Rule → Type 0
AreUnbroken [] = Unit {0}
AreUnbroken (rule ∷ rules) = (rule.broken ≡ false) × AreUnbroken rules

split : (broken : Bool) (rule : Rule) (rules : List Rule) → option_map (λ r. r.number) (cond broken (Some rule) (find (λ r. r.broken) rules)) ≡ None → (broken ≡ false) × (first_broken rules ≡ None)
split true rule rules e = absurd (cc)
split false rule rules e = (refl, e)

pub AreUnbroken-from_none : (rules : List Rule) → first_broken rules ≡ None → AreUnbroken rules
AreUnbroken-from_none [] e = tt
AreUnbroken-from_none (rule ∷ rules) e =
    let parts = split rule.broken rule rules e in
    (parts.0, AreUnbroken-from_none rules parts.1)

pub first_broken-none : (rules : List Rule) → AreUnbroken rules → first_broken rules ≡ None
first_broken-none [] h = refl
first_broken-none (rule ∷ rules) h = rw h.0 (first_broken-none rules h.1)

-- an unbroken rule was made of a test that is false
pub false_from_unbroken : (rule made : Rule) (broken : Bool) → rule ≡ made → made.broken ≡ broken → rule.broken ≡ false → broken ≡ false
false_from_unbroken rule made broken e is h = sym is ∙ sym (ap (λ (r : Rule). r.broken) e) ∙ h
