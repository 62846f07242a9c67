-- Plans that have one name are one plan, and each stands once in the list of all.
use Rattle.std.proofs.Common.{◌≡◌, ◌∙◌, true, refl, sym, ap}
use Rattle.std.specs.Prelude.{◌==◌}
use Rattle.std.specs.List.{count_by}
use Rattle.std.proofs.lemmas.Bool.{eqb-true}
use Rattle.std.proofs.lemmas.Option.{same_Some}
use Rattle.std.proofs.lemmas.Slice.Eq.{bytes_eq-Decides}
use Rattle.tick_units.specs.Plans.{plan_of, plans, word_of}
use Rattle.tick_units.specs.declared.marks.Plan.{Plan}
use Rattle.tick_units.proofs.PlanLaws.{each, named}
use Rattle.station_values.specs.Station.{is_same_plan}

pub same-plan : (plan : Plan) → is_same_plan plan plan ≡ true
same-plan plan = (bytes_eq-Decides (word_of plan) (word_of plan)).1 refl

pub same-plan-is : (p q : Plan) → is_same_plan p q ≡ true → p ≡ q
same-plan-is p q e = same_Some p q (sym (named p) ∙ ap plan_of ((bytes_eq-Decides (word_of p) (word_of q)).0 e) ∙ named q)

-- none is in it twice
pub once : (plan : Plan) → count_by (is_same_plan plan) plans ≡ 1
once plan = eqb-true (count_by (is_same_plan plan) plans) 1 (each (λ p. count_by (is_same_plan p) plans == 1) refl plan)
