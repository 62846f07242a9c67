-- What the proof of `reading::DcfCodePlan::judge` needs.
use Rattle.std.proofs.Common.{rules, ◌≡◌, Some}
use Rattle.plan_dcf.specs.Rules.{first}
use Rattle.plan_dcf.proofs.LeastRule.{first_is_least}
use Rattle.plan_dcf.proofs.reading.DcfCodePlan.judge.Goals as goal

pub returns-in-Some-clause-least : goal.returns-in-Some-clause-least
returns-in-Some-clause-least g c = λ marks stands. let e : first marks ≡ Some c.in-Some.rule = search rules in first_is_least marks c.in-Some.rule e
