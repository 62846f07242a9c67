-- What the proof of `reading::MsfCodePlan::judge` needs.
use Rattle.std.proofs.Common.{rules, ◌≡◌, Some}
use Rattle.plan_msf.specs.Rules.{first}
use Rattle.plan_msf.proofs.LeastRule.{first_is_least}
use Rattle.plan_msf.proofs.reading.MsfCodePlan.judge.Goals as goal

pub returns-in-Some-clause-least : goal.returns-in-Some-clause-least
returns-in-Some-clause-least g c = λ marks stands. let e : first marks c.args.close ≡ Some c.in-Some.rule = search rules in first_is_least marks c.args.close c.in-Some.rule e
