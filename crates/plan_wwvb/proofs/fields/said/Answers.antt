-- What the proof of `fields::said` needs.
use Rattle.std.proofs.Common.{arith}
use Rattle.plan_wwvb.proofs.fields.said.Goals as goal

pub returns-clause-year : goal.returns-clause-year
returns-clause-year g c = omega (arith, c.value-8.ensures.most, c.value-9.ensures.most)
