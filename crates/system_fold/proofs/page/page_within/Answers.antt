-- What the search leaves open of `page::page_within`.
use Rattle.std.proofs.Common.{◌∙◌, sym, subst, ◌^◌, pos, ◌-ℤ◌, ◌≤ℤ◌}
use Rattle.std.specs.Prelude.{Option, IfSome}
use Rattle.select_core.specs.declared.chime.Chime.{Chime}
use Rattle.system_fold.proofs.PageLaws.{chosen-near, left-long, page-none}
use Rattle.system_fold.proofs.page.page_within.Goals as goal

pub page_of_survivors-requires-clause-near : goal.page_of_survivors-requires-clause-near
page_of_survivors-requires-clause-near c = c.cluster.ensures.near (chosen-near c.in-Some.chime c.args.inputs.now.moment c.args.fit.now _ c.add_survivors.ensures.value (subst (λ (o : Option Chime). IfSome o (λ chime. (chime.high -ℤ chime.low) ≤ℤ pos (2 ^ 33))) c.in-Some.is c.requires.narrow))

pub page_of_survivors-requires-clause-long : goal.page_of_survivors-requires-clause-long
page_of_survivors-requires-clause-long c = left-long c.in-Some.chime c.args.inputs.now.moment c.args.fit.now _ _ c.add_survivors.ensures.value c.requires.fit c.cluster.ensures.members

pub returns-in-None : goal.returns-in-None
returns-in-None c = c.unsynchronised.ensures ∙ sym (page-none _ _ (sym c.requires.chime ∙ c.in-None.is))
