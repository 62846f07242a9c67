-- What the search leaves open of `sweep::Sweep::chime`.
use Rattle.std.proofs.Common.{◌∙◌, sym, ap}
use Rattle.select_core.specs.Selection.{chime_of}
use Rattle.select_core.proofs.ChimeLaws.{chime-permutation}
use Rattle.select_core.proofs.sweep.Sweep.chime.Goals as goal

pub returns-in-Some-clause-any_order : goal.returns-in-Some-clause-any_order
returns-in-Some-clause-any_order c = λ ds moved. sym c.in-Some.ensures.chime ∙ ap chime_of (c.as_slice.ensures.value ∙ c.self.view_is) ∙ chime-permutation c.args.self.now ds moved

pub returns-in-None-clause-any_order : goal.returns-in-None-clause-any_order
returns-in-None-clause-any_order c = λ ds moved. c.narrowed.ensures.chime ∙ ap chime_of (c.as_slice-in-None.ensures.value ∙ c.self.view_is) ∙ chime-permutation c.args.self.now ds moved
