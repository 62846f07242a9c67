-- What the search leaves open of `leap_words::Words::announcing`.
use Rattle.std.proofs.Common.{◌∙◌, ap, sym}
use Rattle.system_fold.specs.Leaps.{armed_among, passed_among}
use Rattle.system_fold.proofs.SilenceLaws.{armed-silent, passed-silent}
use Rattle.system_fold.proofs.leap_words.Words.announcing.Goals as goal

pub returns-then-self-clause-passed : goal.returns-then-self-clause-passed
returns-then-self-clause-passed c = λ now last.
    sym (ap (passed_among now last) (sym c.self.view_is) ∙ passed-silent now last c.self.inside.of (c.self.invariant.1 c.if-self.true))

pub returns-then-self-clause-armed : goal.returns-then-self-clause-armed
returns-then-self-clause-armed c = λ now last.
    sym (ap (armed_among now last) (sym c.self.view_is) ∙ armed-silent now last c.self.inside.of (c.self.invariant.1 c.if-self.true))
