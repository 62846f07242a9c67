-- What the search leaves open of `leap_words::Words::put`.
use Rattle.std.proofs.Common.{◌∙◌}
use Rattle.std.specs.Prelude.{Some}
use Rattle.std.proofs.lemmas.List.{length-set}
use Rattle.system_fold.proofs.SilenceLaws.{silent-set}
use Rattle.system_fold.proofs.leap_words.Words.put.Goals as goal

pub invariant_of-self : goal.invariant_of-self
invariant_of-self c = (
  length-set c.self.inside.of c.args.feed (Some c.args.word) ∙ c.self.invariant.0,
  (λ silent. silent-set c.self.inside.of c.args.feed (Some c.args.word) (c.self.invariant.1 (c.are_silent-self-inside.ensures.others silent)) (c.are_silent-self-inside.ensures.new silent)),
)
