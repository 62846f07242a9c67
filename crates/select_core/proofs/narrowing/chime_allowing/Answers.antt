-- What the search leaves open of `narrowing::chime_allowing`.
use Rattle.std.proofs.Common.{sym, ◌∙◌}
use Rattle.select_core.proofs.NarrowLaws.{chime-narrow}
use Rattle.select_core.proofs.narrowing.chime_allowing.Goals as goal

pub returns-then-serves-clause-narrow : goal.returns-then-serves-clause-narrow
returns-then-serves-clause-narrow c =
    chime-narrow c.args.candidates.now c.args.allowed c.in_ok-low.low c.in_ok-high.high c.requires.measured (sym c.serves.ensures ∙ c.if-serves.true) c.in_ok-low.ensures c.in_ok-high.ensures
