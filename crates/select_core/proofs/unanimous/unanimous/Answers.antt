-- What the search leaves open of `unanimous::unanimous`.
use Rattle.std.proofs.Common.{sym, ◌∙◌, map}
use Rattle.select_core.specs.Selection.{lower, upper}
use Rattle.select_core.specs.declared.ends.Side.TheVariants.{Lower, Upper}
use Rattle.select_core.proofs.AlikeLaws.{best-alike}
use Rattle.select_core.proofs.UnanimousLaws.{unanimous-chime, unanimous-narrow}
use Rattle.select_core.proofs.unanimous.unanimous.Goals as goal

pub returns-then-serves-clause-chime : goal.returns-then-serves-clause-chime
returns-then-serves-clause-chime c =
    let cs = c.args.candidates.now in
    let low_is = sym (best-alike Upper c.args.lowers.now (map lower cs) c.requires.ends.lowers) ∙ sym c.greatest.ensures ∙ c.in_ok-low.was in
    let high_is = sym (best-alike Lower c.args.uppers.now (map upper cs) c.requires.ends.uppers) ∙ sym c.least.ensures ∙ c.in_ok-high.was in
    unanimous-chime cs c.in_ok-low.low c.in_ok-high.high low_is high_is (sym c.serves.ensures ∙ c.if-serves.true)

pub returns-then-serves-clause-narrow : goal.returns-then-serves-clause-narrow
returns-then-serves-clause-narrow c =
    let cs = c.args.candidates.now in
    let low_is = sym (best-alike Upper c.args.lowers.now (map lower cs) c.requires.ends.lowers) ∙ sym c.greatest.ensures ∙ c.in_ok-low.was in
    let high_is = sym (best-alike Lower c.args.uppers.now (map upper cs) c.requires.ends.uppers) ∙ sym c.least.ensures ∙ c.in_ok-high.was in
    unanimous-narrow cs c.in_ok-low.low c.in_ok-high.high c.requires.measured low_is high_is (sym c.serves.ensures ∙ c.if-serves.true)
