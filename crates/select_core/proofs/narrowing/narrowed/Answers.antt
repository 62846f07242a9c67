-- What the search leaves open of `narrowing::narrowed`.
use Rattle.std.proofs.Common.{◌-◌, sym, ◌∙◌, arith, length}
use Rattle.select_core.specs.Selection.{chime_allowing}
use Rattle.select_core.proofs.SelectionLaws.{first-none, first-nowhere, first-some, half-none}
use Rattle.select_core.proofs.narrowing.narrowed.Goals as goal

pub returns-in-Some-clause-chime : goal.returns-in-Some-clause-chime
returns-in-Some-clause-chime c =
    let cs = c.args.candidates.now in
    sym (first-some (chime_allowing cs) c.loop-allowed.allowed (length cs) c.in-Some.chime (omega arith) (sym c.in-Some.ensures.chime)) ∙ c.loop-allowed.invariant

pub loop-allowed-preserved : goal.loop-allowed-preserved
loop-allowed-preserved c =
    let cs = c.args.candidates.now in
    sym (first-none (chime_allowing cs) c.loop-allowed.allowed (length cs) (omega arith) (sym c.chime_allowing.ensures.chime ∙ c.in_default.is)) ∙ c.loop-allowed.invariant

pub returns-clause-chime : goal.returns-clause-chime
returns-clause-chime c =
    let cs = c.args.candidates.now in
    sym (first-nowhere (chime_allowing cs) c.loop-allowed.allowed (length cs - c.loop-allowed.allowed) (λ k past. half-none cs k (omega arith))) ∙ c.loop-allowed.invariant
