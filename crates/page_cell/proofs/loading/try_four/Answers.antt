use Rattle.std.proofs.Common.{◌<◌, List, ℕ, rules, ◌∙◌, subst}
use Rattle.page_cell.specs.Tries.{ReadsOnce}
use Rattle.page_cell.proofs.Tries.{reads-page, try-other, try-same}
use Rattle.page_cell.proofs.loading.try_four.Goals as goal

pub returns-then-second-first-clause-page : goal.returns-then-second-first-clause-page
returns-then-second-first-clause-page g c =
    let a = c.attempt-first in
    let v = c.args.token.now.me.0 in
    let x = a.new.token.me.0 in
    let below : c.loop-i.i < 4 = search rules in
    let once = try-same c.loop-i.i a.result.0 a.result.1 a.result.2 v c.loop-i.token.me.0 x below c.requires.rests c.loop-i.invariant.tried a.ensures.greatest (search rules) a.ensures.reports in
    reads-page a.result.0 c.page_in.result v x (subst (λ (ten : List ℕ). ReadsOnce v a.result.0 ten x) c.page_in.ensures.words once) c.page_in.ensures.page

pub loop-i-preserved : goal.loop-i-preserved
loop-i-preserved g c =
    let a = c.attempt-first in
    let i = c.loop-i.invariant in
    let below : c.loop-i.i < 4 = search rules in
    let more = try-other c.loop-i.i a.result.0 a.result.1 a.result.2 c.args.token.now.me.0 c.loop-i.token.me.0 a.new.token.me.0 below i.tried a.ensures.greatest (search rules) a.ensures.reports in
    record { own = a.ensures.own ∙ i.own; slots = a.ensures.slots ∙ i.slots; tried = more.0; last = (λ _. more.1) }
