-- What the search leaves open of `combining::mean_apart`.
use Rattle.std.proofs.Common.{◌≡◌, ◌+◌, ◌-ℤ◌, ◌≤◌, ◌^◌, List, [], ◌∷◌, ◌++◌, sym, ap, ◌∙◌, subst, take, unsigned_abs, arith}
use Rattle.std.proofs.lemmas.List.{take_all, take_more}
use Rattle.cluster_core.specs.declared.survivor.Survivor.{Survivor}
use Rattle.cluster_core.proofs.MeanLaws.{AreSummed, mean-by, summed-by}
use Rattle.cluster_core.proofs.combining.mean_apart.Goals as goal

pub loop-x-preserved : goal.loop-x-preserved
loop-x-preserved c =
    let x = c.x-item.result in
    let survivors = c.args.survivors.now in
    let base = c.args.base in
    let i = c.loop-x.x-index in
    let weight = c.weight_of-weight.ensures in
    let near = subst (λ (y : Survivor). unsigned_abs (y.offset -ℤ base) ≤ 2 ^ 33) (sym c.x-item.is) (c.requires.near i x c.loop-x-test.true) in
    let more = summed-by base (take i survivors) i c.loop-x.sum c.with-sum.result c.loop-x.weights c.weight_of-weight.result c.apart.result x c.loop-x.invariant weight.value c.apart.ensures.value c.with-sum.ensures weight.some weight.most near c.apart.ensures.offset in
    let seen = take_more survivors i x c.loop-x-test.true ∙ ap (λ (y : Survivor). take i survivors ++ y ∷ []) (sym c.x-item.is) in
    subst (λ n. AreSummed base (take (i + 1) survivors) (i + 1) c.with-sum.result (c.loop-x.weights + n)) (sym c.from-weights.ensures) (subst (λ (ys : List Survivor). AreSummed base ys (i + 1) c.with-sum.result (c.loop-x.weights + c.weight_of-weight.result)) (sym seen) more)

pub returns-clause-value : goal.returns-clause-value
returns-clause-value c =
    let full : take c.loop-x.x-index c.args.survivors.now ≡ c.args.survivors.now = take_all c.loop-x.x-index c.args.survivors.now (omega arith) in
    let sums = subst (λ seen. AreSummed c.args.base seen c.loop-x.x-index c.loop-x.sum c.loop-x.weights) full c.loop-x.invariant in
    mean-by c.args.base c.args.survivors.now c.loop-x.x-index c.loop-x.sum c.over.result c.loop-x.weights sums (omega arith) c.over.ensures.value
