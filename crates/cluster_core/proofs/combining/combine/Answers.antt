-- What the search leaves open of `combining::combine`.
use Rattle.std.proofs.Common.{◌<◌, ◌^◌, ◌≤ℤ◌, length, unsigned_abs, List, sym, ◌∙◌, subst}
use Rattle.std.specs.Prelude.{All}
use Rattle.cluster_core.specs.Bounds.{AreNear}
use Rattle.cluster_core.specs.declared.survivor.Survivor.{Survivor}
use Rattle.cluster_core.proofs.MeanLaws.{mean-least, mean-most, mean-small, near-to}
use Rattle.cluster_core.proofs.combining.combine.Goals as goal

pub mean_apart-requires-clause-near : goal.mean_apart-requires-clause-near
mean_apart-requires-clause-near c =
    let same = sym c.as_slice-survivors.ensures.value in
    near-to c.as_slice-survivors.result.now 0 c.index-survivors-0.result (subst (λ (all : List Survivor). 0 < length all) same c.requires.some) (subst AreNear same c.requires.near)

pub add-requires : goal.add-requires
add-requires c = subst (λ z. unsigned_abs z < 2 ^ 70) (sym c.mean_apart.ensures.value) (mean-small c.as_slice-survivors.result.now c.mean_apart.ensures.weighs c.mean_apart.ensures.offsets)

pub returns-clause-least : goal.returns-clause-least
returns-clause-least c = λ low all.
    subst (λ z. low ≤ℤ z) (sym (c.add.ensures ∙ c.mean_apart.ensures.value)) (mean-least low c.as_slice-survivors.result.now c.mean_apart.ensures.weighs (subst (λ (xs : List Survivor). All (λ x. low ≤ℤ x.offset) xs) (sym c.as_slice-survivors.ensures.value) all))

pub returns-clause-most : goal.returns-clause-most
returns-clause-most c = λ high all.
    subst (λ z. z ≤ℤ high) (sym (c.add.ensures ∙ c.mean_apart.ensures.value)) (mean-most high c.as_slice-survivors.result.now c.mean_apart.ensures.weighs (subst (λ (xs : List Survivor). All (λ x. x.offset ≤ℤ high) xs) (sym c.as_slice-survivors.ensures.value) all))
