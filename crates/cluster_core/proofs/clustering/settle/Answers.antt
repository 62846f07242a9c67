-- What the search leaves open of `clustering::settle`.
use Rattle.std.proofs.Common.{◌≡◌, List, false, true, sym, subst}
use Rattle.cluster_core.specs.Clusters.{Discards, is_at_rest, IsWorst}
use Rattle.cluster_core.specs.Clusters.Settles.{stays, goes_on}
use Rattle.cluster_core.specs.declared.survivor.Survivor.{Survivor}
use Rattle.cluster_core.proofs.WorstLaws.{discards-at}
use Rattle.cluster_core.proofs.clustering.settle.Goals as goal

pub loop-place-preserved : goal.loop-place-preserved
loop-place-preserved c = λ settled settles.
    let seen = c.as_slice.ensures.value in
    let here = subst (λ (all : List Survivor). (is_at_rest all ≡ false) × IsWorst all c.in-Some.place) seen c.in-Some.ensures.some in
    c.loop-place.invariant settled (goes_on c.loop-place.left.items c.remove.new.self.items settled here.0 (subst (Discards c.loop-place.left.items) (sym c.remove.ensures.items) (discards-at c.loop-place.left.items c.in-Some.place here.1)) settles)

pub returns : goal.returns
returns c = c.loop-place.invariant c.loop-place.left.items (stays c.loop-place.left.items (subst (λ (all : List Survivor). is_at_rest all ≡ true) c.as_slice.ensures.value c.in_default.ensures.none))
