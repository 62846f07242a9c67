-- What the search leaves open of `clustering::cluster`.
use Rattle.std.proofs.Common.{List, sym, ap, ◌∙◌, subst}
use Rattle.cluster_core.specs.Bounds.{IsWeighable}
use Rattle.cluster_core.specs.Clusters.{Clusters, Settles, may_precede}
use Rattle.tick_units.specs.Orders.{in_order}
use Rattle.cluster_core.specs.declared.survivor.Survivor.{Survivor}
use Rattle.cluster_core.proofs.SettlingLaws.{clusters-is, clusters-members, clusters-some, clusters-all, clusters-near}
use Rattle.cluster_core.proofs.clustering.cluster.Goals as goal

-- what is left are the clusters of what was there
left : (c : goal.After-settle) → Clusters c.args.s.now c.settle.new.left.items
left c =
    let first = c.arrange.ensures ∙ ap (in_order may_precede) c.s.view_is in
    subst (λ (all : List Survivor). Settles all c.settle.new.left.items) first c.settle.ensures

pub returns-clause-clusters : goal.returns-clause-clusters
returns-clause-clusters c = left c

pub returns-clause-only : goal.returns-clause-only
returns-clause-only c = λ others h. clusters-is c.args.s.now others h ∙ sym (clusters-is c.args.s.now c.settle.new.left.items (left c))

pub returns-clause-left : goal.returns-clause-left
returns-clause-left c = clusters-is c.args.s.now c.settle.new.left.items (left c)

pub returns-clause-members : goal.returns-clause-members
returns-clause-members c = clusters-members c.args.s.now c.settle.new.left.items (left c)

pub returns-clause-some : goal.returns-clause-some
returns-clause-some c = clusters-some c.args.s.now c.settle.new.left.items (left c)

pub returns-clause-measured : goal.returns-clause-measured
returns-clause-measured c = clusters-all IsWeighable c.args.s.now c.settle.new.left.items (left c)

pub returns-clause-near : goal.returns-clause-near
returns-clause-near c = clusters-near c.args.s.now c.settle.new.left.items (left c)
