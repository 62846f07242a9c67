-- What the search leaves open of `sweep::Sweep::place_of`.
use Rattle.std.proofs.Common.{◌≡◌, sym, ◌∙◌, subst, rules}
use Rattle.std.specs.List.Sorted.{IsPartitionPoint}
use Rattle.std.specs.Prelude.{true, false, List, nat_lt}
use Rattle.std.proofs.lemmas.List.Sorted.{IsPartitionPoint-from_clause}
use Rattle.select_core.specs.KeptSweep.{IsStanding}
use Rattle.select_core.specs.declared.chime.Candidate.{Candidate}
use Rattle.select_core.proofs.StandingLaws.{feeds-partitioned}
use Rattle.select_core.proofs.sweep.Sweep.place_of.Goals as goal

pub returns-clause-point : goal.returns-clause-point
returns-clause-point c =
    let feed = c.args.feed in
    let place = c.partition_point.result in
    let same : c.deref.result.now ≡ c.self.inside.standing.items = search rules in
    let standing = subst IsStanding (sym same) c.self.invariant.0 in
    let found = IsPartitionPoint-from_clause (λ (x : Candidate). nat_lt x.feed feed) c.deref.result.now place c.partition_point.ensures.partitioned (feeds-partitioned c.deref.result.now feed standing.feeds) (λ a r q k. search rules) in
    subst (λ (l : List Candidate). IsPartitionPoint (λ x. nat_lt x.feed feed ≡ true) (λ x. nat_lt x.feed feed ≡ false) l place) (same ∙ c.self.view_is) found
