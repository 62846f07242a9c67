use Rattle.std.proofs.Common.{ℕ, ◌≤◌, arith}
use Rattle.std.proofs.lemmas.List.Elements.{All-set}
use Rattle.station_world.specs.Machine.{published_page}
use Rattle.station_world.proofs.world.World.read.Goals as goal

pub invariant_of-self : goal.invariant_of-self
unfolding published_page
invariant_of-self c =
    let i = c.self.invariant in
    let w = c.self.inside in
    record {
      feeds = i.feeds;
      fold = i.fold;
      page = i.page;
      next = i.next;
      chained = record { seen = All-set (λ (n : ℕ). n ≤ w.published) w.seen.items c.args.number w.published (omega arith) i.chained.seen; published = i.chained.published; last = i.chained.last };
    }
