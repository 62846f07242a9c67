use Rattle.std.proofs.Common.{ℕ, ◌≤◌, rules}
use Rattle.std.proofs.lemmas.List.Elements.{All-set, All-get_or}
use Rattle.station_world.specs.Machine.{published_page}
use Rattle.station_world.proofs.world.World.tell.Goals as goal

pub invariant_of-self : goal.invariant_of-self
unfolding published_page
invariant_of-self c =
    let i = c.self.invariant in
    let w = c.self.inside in
    let had = All-get_or (λ (m : ℕ). m ≤ w.published) w.seen.items c.args.number 0 (search rules) i.chained.seen in
    let most : c.max.result ≤ w.published = search rules in
    record {
      feeds = i.feeds;
      fold = i.fold;
      page = i.page;
      next = i.next;
      chained = record { seen = All-set (λ (n : ℕ). n ≤ w.published) w.seen.items c.args.number c.max.result most i.chained.seen; published = i.chained.published; last = i.chained.last };
    }
