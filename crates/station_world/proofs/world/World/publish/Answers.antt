use Rattle.std.proofs.Common.{◌≡◌, ℕ, ◌≤◌, length, rules, sym, ◌∙◌, arith}
use Rattle.station_world.specs.KeptWorld.{state_of}
use Rattle.station_world.proofs.StepLaws.{page_of_all}
use Rattle.station_world.proofs.world.World.publish.Goals as goal

pub invariant_of-self : goal.invariant_of-self
invariant_of-self c =
    let i = c.self.invariant in
    let w = c.self.inside in
    let s = record (state_of w) { published = c.len-length.result } in
    let whole : c.len-length.result ≡ length w.entries.items = search rules in
    let seen = i.chained.seen in
    let least = i.chained.published in
    record {
      feeds = i.feeds;
      fold = i.fold;
      page = i.next ∙ sym (page_of_all s whole);
      next = i.next;
      chained = record { seen = Rattle.std.proofs.lemmas.List.Elements.All-weaker (λ (n : ℕ). n ≤ w.published) (λ n. n ≤ c.len-length.result) (λ n le. omega arith) w.seen.items seen; published = omega arith; last = omega arith };
    }
