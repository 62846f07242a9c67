use Rattle.std.proofs.Common.{ℕ, ◌≤◌, [], rules, sym, subst}
use Rattle.std.specs.Prelude.{All}
use Rattle.station_world.specs.Machine.{published_page}
use Rattle.station_world.proofs.StepLaws.{none_seen}
use Rattle.station_world.proofs.world.World.new.Goals as goal

pub invariant_of-result : goal.invariant_of-result
unfolding published_page
invariant_of-result c =
    let page = c.page-page.ensures c.args.settings.now [] c.new-fold.ensures in
    record {
      feeds = search rules;
      fold = search rules;
      page = search rules;
      next = search rules;
      chained = record { seen = subst (All (λ (n : ℕ). n ≤ 0)) (sym c.in_ok-seen.ensures) (none_seen c.args.readers); published = search rules; last = search rules };
    }
