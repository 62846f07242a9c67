-- What stays true in the loops of `selecting::source_at`.
use Rattle.std.proofs.Common.{◌≡◌, length}
use Rattle.std.specs.Prelude.{find, ◌==◌}
use Rattle.system_fold.specs.declared.source.Source.{Source}
use Rattle.system_fold.proofs.selecting.source_at.Given as goal

abbrev pub invariant-sources : goal.invariant-sources
invariant-sources l = find (λ (s : Source). s.feed == l.feed) l.fit ≡ find (λ (s : Source). s.feed == l.feed) l.further

abbrev pub decreases-sources : goal.decreases-sources
decreases-sources l = length l.further
