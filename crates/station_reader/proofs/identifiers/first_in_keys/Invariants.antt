-- What stays true in the loops of `identifiers::first_in_keys`.
use Rattle.std.proofs.Common.{◌≡◌}
use Rattle.station_reader.proofs.TakenLaws.{left}
use Rattle.station_reader.proofs.identifiers.first_in_keys.Given as goal

abbrev pub invariant-loop-place : goal.invariant-loop-place
invariant-loop-place l = left l.items l.place ≡ left l.items 0
