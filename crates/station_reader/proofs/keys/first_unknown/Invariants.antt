-- What stays true in the loops of `keys::first_unknown`.
use Rattle.std.proofs.Common.{◌≡◌, filter, not}
use Rattle.toml.specs.View.{members_view}
use Rattle.station_reader.specs.Faults.{is_known, keys_of, rows_of}
use Rattle.station_reader.proofs.keys.first_unknown.Given as goal

abbrev pub invariant-members : goal.invariant-members
invariant-members l =
    (goal.iterator-members).can_next l.key-iterator
    × (goal.iterator-members).is_finite l.key-iterator
    × (filter (λ k. not (is_known (rows_of l.part) k)) (keys_of (members_view l.key-iterator)) ≡ filter (λ k. not (is_known (rows_of l.part) k)) (keys_of (members_view l.table.entries)))
