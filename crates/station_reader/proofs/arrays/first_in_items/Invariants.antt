-- What stays true in the loops of `arrays::first_in_items`.
use Rattle.std.proofs.Common.{◌≡◌, drop}
use Rattle.toml.specs.View.{items_view}
use Rattle.station_reader.specs.Faults.{keys_at, sheets}
use Rattle.station_reader.specs.Finding.{keys_for}
use Rattle.station_reader.specs.Forms.{tables_from}
use Rattle.station_reader.proofs.arrays.first_in_items.Given as goal

abbrev pub invariant-loop-place : goal.invariant-loop-place
invariant-loop-place l =
    keys_at (keys_for l.check) (sheets l.part (tables_from l.place (items_view (drop l.place l.items))))
    ≡ keys_at (keys_for l.check) (sheets l.part (tables_from 0 (items_view l.items)))
