-- What stays true in the loops of `keys::first_missing`.
use Rattle.std.proofs.Common.{◌≡◌, drop, map}
use Rattle.toml.specs.View.{table_view}
use Rattle.station_reader.specs.Faults.{missing_in, rows_of}
use Rattle.station_reader.specs.Finding.{row_seen}
use Rattle.station_reader.proofs.keys.first_missing.Given as goal

abbrev pub invariant-loop-row : goal.invariant-loop-row
invariant-loop-row l = missing_in (map row_seen (drop l.row-index l.row-items)) (table_view l.table) ≡ missing_in (rows_of l.fn.part) (table_view l.table)
