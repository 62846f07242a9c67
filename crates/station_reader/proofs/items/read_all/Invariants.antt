-- What stays true in the loops of `items::read_all`.
use Rattle.std.proofs.Common.{drop, map}
use Rattle.toml.specs.View.{items_view}
use Rattle.station_reader.specs.Forms.{tables_from}
use Rattle.station_reader.proofs.Walks.{Says}
use Rattle.station_reader.proofs.items.read_all.Given as goal

abbrev pub invariant-loop-item : goal.invariant-loop-item
invariant-loop-item g l =
    Says g.I.Item.rows g.I.Item.row_of (map g.I.Item.fields l.rows.items) (tables_from l.item-index (items_view (drop l.item-index l.items))) (tables_from 0 (items_view l.items))
