-- What the search leaves open of `items::read_all`.
use Rattle.std.proofs.Common.{ap, map}
use Rattle.toml.specs.View.{items_view}
use Rattle.station_reader.specs.Forms.{tables_from}
use Rattle.station_reader.proofs.Walks.{says_end, says_first, says_here, says_next}
use Rattle.station_reader.proofs.items.read_all.Goals as goal

pub loop-item-init : goal.loop-item-init
loop-item-init g c = says_first g.I.Item.rows g.I.Item.row_of _ (tables_from 0 (items_view c.args.items.now)) (ap (map g.I.Item.fields) c.new-rows.ensures.items) c.requires

pub add-requires : goal.add-requires
add-requires g c =
    says_here g.I.Item.rows g.I.Item.row_of (map g.I.Item.fields c.loop-item.rows.items) c.args.items.now c.loop-item.item-index c.item-item.result (tables_from 0 (items_view c.args.items.now)) c.loop-item-test.true c.item-item.is c.loop-item.invariant

pub loop-item-preserved : goal.loop-item-preserved
loop-item-preserved g c =
    says_next g.I.Item.rows g.I.Item.row_of (map g.I.Item.fields c.loop-item.rows.items) (map g.I.Item.fields c.add.new.rows.items) c.args.items.now c.loop-item.item-index c.item-item.result (tables_from 0 (items_view c.args.items.now)) c.loop-item-test.true c.item-item.is c.loop-item.invariant c.in_ok-add.ensures

pub returns : goal.returns
returns g c =
    says_end g.I.Item.rows g.I.Item.row_of (map g.I.Item.fields c.loop-item.rows.items) c.args.items.now c.loop-item.item-index (tables_from 0 (items_view c.args.items.now)) c.loop-item-test.false c.loop-item.invariant
