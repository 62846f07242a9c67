-- What the search leaves open of `arrays::first_in_items`.
use Rattle.std.proofs.Common.{◌≡◌, ◌∙◌, ◌+◌, ◌++◌, sym, ap, drop, get_or, slice_get}
use Rattle.toml.specs.View.{view, items_view}
use Rattle.station_reader.specs.Faults.{keys_at, sheets}
use Rattle.station_reader.specs.Finding.{keys_for, path_text}
use Rattle.station_reader.specs.Forms.{table_at, tables_from}
use Rattle.station_reader.proofs.Firsts.{first_or, first_past}
use Rattle.station_reader.proofs.Walks.{keys_at-append, rest_from}
use Rattle.station_reader.proofs.arrays.first_in_items.Goals as goal

pub returns-then-is_some : goal.returns-then-is_some
returns-then-is_some c =
    let xs = c.args.items.now in
    let i = c.loop-place.place in
    let item = c.index-items-place.result in
    let kind = keys_for c.args.check in
    let more = tables_from (i + 1) (items_view (drop (i + 1) xs)) in
    let at : get_or xs i item ≡ item = sym c.index-items-place.is in
    let step : tables_from i (items_view (drop i xs)) ≡ table_at i (view item) ++ more = rest_from xs i item c.loop-place-test.true ∙ ap (λ v. table_at i (view v) ++ more) at in
    first_or path_text c.first_in_item-spot.result (keys_at kind (sheets c.args.part (table_at i (view item)))) (keys_at kind (sheets c.args.part more))
    c.first_in_item-spot.ensures (sym c.is_some.ensures ∙ c.if-is_some.true)
    ∙ ap (λ t. slice_get t 0) (sym (keys_at-append kind c.args.part (table_at i (view item)) more) ∙ sym (ap (λ ts. keys_at kind (sheets c.args.part ts)) step) ∙ c.loop-place.invariant)

pub loop-place-preserved : goal.loop-place-preserved
loop-place-preserved c =
    let xs = c.args.items.now in
    let i = c.loop-place.place in
    let item = c.index-items-place.result in
    let kind = keys_for c.args.check in
    let more = tables_from (i + 1) (items_view (drop (i + 1) xs)) in
    let at : get_or xs i item ≡ item = sym c.index-items-place.is in
    let step : tables_from i (items_view (drop i xs)) ≡ table_at i (view item) ++ more = rest_from xs i item c.loop-place-test.true ∙ ap (λ v. table_at i (view v) ++ more) at in
    let past = first_past path_text c.first_in_item-spot.result (keys_at kind (sheets c.args.part (table_at i (view item)))) (keys_at kind (sheets c.args.part more))
    c.first_in_item-spot.ensures (sym c.is_some.ensures ∙ c.if-is_some.false) in
    sym past ∙ sym (keys_at-append kind c.args.part (table_at i (view item)) more) ∙ sym (ap (λ ts. keys_at kind (sheets c.args.part ts)) step) ∙ c.loop-place.invariant
