-- What the search leaves open of `identifiers::first_in_keys`.
use Rattle.std.proofs.Common.{◌∙◌, ◌+◌, sym, ap, slice_get, subst, take, option_map, ◌≡◌}
use Rattle.toml.specs.View.{items_view, view}
use Rattle.station_reader.specs.Faults.{bad_in_keys}
use Rattle.station_reader.specs.Finding.{ids_in, path_text}
use Rattle.station_reader.specs.Forms.{table_at}
use Rattle.station_reader.proofs.Firsts.{first_or, first_past}
use Rattle.station_reader.proofs.TakenLaws.{left, left-end, left-step}
use Rattle.station_reader.proofs.identifiers.first_in_keys.Goals as goal

pub returns-then-is_some : goal.returns-then-is_some
returns-then-is_some c =
    let xs = c.args.items.now in
    let i = c.loop-place.place in
    let item = c.index-items-place.result in
    let here = bad_in_keys (ids_in (items_view (take i xs))) (table_at i (view item)) in
    let found = c.first_in_item-spot.ensures ∙ ap (λ vs. slice_get (bad_in_keys (ids_in (items_view vs)) (table_at i (view item))) 0) c.split_at.ensures.front in
    first_or path_text c.first_in_item-spot.result here (left xs (i + 1)) found (sym c.is_some.ensures ∙ c.if-is_some.true)
    ∙ ap (λ t. slice_get t 0) (sym (left-step xs i item c.loop-place-test.true c.index-items-place.is) ∙ c.loop-place.invariant)

pub loop-place-preserved : goal.loop-place-preserved
loop-place-preserved c =
    let xs = c.args.items.now in
    let i = c.loop-place.place in
    let item = c.index-items-place.result in
    let here = bad_in_keys (ids_in (items_view (take i xs))) (table_at i (view item)) in
    let found = c.first_in_item-spot.ensures ∙ ap (λ vs. slice_get (bad_in_keys (ids_in (items_view vs)) (table_at i (view item))) 0) c.split_at.ensures.front in
    let past = first_past path_text c.first_in_item-spot.result here (left xs (i + 1)) found (sym c.is_some.ensures ∙ c.if-is_some.false) in
    sym past ∙ sym (left-step xs i item c.loop-place-test.true c.index-items-place.is) ∙ c.loop-place.invariant

pub returns : goal.returns
returns c = ap (λ t. slice_get t 0) (sym (left-end c.args.items.now c.loop-place.place c.loop-place-test.false) ∙ c.loop-place.invariant)
