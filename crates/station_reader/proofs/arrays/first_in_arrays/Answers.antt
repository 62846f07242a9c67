-- What the search leaves open of `arrays::first_in_arrays`.
use Rattle.std.proofs.Common.{◌∙◌, ◌++◌, sym, ap, slice_get}
use Rattle.toml.specs.View.{table_view}
use Rattle.station_reader.specs.Finding.{keys_for, path_text}
use Rattle.station_reader.proofs.Firsts.{first_or, first_past}
use Rattle.station_reader.proofs.Orders.{keys_of_items, keys_of_links, keys_of_radios, keys_of_servers}
use Rattle.station_reader.proofs.arrays.first_in_arrays.Goals as goal

pub returns-then-is_some : goal.returns-then-is_some
returns-then-is_some c =
    let kind = keys_for c.args.check in
    let m = table_view c.args.table.now in
    first_or path_text c.first_in_array-radio.result (keys_of_radios kind m) (keys_of_servers kind m ++ keys_of_links kind m)
    c.first_in_array-radio.ensures (sym c.is_some.ensures ∙ c.if-is_some.true)
    ∙ ap (λ t. slice_get t 0) (sym (keys_of_items kind m))

pub returns-then-is_some-2 : goal.returns-then-is_some-2
returns-then-is_some-2 c =
    let kind = keys_for c.args.check in
    let m = table_view c.args.table.now in
    let past = first_past path_text c.first_in_array-radio.result (keys_of_radios kind m) (keys_of_servers kind m ++ keys_of_links kind m)
    c.first_in_array-radio.ensures (sym c.is_some.ensures ∙ c.if-is_some.false) in
    first_or path_text c.first_in_array-server.result (keys_of_servers kind m) (keys_of_links kind m)
    c.first_in_array-server.ensures (sym c.is_some-2.ensures ∙ c.if-is_some-2.true)
    ∙ ap (λ t. slice_get t 0) (sym past ∙ sym (keys_of_items kind m))

pub returns : goal.returns
returns c =
    let kind = keys_for c.args.check in
    let m = table_view c.args.table.now in
    let past = first_past path_text c.first_in_array-radio.result (keys_of_radios kind m) (keys_of_servers kind m ++ keys_of_links kind m)
    c.first_in_array-radio.ensures (sym c.is_some.ensures ∙ c.if-is_some.false) in
    let past_too = first_past path_text c.first_in_array-server.result (keys_of_servers kind m) (keys_of_links kind m)
    c.first_in_array-server.ensures (sym c.is_some-2.ensures ∙ c.if-is_some-2.false) in
    c.first_in_array.ensures ∙ ap (λ t. slice_get t 0) (sym past_too ∙ sym past ∙ sym (keys_of_items kind m))
