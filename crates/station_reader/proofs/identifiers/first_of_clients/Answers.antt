-- What the search leaves open of `identifiers::first_of_clients`.
use Rattle.std.proofs.Common.{◌∙◌, [], sym, ap, slice_get}
use Rattle.toml.specs.View.{table_view}
use Rattle.station_reader.specs.Faults.{bad_in, bad_in_keys}
use Rattle.station_reader.specs.Finding.{path_text}
use Rattle.station_reader.specs.Forms.{tables_at}
use Rattle.station_reader.specs.Rows.{key_row}
use Rattle.station_reader.proofs.Firsts.{first_or, first_past}
use Rattle.station_reader.proofs.Orders.{keys_of_nets}
use Rattle.station_reader.proofs.identifiers.first_of_clients.Goals as goal

pub returns-then-is_some : goal.returns-then-is_some
returns-then-is_some c =
    let m = table_view c.args.table.now in
    first_or path_text c.first_in_keys-key.result (bad_in_keys [] (tables_at key_row m)) (keys_of_nets bad_in m)
    (c.first_in_keys-key.ensures ∙ ap (λ ts. slice_get (bad_in_keys [] ts) 0) c.tables.ensures) (sym c.is_some.ensures ∙ c.if-is_some.true)

pub returns : goal.returns
returns c =
    let m = table_view c.args.table.now in
    let past = first_past path_text c.first_in_keys-key.result (bad_in_keys [] (tables_at key_row m)) (keys_of_nets bad_in m)
    (c.first_in_keys-key.ensures ∙ ap (λ ts. slice_get (bad_in_keys [] ts) 0) c.tables.ensures) (sym c.is_some.ensures ∙ c.if-is_some.false) in
    c.first_in_array.ensures ∙ ap (λ t. slice_get t 0) (sym past)
