-- What the search leaves open of `identifiers::first_bad_value`.
use Rattle.std.proofs.Common.{◌∙◌, ◌∷◌, sym, ap, slice_get}
use Rattle.toml.specs.View.{table_view}
use Rattle.station_reader.specs.Faults.{bad_in, bad_of_clients, item_sheets, keys_at, top_sheet}
use Rattle.station_reader.specs.Finding.{path_text}
use Rattle.station_reader.proofs.Firsts.{first_or, first_past}
use Rattle.station_reader.proofs.identifiers.first_bad_value.Goals as goal

pub returns-then-is_some : goal.returns-then-is_some
returns-then-is_some c =
    let m = table_view c.args.table.now in
    first_or path_text c.first_before_clients-before.result (keys_at bad_in (top_sheet m ∷ item_sheets m)) (bad_of_clients m)
    c.first_before_clients-before.ensures (sym c.is_some.ensures ∙ c.if-is_some.true)

pub returns : goal.returns
returns c =
    let m = table_view c.args.table.now in
    let past = first_past path_text c.first_before_clients-before.result (keys_at bad_in (top_sheet m ∷ item_sheets m)) (bad_of_clients m)
    c.first_before_clients-before.ensures (sym c.is_some.ensures ∙ c.if-is_some.false) in
    c.first_of_clients.ensures ∙ ap (λ t. slice_get t 0) (sym past)
