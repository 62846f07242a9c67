-- What the search leaves open of `arrays::first_at`.
use Rattle.std.proofs.Common.{◌∙◌, ◌∷◌, sym, ap, slice_get}
use Rattle.toml.specs.View.{table_view}
use Rattle.station_reader.specs.Faults.{client_sheets, item_sheets, keys_at, top_sheet}
use Rattle.station_reader.specs.Finding.{keys_for, path_text}
use Rattle.station_reader.proofs.Firsts.{first_or, first_past}
use Rattle.station_reader.proofs.Orders.{keys_of_all}
use Rattle.station_reader.proofs.arrays.first_at.Goals as goal

pub returns-then-is_some : goal.returns-then-is_some
returns-then-is_some c =
    let kind = keys_for c.args.check in
    let m = table_view c.args.table.now in
    first_or path_text c.first_before_clients-before.result (keys_at kind (top_sheet m ∷ item_sheets m)) (keys_at kind (client_sheets m))
    c.first_before_clients-before.ensures (sym c.is_some.ensures ∙ c.if-is_some.true)
    ∙ ap (λ t. slice_get t 0) (sym (keys_of_all kind m))

pub returns : goal.returns
returns c =
    let kind = keys_for c.args.check in
    let m = table_view c.args.table.now in
    let past = first_past path_text c.first_before_clients-before.result (keys_at kind (top_sheet m ∷ item_sheets m)) (keys_at kind (client_sheets m))
    c.first_before_clients-before.ensures (sym c.is_some.ensures ∙ c.if-is_some.false) in
    c.first_in_clients.ensures ∙ ap (λ t. slice_get t 0) (sym past ∙ sym (keys_of_all kind m))
