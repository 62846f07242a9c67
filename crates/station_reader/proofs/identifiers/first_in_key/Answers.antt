-- What the search leaves open of `identifiers::first_in_key`.
use Rattle.std.proofs.Common.{◌∙◌, sym, ap, slice_get}
use Rattle.toml.specs.View.{items_view, table_view}
use Rattle.station_reader.specs.Finding.{ids_in}
use Rattle.station_reader.proofs.TakenLaws.{id-first, id-past, secret-first, secret-past}
use Rattle.station_reader.proofs.identifiers.first_in_key.Goals as goal

pub returns-then-is_id_bad : goal.returns-then-is_id_bad
returns-then-is_id_bad c = sym (id-first (ids_in (items_view c.args.before.now)) (table_view c.args.table.now) (sym c.if-is_id_bad.ensures))

pub returns-then-is_bad : goal.returns-then-is_bad
returns-then-is_bad c =
    let m = table_view c.args.table.now in
    sym (ap (λ ks. slice_get ks 0) (id-past (ids_in (items_view c.args.before.now)) m (sym c.if-is_id_bad.ensures)) ∙ secret-first m (sym c.if-is_bad.ensures))

pub returns : goal.returns
returns c =
    let m = table_view c.args.table.now in
    sym (ap (λ ks. slice_get ks 0) (id-past (ids_in (items_view c.args.before.now)) m (sym c.if-is_id_bad.ensures) ∙ secret-past m (sym c.if-is_bad.ensures)))
