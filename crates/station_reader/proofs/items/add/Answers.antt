-- What the search leaves open of `items::add`.
use Rattle.std.proofs.Common.{◌≡◌, ◌∙◌, [], ◌∷◌, ◌++◌, IfOk, append-nil, sym, ap, map, subst}
use Rattle.toml.specs.View.{table_view, view}
use Rattle.station_reader.specs.Finding.{AllGood}
use Rattle.station_reader.specs.Forms.{table_at}
use Rattle.station_reader.proofs.Firsts.{no_table, some_table}
use Rattle.station_reader.proofs.items.add.Goals as goal

pub read-requires : goal.read-requires
read-requires g c =
    let m = table_view c.in-Some.table.now in
    (subst (AllGood g.I.Item.rows) (some_table 0 (view c.args.item.now) m (rw c.in-Some.is at c.as_table.ensures)) c.requires).0

pub returns-in_ok-row-in-Some : goal.returns-in_ok-row-in-Some
returns-in_ok-row-in-Some g c =
    let m = table_view c.in-Some.table.now in
    let table = some_table 0 (view c.args.item.now) m (rw c.in-Some.is at c.as_table.ensures) in
    let said = ap (λ r. r ∷ []) c.in_ok-row-in-Some.ensures ∙ sym (ap (map (λ t. g.I.Item.row_of t.1)) table) in
    subst (λ xs. IfOk c.push.result (λ _. map g.I.Item.fields c.push.new.rows.items ≡ map g.I.Item.fields c.args.rows.now.items ++ xs)) said c.push.ensures

pub returns-in-None : goal.returns-in-None
returns-in-None g c =
    sym (ap (λ ts. map g.I.Item.fields c.args.rows.now.items ++ map (λ t. g.I.Item.row_of t.1) ts) (no_table 0 (view c.args.item.now) (rw c.in-None.is at c.as_table.ensures)) ∙ append-nil (map g.I.Item.fields c.args.rows.now.items))
