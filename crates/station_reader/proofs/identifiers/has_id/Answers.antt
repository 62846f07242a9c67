-- What the search leaves open of `identifiers::has_id`.
use Rattle.std.proofs.Common.{◌∙◌, ◌==◌, sym, ap}
use Rattle.toml.specs.View.{table_view, view}
use Rattle.station_reader.proofs.TakenLaws.{of-no-table, of-table}
use Rattle.station_reader.proofs.identifiers.has_id.Goals as goal

pub returns-in-Some : goal.returns-in-Some
returns-in-Some c =
    ap (λ n. n == c.args.id) c.number.ensures.said
    ∙ sym (of-table (view c.args.item.now) (table_view c.in-Some.table.now) c.args.id (rw c.in-Some.is at c.as_table.ensures))

pub returns-in-None : goal.returns-in-None
returns-in-None c = sym (of-no-table (view c.args.item.now) c.args.id (rw c.in-None.is at c.as_table.ensures))
