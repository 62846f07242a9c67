-- What stays true in the loops of `identifiers::is_taken`.
use Rattle.std.proofs.Common.{◌≡◌, ◌==◌, drop}
use Rattle.std.specs.List.{list_any}
use Rattle.toml.specs.View.{items_view}
use Rattle.station_reader.specs.Finding.{ids_in}
use Rattle.station_reader.proofs.identifiers.is_taken.Given as goal

abbrev pub invariant-loop-item : goal.invariant-loop-item
invariant-loop-item l =
    list_any (λ other. other == l.id) (ids_in (items_view (drop l.item-index l.items)))
    ≡ list_any (λ other. other == l.id) (ids_in (items_view l.items))
