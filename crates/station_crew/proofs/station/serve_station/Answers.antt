-- What the search leaves open of `station::serve_station`.
use Rattle.std.proofs.Common.{◌≡◌, [], sym, subst}
use Rattle.std.specs.Prelude.{All}
use Rattle.std.proofs.lemmas.List.Elements.{All-weaker}
use Rattle.page_cell.specs.Passes.{Known, KnownReader}
use Rattle.page_cell.specs.declared.opening.CellParts.{CellParts}
use Rattle.station_crew.specs.Crews.{IsNewReader}
use Rattle.station_crew.proofs.station.serve_station.Goals as goal

pub serve_named-requires-clause-feeds : goal.serve_named-requires-clause-feeds
serve_named-requires-clause-feeds g c κs within =
    subst (λ (p : CellParts). All (λ (f : Known). f.table ≡ p.cell.table) p.feeds.items) (sym c.in-Ok-make_room.ensures.parts) c.in-Ok.ensures.feeds

pub serve_named-requires-clause-readers : goal.serve_named-requires-clause-readers
serve_named-requires-clause-readers g c κs within =
    let t = c.in-Ok.parts.cell.table in
    subst (λ (p : CellParts). All (IsNewReader p.cell.table) p.readers.items) (sym c.in-Ok-make_room.ensures.parts)
    (All-weaker (λ (r : KnownReader). (r.table ≡ t) × (r.view.seen ≡ 0) × (r.view.readings ≡ []) × (r.view.watch.torn ≡ 0)) (IsNewReader t) (λ r h. record { table_is = h.0; unseen = h.1; unread = h.2; untorn = h.3 }) c.in-Ok.parts.readers.items c.in-Ok.ensures.readers)
