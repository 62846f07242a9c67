-- What the search leaves open of `document::read_table`.
use Rattle.std.proofs.Common.{◌∙◌, sym, ap, filter, find, map, nat_lt, Bool, slice_get, subst}
use Rattle.toml.specs.View.{table_view}
use Rattle.station_reader.specs.Faults.{Count, counts_of, excess_of, too_many}
use Rattle.station_reader.specs.Finding.{count_seen, path_text}
use Rattle.station_values.specs.Station.{AreWithin, IsStation}
use Rattle.station_reader.specs.Forms.{tables_at}
use Rattle.station_reader.specs.Rows.{key_row}
use Rattle.station_reader.specs.Values.{station_of}
use Rattle.station_reader.proofs.Bounds.{station_bounds, within}
use Rattle.station_reader.proofs.Firsts.{first_map, first_none}
use Rattle.station_reader.proofs.KeysApart.{apart_all}
use Rattle.station_reader.proofs.Orders.{bads, excess_first, first_passing, good, missing_first, missings, no_bad_key, range_first, unknowns}
use Rattle.station_reader.proofs.document.read_table.Goals as goal

abbrev over : Count → Bool
over c = nat_lt c.most c.count

pub returns-in-Some-first_at-clause-bad : goal.returns-in-Some-first_at-clause-bad
returns-in-Some-first_at-clause-bad c =
    let m = table_view c.args.table.now in
    missing_first (unknowns m) (missings m) (bads m) (excess_of (station_of m)) (path_text c.in-Some-first_at.spot)
    (first_none (unknowns m) (rw c.in_default.is at c.first_at.ensures)) (sym (rw c.in-Some-first_at.is at c.first_at-2.ensures))

pub returns-in-Some-first_bad_value-clause-bad : goal.returns-in-Some-first_bad_value-clause-bad
returns-in-Some-first_bad_value-clause-bad c =
    let m = table_view c.args.table.now in
    let no_unknown = first_none (unknowns m) (rw c.in_default.is at c.first_at.ensures) in
    let no_missing = first_none (missings m) (rw c.in_default-first_at.is at c.first_at-2.ensures) in
    range_first (unknowns m) (missings m) (bads m) (excess_of (station_of m)) (path_text c.in-Some-first_bad_value.spot) no_unknown no_missing
    (sym (rw c.in-Some-first_bad_value.is at c.first_bad_value.ensures))

pub read_parts-requires : goal.read_parts-requires
read_parts-requires c =
    let m = table_view c.args.table.now in
    good m (first_none (missings m) (rw c.in_default-first_at.is at c.first_at-2.ensures)) (first_none (bads m) (rw c.in_default-first_bad_value.is at c.first_bad_value.ensures))

pub returns-in-Some-excess-clause-bad : goal.returns-in-Some-excess-clause-bad
returns-in-Some-excess-clause-bad c =
    let m = table_view c.args.table.now in
    let no_unknown = first_none (unknowns m) (rw c.in_default.is at c.first_at.ensures) in
    let no_missing = first_none (missings m) (rw c.in_default-first_at.is at c.first_at-2.ensures) in
    let found = rw c.in-Some-excess.is at c.excess.ensures in
    ap (λ fs. slice_get fs 0) (excess_first (unknowns m) (missings m) (bads m) (excess_of (station_of m)) no_unknown no_missing (first_none (bads m) (rw c.in_default-first_bad_value.is at c.first_bad_value.ensures)))
    ∙ first_map (λ n. too_many n.key n.count) (filter over (counts_of (station_of m))) (count_seen c.in-Some-excess.over)
    (first_passing over (counts_of (station_of m)) ∙ sym (ap (λ s. find over (counts_of s)) c.in-Ok.ensures.read) ∙ sym found)

pub new-requires : goal.new-requires
new-requires c =
    let m = table_view c.args.table.now in
    let found = rw c.in-None.is at c.excess.ensures in
    let apart = apart_all (tables_at key_row m) (no_bad_key m (first_none (bads m) (rw c.in_default-first_bad_value.is at c.first_bad_value.ensures))) in
    subst IsStation (sym c.in-Ok.ensures.read) (station_bounds m (within (station_of m) (found ∙ ap (λ s. find over (counts_of s)) c.in-Ok.ensures.read)) (subst (λ s. AreWithin s.top) c.in-Ok.ensures.read c.in-Ok.ensures.within) apart)

pub returns-clause-good : goal.returns-clause-good
returns-clause-good c =
    let m = table_view c.args.table.now in
    let no_unknown = first_none (unknowns m) (rw c.in_default.is at c.first_at.ensures) in
    let no_missing = first_none (missings m) (rw c.in_default-first_at.is at c.first_at-2.ensures) in
    let found = rw c.in-None.is at c.excess.ensures in
    excess_first (unknowns m) (missings m) (bads m) (excess_of (station_of m)) no_unknown no_missing (first_none (bads m) (rw c.in_default-first_bad_value.is at c.first_bad_value.ensures))
    ∙ ap (map (λ n. too_many n.key n.count)) (first_none (filter over (counts_of (station_of m))) (found ∙ ap (λ s. find over (counts_of s)) c.in-Ok.ensures.read ∙ sym (first_passing over (counts_of (station_of m)))))
