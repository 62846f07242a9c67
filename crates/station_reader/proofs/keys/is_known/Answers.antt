-- What the search leaves open of `keys::is_known`.
use Rattle.std.proofs.Common.{◌∙◌, sym, ap}
use Rattle.std.specs.List.{list_any}
use Rattle.std.specs.Str.{bytes_eq}
use Rattle.station_reader.specs.Finding.{row_seen}
use Rattle.station_reader.proofs.Firsts.{any-map}
use Rattle.station_reader.proofs.keys.is_known.Goals as goal

pub returns : goal.returns
returns c =
    c.is_among.ensures
    ∙ sym (any-map row_seen (λ row. bytes_eq c.args.key.now row.key) c.rows_of.result.now)
    ∙ ap (list_any (λ row. bytes_eq c.args.key.now row.key)) c.rows_of.ensures
