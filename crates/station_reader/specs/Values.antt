-- The station that a document without faults says: its values, and the defaults of the keys that are not there.
use Rattle.std.specs.Prelude.{map}
use Rattle.toml.specs.Data.{Members}
use Rattle.station_values.specs.Station.{StationFields}
use Rattle.station_reader.specs.Forms.{number_at, tables_at}
use Rattle.station_reader.specs.Rows.{deny_row, key_of, key_row, leap_file_of, link_row, net_of, port_row, radio_of, radio_row, server_of, server_row, top_of}

abbrev pub station_of : Members → StationFields
station_of members = record {
  top = top_of members;
  radios = map (λ t. radio_of t.1) (tables_at radio_row members);
  servers = map (λ t. server_of t.1) (tables_at server_row members);
  leap_file = leap_file_of members;
  links = map (λ t. number_at port_row t.1) (tables_at link_row members);
  keys = map (λ t. key_of t.1) (tables_at key_row members);
  deny = map (λ t. net_of t.1) (tables_at deny_row members);
}
