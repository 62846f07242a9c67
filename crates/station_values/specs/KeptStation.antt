-- Scaffolding: what a station keeps, and what its clauses see of it.
use Rattle.std.specs.Prelude.{◌≡◌, map, option_map, string_bytes}
use Rattle.kiss_gate.specs.Nets.{nets_of}
use Rattle.kiss_gate.specs.declared.nets.DenyList.{DenyList}
use Rattle.kiss_gate.specs.declared.nets.Net.{Net}
use Rattle.packet_auth.specs.Keys.{KeyFields}
use Rattle.system_fold.specs.Settings.{SettingsFields}
use Rattle.station_values.specs.Station.{IsStation, RadioFields, ServerFields, StationFields, settings_of}
use Rattle.station_values.specs.declared.denied_net.DeniedNet.{DeniedNet}
use Rattle.station_values.specs.declared.shared_key.SharedKey.{SharedKey}
use Rattle.station_values.specs.declared.station.Parts.{Parts}
use Rattle.station_values.specs.declared.station.Radio.{Radio}
use Rattle.station_values.specs.declared.station.RadioRow.{RadioRow}
use Rattle.station_values.specs.declared.station.ServerRow.{ServerRow}

-- a radio as it is kept, and as it is given
abbrev pub radio_kept : Radio → RadioFields
radio_kept r = record { plan = r.plan; log = string_bytes r.log; delay = r.delay }

abbrev pub radio_given : RadioRow → RadioFields
radio_given r = record { plan = r.plan; log = r.log.now; delay = r.delay }

abbrev pub server_fields : ServerRow → ServerFields
server_fields s = record { address = s.address; polls = s.polls }

abbrev pub key_kept : SharedKey → KeyFields
key_kept k = record { id = k.id; secret = string_bytes k.secret }

abbrev pub net_kept : DeniedNet → Net
net_kept n = record { address = n.address; bits = n.bits }

-- the station of what was read
abbrev pub parts_fields : Parts → StationFields
parts_fields p = record {
  top = p.top;
  radios = map radio_kept p.radios.items;
  servers = map server_fields p.servers.items;
  leap_file = option_map string_bytes p.leap_file;
  links = map (λ l. l.port) p.links.items;
  keys = map key_kept p.keys.items;
  deny = map net_kept p.deny.items;
}

-- the settings and the list of nets are those of the station, and it is within its bounds
pub record IsInside (settings : SettingsFields) (list : DenyList) (station : StationFields) : Type 0 where
  pub same : settings ≡ settings_of station
  pub denied : nets_of list ≡ station.deny
  pub bounds : IsStation station
