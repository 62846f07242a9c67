-- The keys of a station file, table by table, with what may stand at each, and what a table of each kind says.
use Rattle.std.specs.Prelude.{ℕ, ◌^◌, ◌-◌, List, [], ◌∷◌, Option, None, codes}
use Rattle.tick_units.specs.declared.marks.Plan.TheVariants.{Dcf}
use Rattle.toml.specs.Data.{Members, get_member}
use Rattle.packet_auth.specs.Keys.{KeyFields}
use Rattle.kiss_gate.specs.declared.nets.Net.{Net}
use Rattle.station_values.specs.Station.{RadioFields, ServerFields}
use Rattle.station_values.specs.declared.station.TopNumbers.{TopNumbers}
use Rattle.station_reader.specs.Forms.{Row, address_in, net_in, number_at, plan_in, read_or, secret_in, some_text_in, text_in}
use Rattle.station_reader.specs.declared.form.Form.TheVariants as form
use Rattle.station_reader.specs.declared.form.Need.TheVariants as need

-- ---- the rows

-- the top table
abbrev pub bound_row : Row
bound_row = record { key = codes "bound"; form = form.Whole 1 16000; need = need.Preset 1000 }

abbrev pub clients_row : Row
clients_row = record { key = codes "clients"; form = form.Whole 1 65536; need = need.Preset 1024 }

abbrev pub deny_row : Row
deny_row = record { key = codes "deny"; form = form.Tables; need = need.Optional }

abbrev pub gap_row : Row
gap_row = record { key = codes "gap"; form = form.Whole 0 60000000; need = need.Preset 0 }

abbrev pub key_row : Row
key_row = record { key = codes "key"; form = form.Tables; need = need.Optional }

abbrev pub leap_file_row : Row
leap_file_row = record { key = codes "leap_file"; form = form.Text; need = need.Optional }

abbrev pub link_row : Row
link_row = record { key = codes "link"; form = form.Tables; need = need.Optional }

abbrev pub radio_row : Row
radio_row = record { key = codes "radio"; form = form.Tables; need = need.Optional }

abbrev pub server_row : Row
server_row = record { key = codes "server"; form = form.Tables; need = need.Optional }

abbrev pub start_row : Row
start_row = record { key = codes "start"; form = form.Whole 0 (2 ^ 49); need = need.Preset 0 }

-- a radio
abbrev pub delay_row : Row
delay_row = record { key = codes "delay"; form = form.Whole 0 100000; need = need.Preset 0 }

abbrev pub log_row : Row
log_row = record { key = codes "log"; form = form.Text; need = need.Required }

abbrev pub plan_row : Row
plan_row = record { key = codes "plan"; form = form.Plan; need = need.Required }

-- a server
abbrev pub address_row : Row
address_row = record { key = codes "address"; form = form.Address; need = need.Required }

abbrev pub polls_row : Row
polls_row = record { key = codes "polls"; form = form.Whole 0 100000; need = need.Preset 8 }

-- a server, and a link
abbrev pub port_row : Row
port_row = record { key = codes "port"; form = form.Whole 1 65535; need = need.Required }

-- a key
abbrev pub id_row : Row
id_row = record { key = codes "id"; form = form.Whole 1 (2 ^ 32 - 1); need = need.Required }

abbrev pub secret_row : Row
secret_row = record { key = codes "secret"; form = form.Secret; need = need.Required }

-- a denied net
abbrev pub net_row : Row
net_row = record { key = codes "net"; form = form.Net; need = need.Required }

-- the rows of each table, by the bytes of their keys
abbrev pub top_rows : List Row
top_rows = bound_row ∷ clients_row ∷ deny_row ∷ gap_row ∷ key_row ∷ leap_file_row ∷ link_row ∷ radio_row ∷ server_row ∷ start_row ∷ []

abbrev pub radio_rows : List Row
radio_rows = delay_row ∷ log_row ∷ plan_row ∷ []

abbrev pub server_rows : List Row
server_rows = address_row ∷ polls_row ∷ port_row ∷ []

abbrev pub link_rows : List Row
link_rows = port_row ∷ []

abbrev pub key_rows : List Row
key_rows = id_row ∷ secret_row ∷ []

abbrev pub deny_rows : List Row
deny_rows = net_row ∷ []

-- ---- what a table says

abbrev pub radio_of : Members → RadioFields
radio_of members = record {
  plan = read_or Dcf plan_in (get_member plan_row.key members);
  log = read_or [] text_in (get_member log_row.key members);
  delay = number_at delay_row members;
}

abbrev pub server_of : Members → ServerFields
server_of members = record {
  address = record { ip = read_or 0 address_in (get_member address_row.key members); port = number_at port_row members };
  polls = number_at polls_row members;
}

abbrev pub key_of : Members → KeyFields
key_of members = record {
  id = number_at id_row members;
  secret = read_or [] secret_in (get_member secret_row.key members);
}

abbrev pub all_addresses : Net
all_addresses = record { address = 0; bits = 0 }

abbrev pub net_of : Members → Net
net_of members = read_or all_addresses net_in (get_member net_row.key members)

abbrev pub top_of : Members → TopNumbers
top_of members = record {
  bound = number_at bound_row members;
  start = number_at start_row members;
  gap = number_at gap_row members;
  clients = number_at clients_row members;
}

-- the name of the leap second file, where there is one
abbrev pub leap_file_of : Members → Option (List ℕ)
leap_file_of members = read_or None some_text_in (get_member leap_file_row.key members)
