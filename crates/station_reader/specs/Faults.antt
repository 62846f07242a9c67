-- The faults of a station file, all of them in their order, over the members of its document.
use Rattle.std.specs.Prelude.{◌≡◌, ⊤, ℕ, ◌==◌, ◌&&◌, ◌||◌, Bool, true, false, not, List, [], ◌∷◌, ◌++◌, map, filter, flat_map, length, nat_lt, Option, Some, None, is_none, slice_get, codes, decimal, IsUtf8, if◌then◌else◌}
use Rattle.std.specs.List.{list_any}
use Rattle.std.specs.Str.{bytes_eq}
use Rattle.tick_units.specs.Plans.{plans}
use Rattle.tick_units.specs.declared.marks.Plan.{Plan}
use Rattle.toml.specs.Data.{Data, Members, get_member, member, no_members}
use Rattle.toml.specs.Parse.{parse_document}
use Rattle.station_reader.specs.Forms.{Text, Row, has_form, is_required, number_at, tables_at}
use Rattle.station_reader.specs.Rows.{top_rows, radio_rows, server_rows, link_rows, key_rows, deny_rows, link_row, radio_row, server_row, key_row, deny_row, id_row, secret_row}
use Rattle.station_values.specs.Station.{RadioFields, StationFields, feed_count, plan_count}
use Rattle.station_reader.specs.Values.{station_of}
use Rattle.station_reader.specs.declared.fault.StationFault.{StationFault}
use Rattle.station_reader.specs.declared.fault.StationFault.TheVariants as fault
use Rattle.station_reader.specs.declared.form.Form.{Form}
use Rattle.station_reader.specs.declared.keys.Part.{Part}
use Rattle.station_reader.specs.declared.keys.Part.TheVariants.{Top, Radio, Server, Link, Key, Deny}

-- a fault: its kind and its key
pub data Fault : Type 0 where
  unknown_key : Text → Fault
  missing_key : Text → Fault
  bad_range : Text → Fault
  too_many : Text → ℕ → Fault

-- ---- the tables of a document

abbrev pub rows_of : Part → List Row
rows_of Top = top_rows
rows_of Radio = radio_rows
rows_of Server = server_rows
rows_of Link = link_rows
rows_of Key = key_rows
rows_of Deny = deny_rows

-- a key of a table as a fault names it, as in `radio.0.plan`
abbrev pub key_in : Part → ℕ → Text → Text
key_in Top place key = key
key_in Radio place key = codes "radio." ++ (decimal place ++ (codes "." ++ key))
key_in Server place key = codes "server." ++ (decimal place ++ (codes "." ++ key))
key_in Link place key = codes "link." ++ (decimal place ++ (codes "." ++ key))
key_in Key place key = codes "key." ++ (decimal place ++ (codes "." ++ key))
key_in Deny place key = codes "deny." ++ (decimal place ++ (codes "." ++ key))

-- a table: the part of the file that it is, its place in its array, and its members
pub record Sheet : Type 0 where
  pub part : Part
  pub place : ℕ
  pub members : Members

abbrev pub sheets : Part → List (ℕ × Members) → List Sheet
sheets part tables = map (λ t. record { part = part; place = t.0; members = t.1 }) tables

abbrev pub item_sheets : Members → List Sheet
item_sheets top = sheets Radio (tables_at radio_row top) ++ (sheets Server (tables_at server_row top) ++ sheets Link (tables_at link_row top))

-- the tables about clients
abbrev pub client_sheets : Members → List Sheet
client_sheets top = sheets Key (tables_at key_row top) ++ sheets Deny (tables_at deny_row top)

-- the top table comes first, and then the radios, the servers, the links, the keys and the denied nets, each by place
abbrev pub top_sheet : Members → Sheet
top_sheet top = record { part = Top; place = 0; members = top }

abbrev pub sheets_of : Members → List Sheet
sheets_of top = top_sheet top ∷ (item_sheets top ++ client_sheets top)

-- ---- the keys at fault in one table, by their bytes

-- the keys of a table; those of a document's tables are in the order of their bytes
abbrev pub keys_of : Members → List Text
keys_of no_members = []
keys_of (member key d members) = key ∷ keys_of members

abbrev pub is_known : List Row → Text → Bool
is_known rows key = list_any (λ row. bytes_eq key row.key) rows

-- a key has to be there, and is not
abbrev pub is_missing : Members → Row → Bool
is_missing members row = is_required row.need && is_none (get_member row.key members)

-- there is a value, and it is not of the type and range of its row
abbrev pub is_wrong : Form → Option Data → Bool
is_wrong form None = false
is_wrong form (Some d) = not (has_form form d)

abbrev pub is_bad : Members → Row → Bool
is_bad members row = is_wrong row.form (get_member row.key members)

abbrev pub unknown_in : List Row → Members → List Text
unknown_in rows members = filter (λ key. not (is_known rows key)) (keys_of members)

abbrev pub missing_in : List Row → Members → List Text
missing_in rows members = map (λ row. row.key) (filter (is_missing members) rows)

abbrev pub bad_in : List Row → Members → List Text
bad_in rows members = map (λ row. row.key) (filter (is_bad members) rows)

-- the same of all tables, as a fault names them
abbrev pub keys_at : (List Row → Members → List Text) → List Sheet → List Text
keys_at kind tables = flat_map (λ s. map (key_in s.part s.place) (kind (rows_of s.part) s.members)) tables

-- ---- the values at fault of a whole document

-- the values at fault in a key's table: its identifier also where it is one of these, which are taken
abbrev pub is_taken : List ℕ → Members → Bool
is_taken taken members = list_any (λ id. id == number_at id_row members) taken

abbrev pub bad_id : List ℕ → Members → List Text
bad_id taken members = if is_bad members id_row || is_taken taken members then id_row.key ∷ [] else []

abbrev pub bad_in_key : List ℕ → Members → List Text
bad_in_key taken members = bad_id taken members ++ bad_in (secret_row ∷ []) members

-- the same of the tables of keys that stand after others, whose identifiers are taken
abbrev pub bad_in_keys : List ℕ → List (ℕ × Members) → List Text
bad_in_keys taken [] = []
bad_in_keys taken (t ∷ ts) = map (key_in Key t.0) (bad_in_key taken t.1) ++ bad_in_keys (taken ++ number_at id_row t.1 ∷ []) ts

-- the keys come after the links, and the denied nets last
abbrev pub bad_of_clients : Members → List Text
bad_of_clients top = bad_in_keys [] (tables_at key_row top) ++ keys_at bad_in (sheets Deny (tables_at deny_row top))

abbrev pub bad_values : Members → List Text
bad_values top = keys_at bad_in (top_sheet top ∷ item_sheets top) ++ bad_of_clients top

-- ---- too many

pub record Count : Type 0 where
  pub key : Text
  pub count : ℕ
  pub most : ℕ

-- the radios of a plan
abbrev pub plan_radios : List RadioFields → Plan → Count
plan_radios radios plan = record { key = codes "radio"; count = plan_count plan radios; most = 4 }

-- the links, the keys, and the denied nets
abbrev pub counts_of_others : StationFields → List Count
counts_of_others station =
    record { key = codes "link"; count = length station.links; most = 8 }
    ∷ record { key = codes "key"; count = length station.keys; most = 8 }
    ∷ record { key = codes "deny"; count = length station.deny; most = 16 } ∷ []

-- all feeds together, the radios of each plan, and the others
abbrev pub counts_of : StationFields → List Count
counts_of station =
    record { key = codes "radio"; count = feed_count station; most = 16 }
    ∷ (map (plan_radios station.radios) plans ++ counts_of_others station)

abbrev pub excess_of : StationFields → List Fault
excess_of station = map (λ c. too_many c.key c.count) (filter (λ c. nat_lt c.most c.count) (counts_of station))

-- ---- all faults

abbrev pub faults_of : Members → List Fault
faults_of top =
    map unknown_key (keys_at unknown_in (sheets_of top))
    ++ (map missing_key (keys_at missing_in (sheets_of top))
    ++ (map bad_range (bad_values top)
    ++ excess_of (station_of top)))

-- ---- the answer

-- The fault is the first one of the document. Lack of memory says nothing.
abbrev pub IsFirst : List Fault → StationFault → Type 0
IsFirst faults fault.Memory = ⊤
IsFirst faults fault.NotToml = ⊥
IsFirst faults (fault.UnknownKey key) = slice_get faults 0 ≡ Some (unknown_key key)
IsFirst faults (fault.Missing key) = slice_get faults 0 ≡ Some (missing_key key)
IsFirst faults (fault.Range key) = slice_get faults 0 ≡ Some (bad_range key)
IsFirst faults (fault.TooMany key count) = slice_get faults 0 ≡ Some (too_many key count)

-- the text is this document
pub record IsDocument (bytes : List ℕ) (top : Members) : Type 0 where
  pub utf8 : IsUtf8 bytes
  pub parsed : parse_document bytes ≡ Some top

-- Why a text is refused: it is no document, or the document has this fault first. Lack of memory says nothing.
abbrev pub Refuses : List ℕ → StationFault → Type 0
Refuses bytes fault.Memory = ⊤
Refuses bytes fault.NotToml = (top : Members) → IsDocument bytes top → ⊥
Refuses bytes other = (top : Members) × IsDocument bytes top × IsFirst (faults_of top) other

-- The text is a document without faults, which says this station.
pub record Says (bytes : List ℕ) (station : StationFields) : Type 0 where
  pub top : Members
  pub document : IsDocument bytes top
  pub no_fault : faults_of top ≡ []
  pub same : station ≡ station_of top
