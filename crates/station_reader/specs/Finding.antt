-- Scaffolding: the terms in which private functions say which fault is first, and what was read.
use Rattle.std.specs.Prelude.{◌≡◌, ⊤, ℕ, false, List, [], ◌∷◌, ◌++◌, map, Option, Some, None, slice_get, codes, decimal}
use Rattle.toml.specs.Data.{Data, Items, Members, item, no_items}
use Rattle.station_reader.specs.Faults.{Count as Limit, Fault, bad_in, bad_range, is_bad, is_missing, key_in, missing_in, missing_key, too_many, unknown_in, unknown_key}
use Rattle.station_reader.specs.Forms.{Row, Text, number_at, table_at, tables_at}
use Rattle.station_reader.specs.Rows.{deny_row, deny_rows, id_row, key_row, key_rows, link_row, link_rows, radio_row, radio_rows, server_row, server_rows}
use Rattle.station_reader.specs.declared.form.Form.{Form}
use Rattle.station_reader.specs.declared.form.Form.TheVariants as form
use Rattle.station_reader.specs.declared.form.Row.{Row as CodeRow}
use Rattle.station_reader.specs.declared.keys.Check.{Check}
use Rattle.station_reader.specs.declared.keys.Check.TheVariants.{Unknown, Missing, Range}
use Rattle.station_reader.specs.declared.keys.KeyPath.{KeyPath}
use Rattle.station_reader.specs.declared.counts.Count.{Count}
use Rattle.station_reader.specs.declared.items.KeyFault.{KeyFault}
use Rattle.station_reader.specs.declared.items.KeyFault.TheVariants as key_fault

-- a row of the code's table
abbrev pub row_seen : CodeRow → Row
row_seen r = record { key = r.key.now; form = r.form; need = r.need }

-- ---- keys as faults name them

abbrev pub path_text : KeyPath → Text
path_text s = key_in s.part s.place s.key.now

-- a key after the key of its table's array and its table's place; without an array it is a key of the top table
abbrev pub key_after : Option Text → ℕ → Text → Text
key_after None place key = key
key_after (Some array) place key = array ++ (codes "." ++ (decimal place ++ (codes "." ++ key)))

abbrev pub keys_for : Check → List Row → Members → List Text
keys_for Unknown = unknown_in
keys_for Missing = missing_in
keys_for Range = bad_in

-- ---- identifiers

-- those of the tables of keys among values
abbrev pub ids_at : Data → List ℕ
ids_at d = map (λ t. number_at id_row t.1) (table_at 0 d)

abbrev pub ids_in : Items → List ℕ
ids_in no_items = []
ids_in (item d ds) = ids_at d ++ ids_in ds

-- ---- what is read

-- the least and the greatest number of a form
abbrev pub least_of : Form → ℕ
least_of (form.Whole least most) = least
least_of _ = 0

abbrev pub most_of : Form → ℕ
most_of (form.Whole least most) = most
most_of _ = 0

-- the values of these rows are of their forms, and those that have to be there are there
abbrev pub AreGood : Members → List Row → Type 0
AreGood m [] = ⊤
AreGood m (row ∷ rows) = (is_missing m row ≡ false) × (is_bad m row ≡ false) × AreGood m rows

-- the same of all these tables
abbrev pub AllGood : List Row → List (ℕ × Members) → Type 0
AllGood rows [] = ⊤
AllGood rows (t ∷ ts) = AreGood t.1 rows × AllGood rows ts

-- a document none of whose values is a fault
pub record IsGood (top : Members) : Type 0 where
  pub radios : AllGood radio_rows (tables_at radio_row top)
  pub servers : AllGood server_rows (tables_at server_row top)
  pub links : AllGood link_rows (tables_at link_row top)
  pub keys : AllGood key_rows (tables_at key_row top)
  pub deny : AllGood deny_rows (tables_at deny_row top)

-- ---- the first fault

-- the `KeyFault` is the first of the faults; lack of memory says nothing
abbrev pub IsFirstKeyFault : List Fault → KeyFault → Type 0
IsFirstKeyFault faults key_fault.Memory = ⊤
IsFirstKeyFault faults (key_fault.Unknown spot) = slice_get faults 0 ≡ Some (unknown_key (path_text spot))
IsFirstKeyFault faults (key_fault.Missing spot) = slice_get faults 0 ≡ Some (missing_key (path_text spot))
IsFirstKeyFault faults (key_fault.Range spot) = slice_get faults 0 ≡ Some (bad_range (path_text spot))
IsFirstKeyFault faults (key_fault.TooMany key count) = slice_get faults 0 ≡ Some (too_many key.now count)

abbrev pub count_seen : Count → Limit
count_seen c = record { key = c.key.now; count = c.count; most = c.most }
