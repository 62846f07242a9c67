-- What may stand at a key of a station file: what a value says, what it has to be, and what a row of the table of keys asks (a
-- TOML document of this project's own).
use Rattle.std.specs.Prelude.{ℕ, ◌&&◌, ◌==◌, ◌+◌, ◌++◌, Bool, true, false, not, List, [], ◌∷◌, Option, None, Some, option_map, pos, nat_le, nat_lt, length, is_some, unwrap_or, if◌then◌else◌}
use Rattle.std.specs.List.{before_first, after_first, list_all}
use Rattle.std.specs.Int.{w32, from_be_bytes}
use Rattle.decimal_text.specs.Numbers.{at_most}
use Rattle.tick_units.specs.Log.{number_of}
use Rattle.tick_units.specs.Plans.{plan_of}
use Rattle.tick_units.specs.declared.marks.Plan.{Plan}
use Rattle.kiss_gate.specs.declared.nets.Net.{Net}
use Rattle.toml.specs.Data.{Data, Items, Members, array, get_member, integer, item, no_items, string, table}
use Rattle.toml.specs.Text.{are_tables}
use Rattle.station_reader.specs.declared.form.Form.{Form}
use Rattle.station_reader.specs.declared.form.Form.TheVariants as form
use Rattle.station_reader.specs.declared.form.Need.{Need}
use Rattle.station_reader.specs.declared.form.Need.TheVariants as need

abbrev pub Text : Type 0
Text = List ℕ

-- ---- what a value says, where it is of the type and in the range that the row asks for

-- a whole number from `least` to `most`
abbrev pub whole_in : ℕ → ℕ → Data → Option ℕ
whole_in least most (integer (pos n)) = if nat_le least n && nat_le n most then Some n else None
whole_in least most _ = None

-- a text that is not empty
abbrev pub text_in : Data → Option Text
text_in (string s) = if nat_lt 0 (length s) then Some s else None
text_in _ = None

-- the same, where there may be none
abbrev pub some_text_in : Data → Option (Option Text)
some_text_in d = option_map Some (text_in d)

-- a text of 1 to 32 visible characters of ASCII
abbrev pub is_visible : ℕ → Bool
is_visible byte = nat_le 33 byte && nat_le byte 126

abbrev pub is_secret : Text → Bool
is_secret text = nat_le 1 (length text) && nat_le (length text) 32 && list_all is_visible text

abbrev pub secret_in : Data → Option Text
secret_in (string s) = if is_secret s then Some s else None
secret_in _ = None

-- a plan by its word
abbrev pub plan_in : Data → Option Plan
plan_in (string s) = plan_of s
plan_in _ = None

-- a number from 0 to 255 in decimal, without leading zeros
abbrev pub octet_of : Text → Option ℕ
octet_of text = at_most 255 (number_of text)

-- the IPv4 address of four such numbers, its bytes in network order
abbrev pub four_of : Option ℕ → Option ℕ → Option ℕ → Option ℕ → Option ℕ
four_of (Some a) (Some b) (Some c) (Some d) = Some (from_be_bytes w32 (a ∷ b ∷ c ∷ d ∷ []))
four_of _ _ _ _ = None

-- the part of a text before its first dot, and the part after it
abbrev pub before_dot : Text → Text
before_dot text = before_first (λ byte. byte == 46) text

abbrev pub after_dot : Text → Text
after_dot text = after_first (λ byte. byte == 46) text

-- four numbers that dots separate
abbrev pub address_of : Text → Option ℕ
address_of text = four_of (octet_of (before_dot text)) (octet_of (before_dot (after_dot text))) (octet_of (before_dot (after_dot (after_dot text)))) (octet_of (after_dot (after_dot (after_dot text))))

abbrev pub address_in : Data → Option ℕ
address_in (string s) = address_of s
address_in _ = None

-- the part of a text before its first slash, and the part after it
abbrev pub before_slash : Text → Text
before_slash text = before_first (λ byte. byte == 47) text

abbrev pub after_slash : Text → Text
after_slash text = after_first (λ byte. byte == 47) text

-- the length of a prefix: a number from 0 to 32 in decimal, without leading zeros
abbrev pub prefix_of : Text → Option ℕ
prefix_of text = at_most 32 (number_of text)

-- a net as CIDR writes it (RFC 4632): an address and the length of its prefix, separated by a slash; bits after the prefix may be
-- set
abbrev pub net_by : Option ℕ → Option ℕ → Option Net
net_by (Some address) (Some bits) = Some (record { address = address; bits = bits })
net_by _ _ = None

abbrev pub cidr_of : Text → Option Net
cidr_of text = net_by (address_of (before_slash text)) (prefix_of (after_slash text))

abbrev pub net_in : Data → Option Net
net_in (string s) = cidr_of s
net_in _ = None

-- the tables of an array, each with its place
abbrev pub table_at : ℕ → Data → List (ℕ × Members)
table_at place (table members) = (place, members) ∷ []
table_at place _ = []

abbrev pub tables_from : ℕ → Items → List (ℕ × Members)
tables_from place no_items = []
tables_from place (item d ds) = table_at place d ++ tables_from (place + 1) ds

-- an array of tables
abbrev pub tables_in : Data → Option (List (ℕ × Members))
tables_in (array ds) = if are_tables ds then Some (tables_from 0 ds) else None
tables_in _ = None

-- whether a value is of a form
abbrev pub has_form : Form → Data → Bool
has_form (form.Whole least most) d = is_some (whole_in least most d)
has_form form.Text d = is_some (text_in d)
has_form form.Secret d = is_some (secret_in d)
has_form form.Plan d = is_some (plan_in d)
has_form form.Address d = is_some (address_in d)
has_form form.Net d = is_some (net_in d)
has_form form.Tables d = is_some (tables_in d)

-- ---- a row: a key, what its value has to be, and what the key stands for where it is not there

pub record Row : Type 0 where
  pub key : Text
  pub form : Form
  pub need : Need

abbrev pub is_required : Need → Bool
is_required need.Required = true
is_required (need.Preset n) = false
is_required need.Optional = false

-- ---- what a table says by its rows

-- what is read of the value at a key; the default where there is no value, and where the value is a fault
abbrev pub read_or : {X : Type 0} → X → (Data → Option X) → Option Data → X
read_or default reading None = default
read_or default reading (Some d) = unwrap_or (reading d) default

abbrev pub preset_of : Need → ℕ
preset_of (need.Preset n) = n
preset_of _ = 0

abbrev pub whole_of : Form → Data → Option ℕ
whole_of (form.Whole least most) d = whole_in least most d
whole_of _ d = None

-- the number in a row of a table
abbrev pub number_at : Row → Members → ℕ
number_at row members = read_or (preset_of row.need) (whole_of row.form) (get_member row.key members)

-- the tables of the array in a row, each with its place
abbrev pub tables_at : Row → Members → List (ℕ × Members)
tables_at row members = read_or [] tables_in (get_member row.key members)
