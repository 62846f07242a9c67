-- What a station is: its radios, its servers, its leap second file, its links, the keys that it shares with its clients, and the
-- nets that it denies. All of it is this project's own.
use Rattle.std.specs.Prelude.{ℕ, [], ◌∷◌, ◌≤◌, ◌+◌, ◌^◌, Bool, Option, None, Some, List, All, ◌++◌, length, map, count_by}
use Rattle.std.specs.Str.{bytes_eq}
use Rattle.outside_traits.specs.declared.outside.Address.{Address}
use Rattle.packet_auth.specs.Keys.{AreApart, KeyFields}
use Rattle.kiss_gate.specs.Gates.{Gate}
use Rattle.kiss_gate.specs.declared.nets.Net.{Net}
use Rattle.system_fold.specs.Settings.{SettingsFields, bound_of}
use Rattle.system_fold.specs.declared.settings.SourceKind.{SourceKind}
use Rattle.system_fold.specs.declared.settings.SourceKind.TheVariants.{Radio, Server, Leap}
use Rattle.station_values.specs.declared.station.TopNumbers.{TopNumbers}
use Rattle.tick_units.specs.Plans.{word_of}
use Rattle.tick_units.specs.declared.marks.Plan.{Plan}
use Rattle.tick_units.specs.declared.marks.Plan.TheVariants.{Dcf, Msf, Wwvb}

-- a radio: its code plan, the name of its log, and its delay in microseconds
pub record RadioFields : Type 0 where
  pub plan : Plan
  pub log : List ℕ
  pub delay : ℕ

-- a server: its address, and how many times it is asked
pub record ServerFields : Type 0 where
  pub address : Address
  pub polls : ℕ

-- a station: the numbers of its top table, its rows and names. The numbers are the bound of its pages in milliseconds, its first
-- moment, and the least gap between the requests of a client in microseconds. The fourth is the size of a link's table of clients.
-- The rows are its radios and servers, the ports of its links, its keys, and the nets that it denies. It may also have the name
-- of a leap second file.
pub record StationFields : Type 0 where
  pub top : TopNumbers
  pub radios : List RadioFields
  pub servers : List ServerFields
  pub leap_file : Option (List ℕ)
  pub links : List ℕ
  pub keys : List KeyFields
  pub deny : List Net

-- two plans are the same where they have one name
abbrev pub is_same_plan : Plan → Plan → Bool
is_same_plan a b = bytes_eq (word_of a) (word_of b)

-- how many of the radios have a plan
abbrev pub plan_count : Plan → List RadioFields → ℕ
plan_count plan radios = count_by (λ r. is_same_plan plan r.plan) radios

-- the feed of a leap second file, where there is one
abbrev pub leap_feeds : Option (List ℕ) → List SourceKind
leap_feeds None = []
leap_feeds (Some name) = Leap ∷ []

-- how many feeds a station has
abbrev pub feed_count : StationFields → ℕ
feed_count station = length station.radios + length station.servers + length (leap_feeds station.leap_file)

-- the number of its leap second file's feed, where it has one
abbrev pub leap_feed : StationFields → ℕ
leap_feed station = length station.radios + length station.servers

-- the numbers of a top table within their bounds
abbrev pub AreWithin : TopNumbers → Type 0
AreWithin top =
    (1 ≤ top.bound) × (top.bound ≤ 16000)
    × (top.start ≤ 2 ^ 49)
    × (top.gap ≤ 60000000)
    × (1 ≤ top.clients) × (top.clients ≤ 65536)

-- a station within its bounds
pub record IsStation (station : StationFields) : Type 0 where
  pub sources : feed_count station ≤ 16
  pub plans : (plan : Plan) → plan_count plan station.radios ≤ 4
  pub ports : length station.links ≤ 8
  pub keys : length station.keys ≤ 8
  pub apart : AreApart station.keys
  pub delays : All (λ r. r.delay ≤ 100000) station.radios
  pub top : AreWithin station.top
  pub nets : length station.deny ≤ 16

abbrev pub kind_of_radio : RadioFields → SourceKind
kind_of_radio r = Radio r.plan

abbrev pub kind_of_server : ServerFields → SourceKind
kind_of_server s = Server s.address

-- the feeds of a station are its radios in order, then its servers, and then its leap second file
abbrev pub settings_of : StationFields → SettingsFields
settings_of station = record { bound = bound_of station.top.bound; sources = map kind_of_radio station.radios ++ map kind_of_server station.servers ++ leap_feeds station.leap_file }

-- the gate of clients with which a link of the station begins
abbrev pub gate_of : StationFields → Gate
gate_of station = record { denied = station.deny; gap = station.top.gap; clients = station.top.clients; table = [] }

-- a radio without delay, whose log is named by its plan
abbrev pub plain_radio : Plan → RadioFields
plain_radio plan = record { plan = plan; log = word_of plan; delay = 0 }

-- a station of a radio of each plan and of nothing else, with the numbers that a file has by default
abbrev pub one_of_each : StationFields
one_of_each = record {
  top = record { bound = 1000; start = 0; gap = 0; clients = 1024 };
  radios = plain_radio Dcf ∷ plain_radio Msf ∷ plain_radio Wwvb ∷ [];
  servers = [];
  leap_file = None;
  links = [];
  keys = [];
  deny = [];
}
