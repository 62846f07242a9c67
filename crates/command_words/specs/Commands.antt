-- The commands, their options, and the arguments that ask for them. The commands are this program's own.
use Rattle.std.specs.Prelude.{◌≡◌, ℕ, ◌<◌, ◌≤◌, ◌&&◌, Bool, true, Option, None, Some, List, [], ◌∷◌, codes, decimal}
use Rattle.std.specs.List.{list_all, list_any}
use Rattle.std.specs.Str.{bytes_eq}
use Rattle.tick_units.specs.Plans.{word_of}
use Rattle.tick_units.specs.declared.marks.Plan.{Plan}
use Rattle.command_words.specs.CommandLine.{Text, Given, Line, words_of, command_words, options, value_of, is_value, IsOnce}
use Rattle.command_words.specs.declared.commands.Command.{Command}
use Rattle.command_words.specs.declared.commands.Command.TheVariants.{Decode, Replay, Serve, Drill, Migrate}

-- a command with the values of its options: `serve` has the number of hearings of a link beside the feeds, that after them, and
-- the limit; `drill` has its seed and the limit
pub data Asked : Type 0 where
  decode : Plan → Text → Asked
  replay : Text → Text → ℕ → Asked
  serve : Text → ℕ → ℕ → ℕ → Asked
  drill : ℕ → ℕ → Asked
  migrate : Text → Text → Asked

abbrev pub asked : Command → Asked
asked (Decode plan log) = decode plan log.now
asked (Replay station script limit) = replay station.now script.now limit
asked (Serve station during after limit) = serve station.now during after limit
asked (Drill seed limit) = drill seed limit
asked (Migrate station journal) = migrate station.now journal.now

abbrev pub name_of : Asked → Text
name_of (decode plan log) = codes "decode"
name_of (replay station script limit) = codes "replay"
name_of (serve station during after limit) = codes "serve"
name_of (drill seed limit) = codes "drill"
name_of (migrate station journal) = codes "migrate"

-- the options that a command has
abbrev pub row_of : Asked → List Text
row_of (decode plan log) = codes "plan" ∷ codes "log" ∷ []
row_of (replay station script limit) = codes "station" ∷ codes "script" ∷ codes "limit" ∷ []
row_of (serve station during after limit) = codes "station" ∷ codes "during" ∷ codes "after" ∷ codes "limit" ∷ []
row_of (drill seed limit) = codes "seed" ∷ codes "limit" ∷ []
row_of (migrate station journal) = codes "station" ∷ codes "journal" ∷ []

-- a number in a range, in decimal without sign and without leading zeros; or the default where none is given
abbrev pub IsNumber : ℕ → ℕ → ℕ → Option Text → ℕ → Type 0
IsNumber default least most None n = n ≡ default
IsNumber default least most (Some text) n = (text ≡ decimal n) × (least ≤ n) × (n ≤ most)

-- how many entries a journal may have: 2^20 where none is given, and at most 2^22
abbrev pub IsLimit : Option Text → ℕ → Type 0
IsLimit = IsNumber 1048576 1 4194304

-- how many hearings a link has: at least none, and at most a million
abbrev pub IsHearings : ℕ → Option Text → ℕ → Type 0
IsHearings default = IsNumber default 0 1000000

-- the seed of a drill: a number of 32 bits, which has no default
abbrev pub IsSeed : Option Text → ℕ → Type 0
IsSeed None n = ⊥
IsSeed (Some text) n = (text ≡ decimal n) × (n ≤ 4294967295)

-- by the values that the options' names have
abbrev pub Says : (Text → Option Text) → Asked → Type 0
Says value (decode plan log) = (value (codes "plan") ≡ Some (word_of plan)) × (value (codes "log") ≡ Some log)
Says value (replay station script limit) = (value (codes "station") ≡ Some station) × (value (codes "script") ≡ Some script) × IsLimit (value (codes "limit")) limit
Says value (serve station during after limit) = (value (codes "station") ≡ Some station)
    × IsHearings 16 (value (codes "during")) during × IsHearings 0 (value (codes "after")) after × IsLimit (value (codes "limit")) limit
Says value (drill seed limit) = IsSeed (value (codes "seed")) seed × IsLimit (value (codes "limit")) limit
Says value (migrate station journal) = (value (codes "station") ≡ Some station) × (value (codes "journal") ≡ Some journal)

-- an option is one of a row's, and its value may be one
abbrev pub is_of : List Text → Given → Bool
is_of row given = list_any (bytes_eq given.name) row && is_value given.value

-- these arguments ask for a command; arguments are valid where they ask for any
pub record AskFor (words : List Text) (a : Asked) : Type 0 where
  pub line : Line
  pub spelt : words ≡ words_of line
  pub command : command_words line ≡ name_of a ∷ []
  pub once : IsOnce (options line)
  pub valid : list_all (is_of (row_of a)) (options line) ≡ true
  pub says : Says (λ name. value_of name (options line)) a

-- a command's limit, where it has one, is in its range
abbrev pub HasLimit : Command → Type 0
HasLimit (Decode plan log) = Unit {0}
HasLimit (Replay station script limit) = (0 < limit) × (limit ≤ 4194304)
HasLimit (Serve station during after limit) = (0 < limit) × (limit ≤ 4194304)
HasLimit (Drill seed limit) = (0 < limit) × (limit ≤ 4194304)
HasLimit (Migrate station journal) = Unit {0}
