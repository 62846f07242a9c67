-- The parts in which arguments are read, from the first on: command words, and the values of named options.
use Rattle.std.specs.Prelude.{◌&&◌, Bool, true, not, Option, None, Some, option_map, List, [], ◌∷◌, ◌++◌, map, codes, if◌then◌else◌}
use Rattle.std.specs.Str.{bytes_eq}
use Rattle.clap.specs.Lexer.{long_of}
use Rattle.clap.specs.Values.{reading_of}
use Rattle.clap.specs.Walk.{Row, has_row}
use Rattle.clap.specs.declared.builder.value_parser.ValueParser.TheVariants.{String}
use Rattle.clap.specs.declared.parser.matches.ValueSource.TheVariants.{CommandLine}
use Rattle.command_words.specs.CommandLine.{Text, Given, is_value}
pub use Rattle.command_words.specs.Faults.{Part, names_option, trailing_part}

-- a part before others, where there is a reading of those
abbrev pub with_part : Option Text → Text → Option (List Part) → Option (List Part)
with_part name value rest = option_map (λ parts. (name, value) ∷ parts) rest

-- what begins with an argument that is not `--`: `--name=value`, `--name` before its value, or a command word
abbrev pub part_of : Option (Text × Option Text) → Text → (Option Text → Option (List Part)) → Option (List Part)
part_of (Some (name, Some value)) word rest = with_part (Some name) value (rest None)
part_of (Some (name, None)) word rest = rest (Some name)
part_of None word rest = with_part None word (rest None)

-- the parts of words, where an option's name may stand before them; none where it has no value
unfoldable pub parts_after : Option Text → List Text → Option (List Part)
parts_after None [] = Some []
parts_after (Some name) [] = None
parts_after (Some name) (value ∷ rest) = with_part (Some name) value (parts_after None rest)
parts_after None (word ∷ rest) =
    if bytes_eq word (45 ∷ 45 ∷ []) then Some (map trailing_part rest)
    else part_of (long_of word) word (λ name. parts_after name rest)

abbrev pub is_known : Option Text → Bool
is_known None = true
is_known (Some name) = names_option name

abbrev pub word_id : Text
word_id = codes "command"

abbrev pub id_of : Option Text → Text
id_of None = word_id
id_of (Some name) = name

-- what clap keeps of a part
abbrev pub row : Text → Text → Row
row id v = record { id = id; values = v ∷ []; count = None; source = Some CommandLine; reading = reading_of String }

abbrev pub part_row : Part → Row
part_row p = row (id_of p.0) p.1

-- the parts are known, and none has a row before it
abbrev pub fits : List Row → List Part → Bool
fits rows [] = true
fits rows (p ∷ ps) = is_known p.0 && (not (has_row (id_of p.0) rows) && fits (rows ++ part_row p ∷ []) ps)

abbrev pub are_values : List Part → Bool
are_values [] = true
are_values (p ∷ ps) = is_value p.1 && are_values ps

-- the options among parts, and their command words
abbrev pub given_in : List Part → List Given
given_in [] = []
given_in ((Some name, value) ∷ ps) = record { name = name; value = value } ∷ given_in ps
given_in ((None, value) ∷ ps) = given_in ps

abbrev pub words_in : List Part → List Text
words_in [] = []
words_in ((Some name, value) ∷ ps) = words_in ps
words_in ((None, value) ∷ ps) = value ∷ words_in ps
