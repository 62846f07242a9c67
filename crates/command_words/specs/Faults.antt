-- What is wrong with arguments that ask for no command: the first fault that they have.
use Rattle.std.specs.Prelude.{ℕ, ◌&&◌, Bool, true, false, not, Option, None, Some, option_map, is_some, unwrap_or, Result, Ok, Err, List, [], ◌∷◌, map, find, filter_map, nat_le, codes, if◌then◌else◌}
use Rattle.std.specs.List.{list_any}
use Rattle.std.specs.Str.{bytes_eq}
use Rattle.clap.specs.Lexer.{long_of, strip_byte}
use Rattle.decimal_text.specs.Numbers.{at_most}
use Rattle.tick_units.specs.Log.{number_of}
use Rattle.tick_units.specs.Plans.{plan_of}
use Rattle.command_words.specs.CommandLine.{Text, is_value}
use Rattle.command_words.specs.Matches.{option_names}
use Rattle.command_words.specs.declared.arguments.Argument.{Argument}
use Rattle.command_words.specs.declared.commands.Fault.{Fault}
use Rattle.command_words.specs.declared.commands.Fault.TheVariants.{UnknownOption, NoValue, NoArguments, NoCommand, UnknownCommand, TwoCommands, SecondWord, Twice, Foreign, OutOfRange, Missing}
use Rattle.command_words.specs.declared.faults.Shape.{Shape as CodeShape}

-- what is wrong: an option that no command has; an option without a value, and what follows it; no arguments; no command; a word that is
-- none; two commands; a command, one more word, and the option that the word may be meant for; an option again; an option of other
-- commands; an option that needs another value; an option that the command needs
pub data Wrong : Type 0 where
  unknown_option : Text → Wrong
  no_value : Text → Text → Wrong
  no_arguments : Wrong
  no_command : Wrong
  unknown_command : Text → Wrong
  two_commands : Text → Text → Wrong
  second_word : Text → Text → Text → Wrong
  twice : Text → Wrong
  foreign : Text → Text → Wrong
  out_of_range : Text → Wrong
  missing : Text → Text → Wrong

abbrev pub wrong : Fault → Wrong
wrong (UnknownOption text) = unknown_option text.now
wrong (NoValue option next) = no_value option.now next.now
wrong NoArguments = no_arguments
wrong NoCommand = no_command
wrong (UnknownCommand text) = unknown_command text.now
wrong (TwoCommands first second) = two_commands first.now second.now
wrong (SecondWord command text due) = second_word command.now text.now due.now
wrong (Twice option) = twice option.now
wrong (Foreign command option) = foreign command.now option.now
wrong (OutOfRange option) = out_of_range option.now
wrong (Missing command option) = missing command.now option.now

-- ---- the arguments one by one

-- a command word, which has no name, or the value of a named option
abbrev pub Part : Type 0
Part = Option Text × Text

abbrev pub part : Argument → Part
part argument = (option_map (λ name. name.now) argument.option, argument.text.now)

abbrev pub trailing_part : Text → Part
trailing_part word = (None, word)

-- the parts of arguments, or the first argument that is wrong by itself
abbrev pub Reading : Type 0
Reading = Result (List Part) Wrong

abbrev pub before : Result Part Wrong → Reading → Reading
before (Err fault) rest = Err fault
before (Ok first) (Err fault) = Err fault
before (Ok first) (Ok more) = Ok (first ∷ more)

-- the value of an option
abbrev pub valued : Text → Text → Result Part Wrong
valued name text = if is_value text then Ok (Some name, text) else Err (no_value name text)

-- an argument that no option stands before
abbrev pub single : Text → Result Part Wrong
single text = if is_some (strip_byte 45 text) then Err (unknown_option text) else Ok (None, text)

abbrev pub names_option : Text → Bool
names_option name = list_any (λ other. bytes_eq other name) option_names

-- an argument before which nothing and no `--` stands, by the option that it names and the value that it joins to it
abbrev pub read_named : Option (Text × Option Text) → Text → (Option Text → Reading) → Reading
read_named None text rest = before (single text) (rest None)
read_named (Some (name, None)) text rest = if names_option name then rest (Some name) else Err (unknown_option text)
read_named (Some (name, Some value)) text rest = if names_option name then before (valued name value) (rest None) else Err (unknown_option text)

-- arguments in order, where an option may stand before them; nothing follows an option that is the last argument
unfoldable pub read_after : Option Text → List Text → Reading
read_after None [] = Ok []
read_after (Some name) [] = Err (no_value name [])
read_after (Some name) (text ∷ rest) = before (valued name text) (read_after None rest)
read_after None (text ∷ rest) =
    if bytes_eq text (45 ∷ 45 ∷ []) then Ok (map trailing_part rest)
    else read_named (long_of text) text (λ name. read_after name rest)

-- ---- the commands

-- a command: its options, those that it needs, and the last of these
pub record Shape : Type 0 where
  pub name : Text
  pub row : List Text
  pub needs : List Text
  pub last : Text

abbrev pub decode_shape : Shape
decode_shape = record { name = codes "decode"; row = codes "plan" ∷ codes "log" ∷ []; needs = codes "plan" ∷ codes "log" ∷ []; last = codes "log" }

abbrev pub replay_shape : Shape
replay_shape = record { name = codes "replay"; row = codes "station" ∷ codes "script" ∷ codes "limit" ∷ []; needs = codes "station" ∷ codes "script" ∷ []; last = codes "script" }

abbrev pub serve_shape : Shape
serve_shape = record { name = codes "serve"; row = codes "station" ∷ codes "during" ∷ codes "after" ∷ codes "limit" ∷ []; needs = codes "station" ∷ []; last = codes "station" }

abbrev pub drill_shape : Shape
drill_shape = record { name = codes "drill"; row = codes "seed" ∷ codes "limit" ∷ []; needs = codes "seed" ∷ []; last = codes "seed" }

abbrev pub migrate_shape : Shape
migrate_shape = record { name = codes "migrate"; row = codes "station" ∷ codes "journal" ∷ []; needs = codes "station" ∷ codes "journal" ∷ []; last = codes "journal" }

abbrev pub shapes : List Shape
shapes = decode_shape ∷ replay_shape ∷ serve_shape ∷ drill_shape ∷ migrate_shape ∷ []

abbrev pub shape_in : CodeShape → Shape
shape_in c = record { name = c.name.now; row = map (λ w. w.now) c.row.now; needs = map (λ w. w.now) c.needs.now; last = c.last.now }

abbrev pub shape_of : Text → Option Shape
shape_of text = find (λ c. bytes_eq text c.name) shapes

-- ---- their faults

abbrev pub text_with : Option Text → Part → Option Text
text_with None (None, text) = Some text
text_with (Some name) (Some option, text) = if bytes_eq option name then Some text else None
text_with None (Some option, text) = None
text_with (Some name) (None, text) = None

-- the values that an option has; of no option the command words
abbrev pub texts_with : Option Text → List Part → List Text
texts_with option parts = filter_map (text_with option) parts

abbrev pub is_any : List Text → Bool
is_any [] = false
is_any (text ∷ more) = true

abbrev pub is_given : List Part → Text → Bool
is_given parts name = is_any (texts_with (Some name) parts)

abbrev pub is_from : ℕ → Option ℕ → Bool
is_from least None = false
is_from least (Some n) = nat_le least n

-- a whole number in a range, in its one spelling
abbrev pub is_number : ℕ → ℕ → Text → Bool
is_number least most text = is_from least (at_most most (number_of text))

-- a value that the option may have, of those that are values
abbrev pub is_good : Text → Text → Bool
is_good name text =
    if bytes_eq name (codes "plan") then is_some (plan_of text)
    else if bytes_eq name (codes "during") then is_number 0 1000000 text
    else if bytes_eq name (codes "after") then is_number 0 1000000 text
    else if bytes_eq name (codes "seed") then is_number 0 4294967295 text
    else if bytes_eq name (codes "limit") then is_number 1 4194304 text
    else true

-- where an option is given twice, is another command's, or has a value that it may not have
abbrev pub values_fault : Shape → Text → List Text → Option Wrong
values_fault c name [] = None
values_fault c name (text ∷ []) =
    if not (list_any (bytes_eq name) c.row) then Some (foreign c.name name)
    else if is_good name text then None
    else Some (out_of_range name)
values_fault c name (text ∷ again ∷ more) = Some (twice name)

abbrev pub option_fault : List Part → Shape → Text → Option Wrong
option_fault parts c name = values_fault c name (texts_with (Some name) parts)

-- where an option that the command needs is not given
abbrev pub need_fault : List Part → Shape → Text → Option Wrong
need_fault parts c name = if is_given parts name then None else Some (missing c.name name)

abbrev pub or_else : Option Wrong → Option Wrong → Option Wrong
or_else None other = other
or_else (Some fault) other = Some fault

abbrev pub first_of : (Text → Option Wrong) → List Text → Option Wrong
first_of fault [] = None
first_of fault (name ∷ more) = or_else (fault name) (first_of fault more)

-- of the command's options in the order of all options, then of those that it needs
abbrev pub command_fault : List Part → Shape → Option Wrong
command_fault parts c = or_else (first_of (option_fault parts c) option_names) (first_of (need_fault parts c) c.needs)

-- the option that one more word may be meant for: the first that the command needs and does not have, but for the plan, which is no
-- file; or else the last that it needs
abbrev pub due : List Part → Shape → Text
due parts c = unwrap_or (find (λ name. not (bytes_eq name (codes "plan")) && not (is_given parts name)) c.needs) c.last

-- by the first word, the one after it, and the commands that they are
abbrev pub one_fault : List Part → Text → Option Shape → Option Wrong
one_fault parts text None = Some (unknown_command text)
one_fault parts text (Some c) = command_fault parts c

abbrev pub two_fault : List Part → Text → Text → Option Shape → Option Shape → Wrong
two_fault parts first second (Some c) (Some other) = two_commands c.name other.name
two_fault parts first second (Some c) None = second_word c.name second (due parts c)
two_fault parts first second None (Some c) = second_word c.name first (due parts c)
two_fault parts first second None None = unknown_command first

abbrev pub words_fault : List Part → List Text → Option Wrong
words_fault parts [] = Some no_command
words_fault parts (text ∷ []) = one_fault parts text (shape_of text)
words_fault parts (first ∷ second ∷ more) = Some (two_fault parts first second (shape_of first) (shape_of second))

-- of no argument at all, or else of the words, and then of the command that they ask for
abbrev pub parts_fault : List Part → Option Wrong
parts_fault [] = Some no_arguments
parts_fault (p ∷ parts) = words_fault (p ∷ parts) (texts_with None (p ∷ parts))

abbrev pub fault_in : Reading → Option Wrong
fault_in (Err fault) = Some fault
fault_in (Ok parts) = parts_fault parts

-- the first fault of arguments, where they have one: of the arguments one by one, and then of all of them
abbrev pub fault_of : List Text → Option Wrong
fault_of texts = fault_in (read_after None texts)
