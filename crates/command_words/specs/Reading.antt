-- Scaffolding: arguments that are read one by one.
use Rattle.std.specs.Prelude.{Option, None, Some, Result, Ok, Err, option_map, List, ◌++◌, map}
use Rattle.command_words.specs.CommandLine.{Text}
use Rattle.command_words.specs.Faults.{Part, Reading, before, part, read_after, trailing_part, wrong}
use Rattle.command_words.specs.declared.arguments.Argument.{Argument}
use Rattle.command_words.specs.declared.arguments.Before.{Before}
use Rattle.command_words.specs.declared.arguments.Before.TheVariants.{Nothing, Option as AfterOption, Mark}
use Rattle.command_words.specs.declared.commands.Fault.{Fault}

-- the rest of arguments, by what stands before them
abbrev pub rest_of : Before → List Text → Reading
rest_of Nothing texts = read_after None texts
rest_of (AfterOption name) texts = read_after (Some name.now) texts
rest_of Mark texts = Ok (map trailing_part texts)

abbrev pub with_read : Option Part → Reading → Reading
with_read None rest = rest
with_read (Some p) rest = before (Ok p) rest

-- after one argument
abbrev pub stepped : Result (Before × Option Argument) Fault → List Text → Reading
stepped (Err fault) rest = Err (wrong fault)
stepped (Ok (b, one)) rest = with_read (option_map part one) (rest_of b rest)

-- after these parts
abbrev pub after : List Part → Reading → Reading
after parts (Err fault) = Err fault
after parts (Ok more) = Ok (parts ++ more)
