-- The command with which `clap` reads the arguments, and what a command requires of the matches that it gives.
use Rattle.std.specs.Prelude.{◌≡◌, ◌&&◌, Bool, true, Option, None, Some, option_map, List, [], ◌∷◌, fold, codes}
use Rattle.std.specs.Borrow.{Bor}
use Rattle.std.specs.List.{list_all, list_any}
use Rattle.std.specs.Str.{bytes_eq}
use Rattle.clap.specs.Words.{App, Row, Rule, first_of, new_app, new_rule, with_rule}
use Rattle.clap.specs.declared.builder.action.ArgAction.TheVariants.{Set}
use Rattle.command_words.specs.CommandLine.{Text, is_value}
use Rattle.command_words.specs.Commands.{Asked, Says, name_of, row_of}

-- the options of all commands
abbrev pub option_names : List Text
option_names = codes "plan" ∷ codes "log" ∷ codes "station" ∷ codes "script" ∷ codes "journal" ∷ codes "during" ∷ codes "after" ∷ codes "seed" ∷ codes "limit" ∷ []

abbrev pub option_rule : Text → Rule
option_rule name = record (new_rule name) { long = Some name; action = Some Set }

abbrev pub command_rule : Rule
command_rule = record (new_rule (codes "command")) { action = Some Set }

-- without help and version of clap's own
abbrev pub bare_app : App
bare_app = record {
  top = record (new_app (codes "radio_ntpd")).top { no_binary_name = true; disable_help_flag = true; disable_version_flag = true };
  subs = [];
}

abbrev pub with_options : App → List Text → App
with_options app names = fold (λ a name. with_rule a (option_rule name)) app names

-- one command word, and the options of all commands
abbrev pub app : App
app = with_options (with_rule bare_app command_rule) option_names

abbrev pub text_of : Option (Bor Text) → Option Text
text_of = option_map (λ t. t.now)

-- an option that was given is one of the row's, and its value may be one
abbrev pub may_have : List Text → Text → Option Text → Bool
may_have row name None = true
may_have row name (Some value) = list_any (bytes_eq name) row && is_value value

abbrev pub has_only : List Text → List Row → Bool
has_only row rows = list_all (λ name. may_have row name (first_of name rows)) option_names

pub record Fit (rows : List Row) (a : Asked) : Type 0 where
  pub only : has_only (row_of a) rows ≡ true
  pub says : Says (λ name. first_of name rows) a

pub record AreFor (rows : List Row) (a : Asked) : Type 0 where
  pub command : first_of (codes "command") rows ≡ Some (name_of a)
  pub fit : Fit rows a
