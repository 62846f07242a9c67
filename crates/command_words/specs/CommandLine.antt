-- The arguments of a command line without the program's name: command words, and options whose values stand as in GNU's long
-- options (getopt_long). An argument is its bytes.
use Rattle.std.specs.Prelude.{◌≡◌, ℕ, ◌==◌, Bool, false, not, Option, None, Some, option_map, unwrap_or, List, [], ◌∷◌, ◌++◌, find, filter_map, codes}
use Rattle.std.specs.List.{flat_map}
use Rattle.std.specs.Str.{bytes_eq}

abbrev pub Text : Type 0
Text = List ℕ

-- the name of an option, and the value that it is given
pub record Given : Type 0 where
  pub name : Text
  pub value : Text

-- a command word, or an option and its value: as two arguments, or as one argument that `=` (61) joins
pub data Piece : Type 0 where
  word : Text → Piece
  apart : Given → Piece
  joined : Given → Piece

-- pieces, and after them the arguments after an argument `--` if there is one
pub record Line : Type 0 where
  pub pieces : List Piece
  pub operands : Option (List Text)

abbrev pub words_of_piece : Piece → List Text
words_of_piece (word text) = text ∷ []
words_of_piece (apart given) = (codes "--" ++ given.name) ∷ given.value ∷ []
words_of_piece (joined given) = (codes "--" ++ given.name ++ 61 ∷ given.value) ∷ []

abbrev pub words_after : Option (List Text) → List Text
words_after None = []
words_after (Some words) = codes "--" ∷ words

-- the arguments that spell a line
abbrev pub words_of : Line → List Text
words_of line = flat_map words_of_piece line.pieces ++ words_after line.operands

abbrev pub command_word_of : Piece → Option Text
command_word_of (word text) = Some text
command_word_of (apart given) = None
command_word_of (joined given) = None

abbrev pub option_of : Piece → Option Given
option_of (word text) = None
option_of (apart given) = Some given
option_of (joined given) = Some given

-- after `--` every argument is a command word
abbrev pub command_words : Line → List Text
command_words line = filter_map command_word_of line.pieces ++ unwrap_or line.operands []

abbrev pub options : Line → List Given
options line = filter_map option_of line.pieces

-- the value that options give a name
abbrev pub value_of : Text → List Given → Option Text
value_of name given = option_map (λ g. g.value) (find (λ g. bytes_eq g.name name) given)

-- no name is given again
abbrev pub IsOnce : List Given → Type 0
IsOnce [] = Unit {0}
IsOnce (given ∷ more) = (value_of given.name more ≡ None) × IsOnce more

-- a value is never empty and never begins with `-`
abbrev pub is_value : Text → Bool
is_value [] = false
is_value (byte ∷ more) = not (byte == 45)
