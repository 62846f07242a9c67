-- The parts of the words that begin with a word.
use Rattle.std.proofs.Common.{◌≡◌, false, true, List, [], ◌∷◌, map, Option, Some, None, refl, bytes_eq}
use Rattle.clap.specs.Lexer.{long_of}
use Rattle.command_words.specs.CommandLine.{Text}
use Rattle.command_words.proofs.Parts.{part_of, parts_after, trailing_part, with_part}
use Rattle.command_words.proofs.Steps.{mark}

pub parts_mark : (word : Text) (words : List Text) → bytes_eq word mark ≡ true → parts_after None (word ∷ words) ≡ Some (map trailing_part words)
unfolding parts_after
parts_mark word words e = rw e refl

pub parts_by : (word : Text) (words : List Text) (long : Option (Text × Option Text)) → bytes_eq word mark ≡ false → long_of word ≡ long
    → parts_after None (word ∷ words) ≡ part_of long word (λ name. parts_after name words)
unfolding parts_after
parts_by word words long e l = rw (e, l) refl

pub parts_value : (name value : Text) (words : List Text) → parts_after (Some name) (value ∷ words) ≡ with_part (Some name) value (parts_after None words)
unfolding parts_after
parts_value name value words = refl

pub parts_missing : (name : Text) → parts_after (Some name) [] ≡ None
unfolding parts_after
parts_missing name = refl

pub parts_end : parts_after None [] ≡ Some []
unfolding parts_after
parts_end = refl
