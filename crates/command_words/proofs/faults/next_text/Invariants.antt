-- What stays true in the loop of `faults::next_text`.
use Rattle.std.proofs.Common.{◌≡◌, length, map}
use Rattle.command_words.specs.Faults.{part, texts_with}
use Rattle.command_words.specs.Matches.{text_of}
use Rattle.command_words.proofs.faults.next_text.Given as goal

-- no text stands before what is left
abbrev pub invariant-arguments : goal.invariant-arguments
invariant-arguments l = texts_with (text_of l.option) (map part l.rest) ≡ texts_with (text_of l.option) (map part l.read)

abbrev pub decreases-arguments : goal.decreases-arguments
decreases-arguments l = length l.rest
