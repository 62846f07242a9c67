-- What stays true in the loop of `arguments::read_arguments`.
use Rattle.std.proofs.Common.{◌≡◌, None, drop, map}
use Rattle.command_words.specs.Faults.{part, read_after}
use Rattle.command_words.specs.Reading.{after, rest_of}
use Rattle.command_words.proofs.arguments.read_arguments.Given as goal

-- what was read, and what the rest of the arguments is read as after it
abbrev pub invariant-loop-text : goal.invariant-loop-text
invariant-loop-text l =
    after (map part l.read.items) (rest_of l.before (map (λ t. t.now) (drop l.text-index l.texts))) ≡ read_after None (map (λ t. t.now) l.texts)
