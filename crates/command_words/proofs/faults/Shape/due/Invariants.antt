-- What stays true in the loop of `faults::Shape::due`.
use Rattle.std.proofs.Common.{◌≡◌, ◌&&◌, not, bytes_eq, codes, find, length, map}
use Rattle.command_words.specs.Faults.{is_given, part}
use Rattle.command_words.proofs.faults.Shape.due.Given as goal

-- none before what is left
abbrev pub invariant-names : goal.invariant-names
invariant-names l = find (λ name. not (bytes_eq name (codes "plan")) && not (is_given (map part l.read) name)) (map (λ w. w.now) l.rest)
    ≡ find (λ name. not (bytes_eq name (codes "plan")) && not (is_given (map part l.read) name)) (map (λ w. w.now) l.self.needs.now)

abbrev pub decreases-names : goal.decreases-names
decreases-names l = length l.rest
