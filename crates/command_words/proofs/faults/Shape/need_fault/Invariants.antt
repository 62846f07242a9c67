-- What stays true in the loop of `faults::Shape::need_fault`.
use Rattle.std.proofs.Common.{◌≡◌, length, map}
use Rattle.command_words.specs.Faults.{first_of, need_fault, part, shape_in}
use Rattle.command_words.proofs.faults.Shape.need_fault.Given as goal

-- no fault stands before what is left
abbrev pub invariant-names : goal.invariant-names
invariant-names l = first_of (need_fault (map part l.read) (shape_in l.self)) (map (λ w. w.now) l.rest)
    ≡ first_of (need_fault (map part l.read) (shape_in l.self)) (map (λ w. w.now) l.names)

abbrev pub decreases-names : goal.decreases-names
decreases-names l = length l.rest
