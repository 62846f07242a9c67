-- What stays true in the loops of `number::first_number`.
use Rattle.std.proofs.Common.{◌≤◌}
use Rattle.decimal_text.specs.Reading.{SaysSoFar}
use Rattle.decimal_text.proofs.number.first_number.Given as goal

abbrev pub invariant-loop-count : goal.invariant-loop-count
invariant-loop-count l = record {
  says : SaysSoFar l.text l.count l.value;
  small : l.value ≤ l.most;
}
