-- What the search leaves open of `datagram::Datagram::new`.
use Rattle.std.proofs.Common.{Some, sym, ◌∙◌}
use Rattle.std.proofs.lemmas.Bool.{both_ways}
use Rattle.script_line.proofs.DatagramLaws.{text_of_digits, digits_of_text, said_is}
use Rattle.script_line.proofs.datagram.Datagram.new.Goals as goal

pub invariant_of-result : goal.invariant_of-result
invariant_of-result c = text_of_digits c.args.digits.now (sym c.are_digits.ensures ∙ c.if-are_digits.true)

pub returns-then-are_digits-clause-datagram : goal.returns-then-are_digits-clause-datagram
returns-then-are_digits-clause-datagram c = text_of_digits c.args.digits.now (sym c.are_digits.ensures ∙ c.if-are_digits.true)

pub returns-then-are_digits-clause-every : goal.returns-then-are_digits-clause-every
returns-then-are_digits-clause-every c = λ bytes h. λ i. Some (said_is c.args.digits.now bytes h i)

pub returns-else-are_digits-clause-every : goal.returns-else-are_digits-clause-every
returns-else-are_digits-clause-every c = λ bytes h.
    absurd (both_ways c.are_digits.result c.if-are_digits.false (c.are_digits.ensures ∙ digits_of_text c.args.digits.now bytes h))
