-- What the search leaves open of `write::write_what`.
use Rattle.journal_entry.proofs.WritingLaws.{adds_last, adds_then}
use Rattle.journal_entry.proofs.write.write_what.Goals as goal

pub returns-in-Declined-clause-text : goal.returns-in-Declined-clause-text
returns-in-Declined-clause-text c = rw c.in-Declined.is (adds_then c.field.ensures (adds_last c.number.ensures.text))

pub returns-in-Notice-clause-text : goal.returns-in-Notice-clause-text
returns-in-Notice-clause-text c = rw c.in-Notice.is (adds_then c.field-in-Notice.ensures (adds_last c.number-in-Notice.ensures.text))
