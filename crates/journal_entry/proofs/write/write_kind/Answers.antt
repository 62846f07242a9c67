-- What the search leaves open of `write::write_kind`.
use Rattle.journal_entry.proofs.WritingLaws.{adds_last, adds_then}
use Rattle.journal_entry.proofs.write.write_kind.Goals as goal

pub returns-in-Verdict-clause-text : goal.returns-in-Verdict-clause-text
returns-in-Verdict-clause-text c = rw c.in-Verdict.is (adds_then c.field.ensures (adds_then c.number.ensures.text (adds_last c.number-in-Verdict.ensures.text)))

pub returns-in-Lone-clause-text : goal.returns-in-Lone-clause-text
returns-in-Lone-clause-text c = rw c.in-Lone.is (adds_then c.field-in-Lone.ensures (adds_last c.number-in-Lone.ensures.text))

pub returns-in-Differs-clause-text : goal.returns-in-Differs-clause-text
returns-in-Differs-clause-text c =
    rw c.in-Differs.is (adds_then c.field-in-Differs.ensures (adds_then c.number-in-Differs.ensures.text (adds_then c.number-in-Differs-2.ensures.text (adds_last c.number-in-Differs-3.ensures.text))))

pub returns-in-Refused-clause-text : goal.returns-in-Refused-clause-text
returns-in-Refused-clause-text c = rw c.in-Refused.is (adds_then c.field-in-Refused.ensures (adds_last c.number-in-Refused.ensures.text))
