-- What the search leaves open of `write::write_sample`.
use Rattle.journal_entry.proofs.WritingLaws.{adds_last, adds_then}
use Rattle.journal_entry.proofs.write.write_sample.Goals as goal

pub returns-clause-text : goal.returns-clause-text
returns-clause-text c =
    let later = adds_then c.number.ensures.text (adds_then c.address.ensures.text (adds_then c.number-2.ensures.text (adds_last c.number-3.ensures.text))) in
    adds_then c.field.ensures (adds_then c.span.ensures.text (adds_then c.span-2.ensures.text (adds_then c.span-3.ensures.text later)))
