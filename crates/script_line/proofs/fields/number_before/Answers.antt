-- What the search leaves open of `fields::number_before`.
use Rattle.journal_entry.specs.Texts.{spaced}
use Rattle.script_line.proofs.FieldLaws.{spaced-ends}
use Rattle.script_line.proofs.fields.number_before.Goals as goal

pub returns-clause-every : goal.returns-clause-every
returns-clause-every c = λ n fields less e. c.first_number.ensures.every n (spaced fields) less (spaced-ends fields) e
