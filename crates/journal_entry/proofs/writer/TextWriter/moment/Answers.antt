-- What the search leaves open of `writer::TextWriter::moment`.
use Rattle.std.proofs.Common.{arith}
use Rattle.journal_entry.proofs.LengthLaws.{moment_length}
use Rattle.journal_entry.proofs.writer.TextWriter.moment.Goals as goal

pub returns-clause-short : goal.returns-clause-short
returns-clause-short c =
    let short = moment_length c.get.result c.get.ensures.below in
    let grown = c.number.ensures.text.length in
    omega arith
