-- What the search leaves open of `writer::TextWriter::field`.
use Rattle.std.proofs.Common.{[], ◌∷◌}
use Rattle.journal_entry.proofs.WritingLaws.{adds_both}
use Rattle.journal_entry.proofs.writer.TextWriter.field.Goals as goal

pub returns : goal.returns
returns c = adds_both c.args.self.now c.add.new.self c.add-2.new.self (32 ∷ []) c.args.field.now c.add.ensures c.add-2.ensures
