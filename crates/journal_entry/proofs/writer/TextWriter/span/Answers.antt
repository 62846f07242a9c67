-- What the search leaves open of `writer::TextWriter::span`.
use Rattle.std.proofs.Common.{◌<◌, ◌^◌, ◌∷◌, unsigned_abs, subst, rules, arith}
use Rattle.std.specs.Fmt.{signed_decimal}
use Rattle.journal_entry.specs.Writing.{Adds}
use Rattle.journal_entry.proofs.LengthLaws.{span_length}
use Rattle.journal_entry.proofs.writer.TextWriter.span.Goals as goal

pub returns-clause-short : goal.returns-clause-short
returns-clause-short c =
    let text : Adds c.args.self.now c.number.new.self (32 ∷ signed_decimal c.args.span) = search rules in
    let grown = text.length in
    let small = subst (λ z. unsigned_abs z < 2 ^ 70) c.get.ensures.value c.get.ensures.small in
    omega (arith, span_length c.args.span small)
