-- What the search leaves open of `fields::span_of`.
use Rattle.std.proofs.Common.{rules}
use Rattle.journal_entry.proofs.DigitLaws.{signed_after}
use Rattle.journal_entry.proofs.fields.span_of.Goals as goal

pub returns-in-45 : goal.returns-in-45
returns-in-45 c = λ z small e.
    signed_after c.args.text.now z c.unsigned_span_of.result c.neg.result small e (search rules) c.unsigned_span_of.ensures c.neg.ensures
