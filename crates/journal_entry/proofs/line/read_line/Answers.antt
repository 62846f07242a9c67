-- What the search leaves open of `line::read_line`.
use Rattle.std.proofs.Common.{◌≡◌, ◌∙◌, ap, sym, Some}
use Rattle.journal_entry.specs.declared.line.JournalLine.TheVariants.{Numbered}
use Rattle.journal_entry.proofs.FormLaws.{numbered_alone}
use Rattle.journal_entry.proofs.line.read_line.Goals as goal

pub returns-in_err-read_numbered-clause-every : goal.returns-in_err-read_numbered-clause-every
returns-in_err-read_numbered-clause-every c =
    numbered_alone (λ l. c.from_residual.result ≡ Some l) c.args.text.now (sym c.starts_with.ensures.value ∙ c.if-starts_with.true)
    (λ n h. let none = c.in_err-read_numbered.was in let some = c.read_numbered.ensures.every n h in cc)

pub returns-in_ok-read_numbered-clause-every : goal.returns-in_ok-read_numbered-clause-every
returns-in_ok-read_numbered-clause-every c =
    numbered_alone (λ l. Some (Numbered c.in_ok-read_numbered.field-0) ≡ Some l) c.args.text.now (sym c.starts_with.ensures.value ∙ c.if-starts_with.true)
    (λ n h. let was = c.in_ok-read_numbered.was in let some = c.read_numbered.ensures.every n h in let same : c.in_ok-read_numbered.field-0 ≡ n = cc in ap (λ m. Some (Numbered m)) same)
