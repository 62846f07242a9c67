-- What the search leaves open of `Journal::get`.
use Rattle.std.proofs.Common.{sym, ap, ◌∙◌}
use Rattle.std.specs.Prelude.{Option}
use Rattle.std.specs.Option.{option_map}
use Rattle.journal_entry.specs.declared.numbered.Numbered.{Numbered}
use Rattle.verdict_journal.proofs.NumberLaws.{numbered-entry}
use Rattle.verdict_journal.proofs.journal.Journal.get.Goals as goal

pub returns : goal.returns
returns c = c.entry_in.ensures ∙ ap (λ (o : Option Numbered). option_map (λ n. n.entry) o) c.numbered.ensures ∙ sym (numbered-entry c.args.self.now.settings c.args.self.now.entries c.args.i)
