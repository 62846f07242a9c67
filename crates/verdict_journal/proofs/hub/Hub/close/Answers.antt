-- What the search leaves open of `Hub::close`.
use Rattle.std.proofs.Common.{List, sym, ◌∙◌, subst}
use Rattle.std.specs.Prelude.{All}
use Rattle.journal_entry.specs.declared.entry.Entry.{Entry}
use Rattle.page_cell.specs.Claims.{IsTrueOf}
use Rattle.page_cell.specs.Passes.{Known, claim_of}
use Rattle.verdict_journal.proofs.hub.Hub.close.Goals as goal

pub returns-clause-feeds : goal.returns-clause-feeds
returns-clause-feeds g c =
    subst (λ (l : List Entry). All (λ (f : Known). IsTrueOf l (claim_of f.view)) c.args.feeds.items) (sym (c.gather_readers.ensures.list ∙ c.gather_feeds.ensures.list)) c.gather_feeds.ensures.claims
