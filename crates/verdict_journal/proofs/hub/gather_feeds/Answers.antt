use Rattle.std.proofs.Common.{◌≡◌, List, [], rules, sym, ◌∙◌, subst}
use Rattle.std.specs.Prelude.{All}
use Rattle.std.proofs.lemmas.List.Elements.{All-push, All-nil}
use Rattle.verdict_journal.proofs.Downs.{all_prefix}
use Rattle.journal_entry.specs.declared.entry.Entry.{Entry}
use Rattle.page_cell.specs.Passes.{Known, claim_of}
use Rattle.page_cell.specs.Claims.{IsTrueOf}
use Rattle.verdict_journal.proofs.hub.gather_feeds.Goals as goal

pub loop-f-preserved : goal.loop-f-preserved
loop-f-preserved c =
    let i = c.loop-f.invariant in
    let e = c.gather_feed.ensures in
    let items = c.in-Some.ensures.items in
    let T : Known → Type 0 = λ f. f.table ≡ c.args.cell.now.table in
    let Q : Known → Type 0 = λ f. IsTrueOf c.args.baton.now.view.list (claim_of f.view) in
    let now : Q c.in-Some.f = subst (λ (l : List Entry). IsTrueOf l (claim_of c.in-Some.f.view)) i.list e.claim in
    record {
      table = e.cell ∙ i.table;
      key = e.settings ∙ i.key;
      list = e.list ∙ i.list;
      own = all_prefix T c.loop-f.feeds.items c.pop.new.self.items c.in-Some.f items i.own;
      rest = (λ (h : All Q c.pop.new.self.items). i.rest (subst (All Q) (sym items) (All-push Q c.pop.new.self.items c.in-Some.f h now)));
    }

pub returns-clause-claims : goal.returns-clause-claims
returns-clause-claims c =
    let Q : Known → Type 0 = λ f. IsTrueOf c.args.baton.now.view.list (claim_of f.view) in
    let none : c.loop-f.feeds.items ≡ [] = search rules in
    c.loop-f.invariant.rest (subst (All Q) (sym none) (All-nil Q))
