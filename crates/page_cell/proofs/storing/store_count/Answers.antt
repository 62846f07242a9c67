use Rattle.std.proofs.Common.{[], ◌∷◌, ◌++◌, length, sym, ap, ◌∙◌, arith, subst}
use Rattle.clock_page.specs.Page.{AreWords}
use Rattle.journal_entry.specs.declared.entry.Entry.{Entry}
use Rattle.page_cell.specs.Passes.{claim_of}
use Rattle.page_cell.proofs.Stores.{adds_ok}
use Rattle.page_cell.proofs.storing.store_count.Goals as goal
use Rattle.system_fold.specs.Page.{page_of}

pub store-requires : goal.store-requires
store-requires g c =
    let p = c.requires.publisher.1 in
    let v = c.args.token.now.me.0 in
    let n = c.requires.entry in
    let stored = subst (λ (e : Entry). AreWords v.stored (page_of v.settings (v.list ++ e ∷ []))) n c.requires.stored in
    (c.requires.own.0, omega (arith, c.requires.own.1), adds_ok c.args.banks.now.shared.key _ _ v _ (claim_of v) g.K.Published.entry c.args.total p.rests.live p.baton p.feeds (ap (λ (e : Entry). e.feed) (sym n) ∙ p.number) (c.requires.total ∙ ap (λ (e : Entry). length (v.list ++ e ∷ [])) n) stored)
