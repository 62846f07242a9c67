use Rattle.std.proofs.Common.{◌≡◌, map, List, [], ◌∷◌, ◌++◌, sym, ap, ◌∙◌, subst, arith}
use Rattle.std.specs.Prelude.{All}
use Rattle.std.proofs.lemmas.List.{map-append}
use Rattle.std.proofs.lemmas.List.Elements.{All-push}
use Rattle.std.proofs.lemmas.List.FromFn.{map-range_with_len_more}
use Rattle.page_cell.specs.Passes.{Known, claim_of}
use Rattle.page_cell.specs.Views.{new_claim}
use Rattle.page_cell.specs.declared.view.Claim.{Claim}
use Rattle.page_cell.proofs.cell.PageCell.give_feeds.Goals as goal

abbrev claimed : Known → Claim
claimed f = claim_of f.view

pub loop-number-preserved : goal.loop-number-preserved
loop-number-preserved c =
    let i = c.loop-number.invariant in
    let e = c.give_feed-feed.ensures in
    let items = c.in-Ok.ensures.items in
    record {
      own = e.cell.0 ∙ i.own;
      list = e.baton.0 ∙ i.list;
      key = e.baton.1 ∙ i.key;
      given = e.baton.2;
      claims = ap (map claimed) items ∙ map-append claimed c.loop-number.feeds.items (c.give_feed-feed.result ∷ []) ∙ ap (λ (d : Claim). map claimed c.loop-number.feeds.items ++ d ∷ []) e.feed ∙ ap (λ (l : List Claim). l ++ new_claim c.loop-number.number ∷ []) i.claims ∙ sym (map-range_with_len_more new_claim 0 c.loop-number.number c.loop-number.number (omega arith));
      owns = subst (All (λ (f : Known). f.table ≡ c.args.self.now.table)) (sym items) (All-push (λ (f : Known). f.table ≡ c.args.self.now.table) c.loop-number.feeds.items c.give_feed-feed.result i.owns (e.cell.1 ∙ i.own ∙ c.requires.own));
    }
