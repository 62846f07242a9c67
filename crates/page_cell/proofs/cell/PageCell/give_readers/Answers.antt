use Rattle.std.proofs.Common.{◌≡◌, ℕ, [], ◌∷◌, ◌++◌, map, rules, sym, ap, ◌∙◌, subst}
use Rattle.std.proofs.lemmas.List.{map-append}
use Rattle.page_cell.proofs.Places.{range-more}
use Rattle.std.specs.Prelude.{All}
use Rattle.std.proofs.lemmas.List.Elements.{All-push}
use Rattle.page_cell.specs.Passes.{Known, KnownReader}
use Rattle.page_cell.proofs.cell.PageCell.give_readers.Goals as goal

abbrev numbered : KnownReader → ℕ
numbered r = r.number

pub loop-number-preserved : goal.loop-number-preserved
loop-number-preserved c =
    let i = c.loop-number.invariant in
    let e = c.give_reader-reader.ensures in
    let items = c.in-Ok.ensures.items in
    let P : KnownReader → Type 0 = λ (r : KnownReader). (r.table ≡ c.args.self.now.table) × (r.view.seen ≡ 0) × (r.view.readings ≡ []) × (r.view.watch.torn ≡ 0) in
    record {
      same = e.same ∙ i.same;
      numbers = ap (map numbered) items ∙ map-append numbered c.loop-number.readers.items (c.give_reader-reader.result ∷ []) ∙ (λ k. i.numbers k ++ e.number k ∷ []) ∙ sym (range-more c.loop-number.number);
      count = search rules;
      owns = subst (All P) (sym items) (All-push P c.loop-number.readers.items c.give_reader-reader.result i.owns (e.cell ∙ ap (λ (k : Known). k.table) i.same ∙ c.requires, e.reader.0, e.reader.1, e.reader.2));
    }
