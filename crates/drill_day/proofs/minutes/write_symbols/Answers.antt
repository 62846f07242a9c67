-- What the search leaves open of `minutes::write_symbols`.
use Rattle.std.proofs.Common.{◌≡◌, take, List, ap, sym, ◌∙◌, subst}
use Rattle.std.specs.Prelude.{set}
use Rattle.std.proofs.lemmas.List.{take_at}
use Rattle.tick_units.specs.declared.marks.Symbol.{Symbol}
use Rattle.tick_units.specs.declared.marks.Symbol.TheVariants.{Odd}
use Rattle.frame_rules.specs.Sendings.{damaged_if}
use Rattle.drill_day.specs.Minutes.{coded_of, spelt_by}
use Rattle.drill_day.proofs.MadeMinuteLaws.{prefix_set}
use Rattle.drill_day.proofs.minutes.write_symbols.Goals as goal

pub returns-then-is_damaged-clause-symbols : goal.returns-then-is_damaged-clause-symbols
returns-then-is_damaged-clause-symbols c =
    let count = c.spell-count.result in
    let out = c.spell-count.new.out in
    let spelt = spelt_by c.args.plan (coded_of c.args.first c.args.minute) in
    let taken : take count out ≡ spelt = subst (λ n. take count out ≡ spelt_by c.args.plan (coded_of c.args.first n)) c.from.ensures
    (ap (take count) c.spell-count.ensures.written ∙ take_at _ _ count (sym c.spell-count.ensures.count)) in
    subst (λ b. take count (set out 30 Odd) ≡ damaged_if b spelt) (sym c.if-is_damaged.true ∙ c.is_damaged.ensures)
    (prefix_set count out 30 Odd ∙ ap (λ (l : List Symbol). set l 30 Odd) taken)
