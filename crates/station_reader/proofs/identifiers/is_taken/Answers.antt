-- What the search leaves open of `identifiers::is_taken`.
use Rattle.std.proofs.Common.{◌∙◌, ◌+◌, ◌||◌, ◌==◌, sym, ap, drop}
use Rattle.std.specs.List.{list_any}
use Rattle.toml.specs.View.{items_view}
use Rattle.station_reader.specs.Finding.{ids_in}
use Rattle.station_reader.proofs.TakenLaws.{taken-end, taken-step}
use Rattle.station_reader.proofs.identifiers.is_taken.Goals as goal

pub returns-then-has_id : goal.returns-then-has_id
returns-then-has_id c =
    let xs = c.args.items.now in
    let i = c.loop-item.item-index in
    let rest = list_any (λ other. other == c.args.id) (ids_in (items_view (drop (i + 1) xs))) in
    ap (λ b. b || rest) c.if-has_id.ensures ∙ sym (taken-step xs i c.item-item.result c.args.id c.loop-item-test.true c.item-item.is) ∙ c.loop-item.invariant

pub loop-item-preserved : goal.loop-item-preserved
loop-item-preserved c =
    let xs = c.args.items.now in
    let i = c.loop-item.item-index in
    let rest = list_any (λ other. other == c.args.id) (ids_in (items_view (drop (i + 1) xs))) in
    ap (λ b. b || rest) c.if-has_id.ensures ∙ sym (taken-step xs i c.item-item.result c.args.id c.loop-item-test.true c.item-item.is) ∙ c.loop-item.invariant

pub returns : goal.returns
returns c = sym (taken-end c.args.items.now c.loop-item.item-index c.args.id c.loop-item-test.false) ∙ c.loop-item.invariant
