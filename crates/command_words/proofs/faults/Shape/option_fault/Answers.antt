-- What the search leaves open of `faults::Shape::option_fault`.
use Rattle.std.proofs.Common.{rules, ◌≡◌, ◌∙◌, true, false, Bor, Some, [], ◌∷◌, map, sym, bytes_eq}
use Rattle.std.specs.List.{list_any}
use Rattle.clap.proofs.WalkLemmas.{list_any-map}
use Rattle.command_words.specs.CommandLine.{Text}
use Rattle.command_words.specs.Faults.{is_good, part, shape_in, texts_with}
use Rattle.command_words.proofs.FaultLaws.{beyond, of_others, right}
use Rattle.command_words.proofs.faults.Shape.option_fault.Goals as goal

pub returns-then-not-is_in : goal.returns-then-not-is_in
returns-then-not-is_in c =
    let one : texts_with (Some c.args.name.now) (map part c.args.read.now) ≡ c.in_ok-value.value.now ∷ [] = search rules in
    let off : list_any (λ w. bytes_eq c.args.name.now w.now) c.args.self.now.row.now ≡ false = search rules in
    sym (of_others (map part c.args.read.now) (shape_in c.args.self.now) c.args.name.now c.in_ok-value.value.now one
    (sym (list_any-map (bytes_eq c.args.name.now) (λ (w : Bor Text). w.now) c.args.self.now.row.now) ∙ off))

pub returns-then-is_good : goal.returns-then-is_good
returns-then-is_good c =
    let one : texts_with (Some c.args.name.now) (map part c.args.read.now) ≡ c.in_ok-value.value.now ∷ [] = search rules in
    let on : list_any (λ w. bytes_eq c.args.name.now w.now) c.args.self.now.row.now ≡ true = search rules in
    let good : is_good c.args.name.now c.in_ok-value.value.now ≡ true = search rules in
    sym (right (map part c.args.read.now) (shape_in c.args.self.now) c.args.name.now c.in_ok-value.value.now one
    (sym (list_any-map (bytes_eq c.args.name.now) (λ (w : Bor Text). w.now) c.args.self.now.row.now) ∙ on) good)

pub returns : goal.returns
returns c =
    let one : texts_with (Some c.args.name.now) (map part c.args.read.now) ≡ c.in_ok-value.value.now ∷ [] = search rules in
    let on : list_any (λ w. bytes_eq c.args.name.now w.now) c.args.self.now.row.now ≡ true = search rules in
    let bad : is_good c.args.name.now c.in_ok-value.value.now ≡ false = search rules in
    sym (beyond (map part c.args.read.now) (shape_in c.args.self.now) c.args.name.now c.in_ok-value.value.now one
    (sym (list_any-map (bytes_eq c.args.name.now) (λ (w : Bor Text). w.now) c.args.self.now.row.now) ∙ on) bad)
