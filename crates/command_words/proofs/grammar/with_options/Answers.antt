-- What the search leaves open of `grammar::with_options`.
use Rattle.std.proofs.Common.{◌∙◌, ap₂, sym}
use Rattle.clap.specs.Words.{app_of, with_rule}
use Rattle.std.proofs.lemmas.List.Sums.{fold_more}
use Rattle.command_words.specs.Matches.{option_rule}
use Rattle.command_words.proofs.grammar.with_options.Goals as goal

pub loop-name-preserved : goal.loop-name-preserved
loop-name-preserved c =
    c.in_ok-command.ensures.shape c.option.ensures.own ∙ ap₂ with_rule c.loop-name.invariant c.option.ensures.rule
    ∙ sym (fold_more (λ a w. with_rule a (option_rule w.now)) (app_of c.args.command) c.args.names.now c.loop-name.name-index _ c.loop-name-test.true)
