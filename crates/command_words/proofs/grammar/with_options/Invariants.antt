-- What stays true in the loops of `grammar::with_options`.
use Rattle.std.proofs.Common.{◌≡◌, fold, take}
use Rattle.clap.specs.Words.{app_of, with_rule}
use Rattle.command_words.specs.Matches.{option_rule}
use Rattle.command_words.proofs.grammar.with_options.Given as goal

abbrev pub invariant-loop-name : goal.invariant-loop-name
invariant-loop-name l = app_of l.command ≡ fold (λ a w. with_rule a (option_rule w.now)) (app_of l.initial.command) (take l.name-index l.names)
