-- What the search leaves open of `grammar::grammar`.
use Rattle.std.proofs.Common.{rules, ◌≡◌, ◌∙◌, ap, ap₂, codes, fold, true}
use Rattle.std.proofs.lemmas.Result.{IfOk-weaker}
use Rattle.clap.specs.Words.{App, app_of, new_app, rule_of, with_rule}
use Rattle.clap.specs.Simple.{app_of_fields}
use Rattle.clap.specs.declared.builder.Command.{Command}
use Rattle.clap.specs.declared.builder.Command.TheViews.{out-Command as fields_of}
use Rattle.command_words.specs.Matches.{bare_app, command_rule, option_names, option_rule}
use Rattle.command_words.proofs.grammar.grammar.Goals as goal

-- what the settings do to what a parse reads
set_bare : (a b c d : Command) → app_of a ≡ new_app (codes "radio_ntpd") → fields_of b ≡ record (fields_of a) { no_binary_name = true }
    → fields_of c ≡ record (fields_of b) { disable_help_flag = true } → fields_of d ≡ record (fields_of c) { disable_version_flag = true }
    → app_of d ≡ bare_app
set_bare a b c d start one two three =
    ap app_of_fields three
    ∙ ap (λ f. app_of_fields (record f { disable_version_flag = true })) two
    ∙ ap (λ f. app_of_fields (record f { disable_help_flag = true; disable_version_flag = true })) one
    ∙ ap (λ (x : App). record { top = record x.top { no_binary_name = true; disable_help_flag = true; disable_version_flag = true }; subs = x.subs }) start

pub returns : goal.returns
returns c =
    let start = set_bare c.new.result c.no_binary_name.result c.disable_help_flag.result c.disable_version_flag.result c.new.ensures.app
    c.no_binary_name.ensures c.disable_help_flag.ensures c.disable_version_flag.ensures in
    let command_is : rule_of c.action.result ≡ command_rule = search rules in
    let one : app_of c.in_ok-command.command ≡ with_rule bare_app command_rule = c.in_ok-command.ensures.shape (search rules) ∙ ap₂ with_rule start command_is in
    IfOk-weaker c.with_options.result _ _ (λ m h. h ∙ ap (λ (a : App). fold (λ b name. with_rule b (option_rule name)) a option_names) one) c.with_options.ensures
