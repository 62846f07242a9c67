-- What the search leaves open of `arguments::is_option`.
use Rattle.std.proofs.Common.{◌∙◌}
use Rattle.command_words.specs.Matches.{option_names}
use Rattle.command_words.proofs.Names.{either_way}
use Rattle.command_words.proofs.arguments.is_option.Goals as goal

pub returns : goal.returns
returns c = c.is_in.ensures ∙ either_way c.args.name.now option_names
