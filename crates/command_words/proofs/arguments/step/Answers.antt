-- What the search leaves open of `arguments::step`.
use Rattle.std.proofs.Common.{◌∙◌, sym}
use Rattle.command_words.proofs.ReadLaws.{read_value}
use Rattle.command_words.proofs.arguments.step.Goals as goal

pub returns-in-Option : goal.returns-in-Option
returns-in-Option c = λ rest. rw c.in-Option.is (c.valued.ensures rest ∙ sym (read_value c.in-Option.option.now c.args.text.now rest))
