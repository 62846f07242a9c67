-- What the proof of `line::Line::says` needs.
use Rattle.std.proofs.Common.{◌∙◌, sym, ap, subst}
use Rattle.std.specs.Str.Lines.{strip_carriage_return}
use Rattle.leap_file.specs.Lines.{IsSaid}
use Rattle.leap_file.specs.Parts.{ends}
use Rattle.leap_file.proofs.PartLaws.{said-ends}
use Rattle.leap_file.proofs.ReturnLaws.{part_is}
use Rattle.leap_file.proofs.SentenceLaws.{sentence}
use Rattle.leap_file.proofs.line.Line.says.Goals as goal

pub returns-clause-value : goal.returns-clause-value
returns-clause-value c = λ text h. c.ends.ensures ∙ ap ends (part_is c.args.self.now.returned c.args.self.now.part text h) ∙ sym (said-ends (strip_carriage_return text))

pub returns-clause-sentence : goal.returns-clause-sentence
returns-clause-sentence c = λ text h. subst (IsSaid (strip_carriage_return text)) (sym (returns-clause-value c text h)) (sentence (strip_carriage_return text))
