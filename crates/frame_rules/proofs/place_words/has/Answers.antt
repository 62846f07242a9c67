-- What the proof of `place_words::has` needs.
use Rattle.std.proofs.Common.{ap, ◌∙◌, ◌/◌, ◌%◌, ◌^◌, ◌==◌}
use Rattle.frame_rules.proofs.WordLaws.{word_at}
use Rattle.frame_rules.proofs.place_words.has.Goals as goal

pub returns : goal.returns
returns c = λ test marks e zero. ap (λ n. n / 2 ^ c.args.place % 2 == 1) e ∙ word_at test 61 marks c.args.place c.requires zero
