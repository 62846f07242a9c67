-- What the proof of `place_words::with_bit` needs.
use Rattle.std.proofs.Common.{ap, ◌∙◌, ◌*◌, ◌%◌, ◌^◌, bit_or}
use Rattle.frame_rules.proofs.WordLaws.{word_with, byte_is}
use Rattle.frame_rules.proofs.place_words.with_bit.Goals as goal

pub returns : goal.returns
returns c = λ test marks mark e len bit.
    ap (λ b. bit_or c.args.word (b * 2 ^ c.args.place % 2 ^ 64)) (c.from.ensures ∙ byte_is c.args.bit)
    ∙ word_with test marks mark c.args.word c.args.place c.args.bit c.requires e len bit
