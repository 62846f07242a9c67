-- What the proof of `line::Line::add` needs.
use Rattle.std.proofs.Common.{ℕ, [], ◌∷◌, ◌++◌, ◌∙◌, sym, ap}
use Rattle.std.proofs.lemmas.Bool.{ne_eqb}
use Rattle.leap_file.specs.Parts.{next}
use Rattle.leap_file.proofs.ReturnLaws.{whole_is, strip_other, part_push}
use Rattle.leap_file.proofs.line.Line.add.Goals as goal

pub returns-then-byte-eq13 : goal.returns-then-byte-eq13
returns-then-byte-eq13 c = λ text h.
    (text, ap (λ (b : ℕ). text ++ b ∷ []) c.if-byte-eq13.true, c.whole-part.ensures.part ∙ whole_is c.args.self.now.returned c.args.self.now.part text h)

pub returns-else-byte-eq13 : goal.returns-else-byte-eq13
returns-else-byte-eq13 c = λ text h.
    (strip_other text c.args.byte (ne_eqb c.args.byte 13 c.if-byte-eq13.false), c.next-self.ensures.next ∙ ap (λ p. next p c.args.byte) (c.whole-part.ensures.part ∙ whole_is c.args.self.now.returned c.args.self.now.part text h) ∙ sym (part_push text c.args.byte))
