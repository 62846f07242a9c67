-- What the proof of `frame::FramePlaces::is_set` needs.
use Rattle.std.proofs.Common.{not, refl, sym, ap, ◌∙◌}
use Rattle.frame_rules.specs.Fields.{has_a, has_b}
use Rattle.frame_rules.proofs.WordLaws.{only_with_a, only_without_a}
use Rattle.frame_rules.proofs.frame.FramePlaces.is_set.Goals as goal

pub returns-then-has : goal.returns-then-has
returns-then-has g c = λ marks h.
    let a = sym (c.has.ensures has_a marks h.bits_a refl) ∙ c.if-has.true in
    rw c.in-Only.is (ap not (c.has-then-has.ensures has_b marks h.bits_b refl) ∙ only_with_a marks c.args.place a)

pub returns-else-has : goal.returns-else-has
returns-else-has g c = λ marks h.
    let a = sym (c.has.ensures has_a marks h.bits_a refl) ∙ c.if-has.false in
    rw c.in-Only.is (c.if-has.false ∙ only_without_a marks c.args.place a)

pub returns-in-A : goal.returns-in-A
returns-in-A g c = λ marks h. rw c.in-A.is (c.has-in-A.ensures has_a marks h.bits_a refl)

pub returns-in-B : goal.returns-in-B
returns-in-B g c = λ marks h. rw c.in-B.is (c.has-in-B.ensures has_b marks h.bits_b refl)
