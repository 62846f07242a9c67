-- What the proof of `line::Line::add_space` needs.
use Rattle.std.proofs.Common.{◌∙◌, decimal, sym, ap, arith}
use Rattle.pulse_log.proofs.PrefixLaws.{space_push, so_far_some, other_dead}
use Rattle.pulse_log.proofs.line.Line.add_space.Goals as goal
use Rattle.pulse_log.proofs.line.Line.add_space.Goals.{in_default-via-in-Start+else-self-gt0, in_default-via-in_default}

pub returns-in-Start-clause-part : goal.returns-in-Start-clause-part
returns-in-Start-clause-part c = λ text h.
    let line = c.args.self.now in
    let ends = rw c.in-Start.is at h in
    space_push line.start line.width text ends.0 (ends.1 ∙ so_far_some line.start c.if-self-gt0.true)

pub returns-in-Zero-clause-part : goal.returns-in-Zero-clause-part
returns-in-Zero-clause-part c = λ text h.
    let line = c.args.self.now in
    let ends = rw c.in-Zero.is at h in
    space_push line.start line.width text ends.0 (ends.2 ∙ ap decimal (sym ends.1))

pub returns-in_default-clause-part : goal.returns-in_default-clause-part
returns-in_default-clause-part c = λ text h.
    let line = c.args.self.now in
    other_dead line.part line.start line.width 32 text line.start_bounded line.width_bounded h (λ digit. omega arith)
    (λ _ is. elim c.in_default.branch [
      | in_default-via-in-Start+else-self-gt0 w ↦ omega arith
      | in_default-via-in_default w ↦ absurd (w.in_default.not-Start is)
    ])
    (λ _ is. elim c.in_default.branch [
      | in_default-via-in-Start+else-self-gt0 w ↦ (let start = w.in-Start.is in cc)
      | in_default-via-in_default w ↦ w.in_default.not-Zero is
    ])
