-- What the proof of `line::Line::reduction` needs.
use Rattle.std.proofs.Common.{sym, arith}
use Rattle.pulse_log.proofs.PrefixLaws.{says_nothing, says_it}
use Rattle.pulse_log.proofs.line.Line.reduction.Goals as goal
use Rattle.pulse_log.proofs.line.Line.reduction.Goals.{in_default-via-in-Width+else-self-ge-NARROWEST, in_default-via-in_default}

pub returns-in_ok-at-in-Width : goal.returns-in_ok-at-in-Width
returns-in_ok-at-in-Width c = λ text h.
    let line = c.args.self.now in
    let found = says_it line.part line.start line.width text line.start_bounded line.width_bounded h.part c.in-Width.is c.if-self-ge-NARROWEST.true in
    let at = c.in_ok-at-in-Width.ensures.some in
    cc

pub returns-in_default : goal.returns-in_default
returns-in_default c = λ text h.
    let line = c.args.self.now in
    sym (says_nothing line.part line.start line.width text line.start_bounded h.part (λ is. elim c.in_default.branch [
      | in_default-via-in-Width+else-self-ge-NARROWEST w ↦ omega arith
      | in_default-via-in_default w ↦ absurd (w.in_default.not-Width is)
    ]))
