-- What the proof of `line::Line::add` needs.
use Rattle.std.proofs.Common.{arith}
use Rattle.std.proofs.lemmas.List.{length_push}
use Rattle.pulse_log.proofs.PrefixLaws.{other_dead}
use Rattle.pulse_log.proofs.line.Line.add.Goals as goal
use Rattle.pulse_log.proofs.line.Line.add.Goals.{in_default-via-then-byte-lt48, in_default-via-else-byte-lt48+else-byte-lt58}

pub returns-in_default : goal.returns-in_default
returns-in_default c = λ text h.
    let line = c.args.self.now in
    let dead = other_dead line.part line.start line.width c.args.byte text line.start_bounded line.width_bounded h.part (λ digit. elim c.in_default.branch [
      | in_default-via-then-byte-lt48 w ↦ omega arith
      | in_default-via-else-byte-lt48+else-byte-lt58 w ↦ omega arith
    ]) (λ space _. omega arith) (λ space _. absurd (omega arith)) in
    record { part = dead; length = omega (arith, length_push text c.args.byte, h.length) }
