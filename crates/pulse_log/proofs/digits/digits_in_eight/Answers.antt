-- What the proof of `digits::digits_in_eight` needs.
use Rattle.std.proofs.Common.{rules, subst, sym}
use Rattle.pulse_log.specs.Words.{IsWordOf}
use Rattle.pulse_log.proofs.WordLaws.{le_word}
use Rattle.pulse_log.proofs.digits.digits_in_eight.Goals as goal

pub returns-clause-read : goal.returns-clause-read
returns-clause-read c =
    let bytes = c.args.bytes.now in
    c.digits_of.ensures.read bytes (subst (IsWordOf bytes) (sym c.from_le_bytes.ensures) (le_word bytes (search rules) (search rules)))
