-- What the proof of `digits::value_of_eight` needs.
use Rattle.core.proofs.dec2flt.Eight.{eight_is}
use Rattle.pulse_log.proofs.digits.value_of_eight.Goals as goal

pub returns : goal.returns
returns c digits eight e = eight_is digits c.args.word eight e
