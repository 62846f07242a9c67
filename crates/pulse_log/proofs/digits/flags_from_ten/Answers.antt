-- What the proof of `digits::flags_from_ten` needs.
use Rattle.std.proofs.Common.{refl}
use Rattle.pulse_log.proofs.FlagLaws.{are_below}
use Rattle.pulse_log.proofs.digits.flags_from_ten.Goals as goal

pub returns : goal.returns
returns c = λ byte small is. are_below byte small c.args.word _ is refl
