-- What the proof of `gate::ClientGate::judge` needs.
use Rattle.std.proofs.Common.{◌∙◌}
use Rattle.kiss_gate.proofs.AloneLaws.{alone}
use Rattle.kiss_gate.proofs.gate.ClientGate.judge.Goals as goal

pub returns-clause-alone : goal.returns-clause-alone
returns-clause-alone c = λ rs is room. c.decide.ensures.judged.code ∙ alone c.args.self.now rs c.args.ip c.args.at is room
