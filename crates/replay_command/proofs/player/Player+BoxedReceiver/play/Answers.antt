-- What the search leaves open of `player::Player+BoxedReceiver::play`.
use Rattle.std.proofs.Common.{refl}
use Rattle.replay_command.proofs.player.Player+BoxedReceiver.play.Goals as goal

pub returns-in-Pulse-clause-plays : goal.returns-in-Pulse-clause-plays
returns-in-Pulse-clause-plays g c of before h = rw c.in-Pulse.is (c.hear.ensures.plays of before h)

pub returns-in-Ask-clause-plays : goal.returns-in-Ask-clause-plays
returns-in-Ask-clause-plays g c of before h = rw c.in-Ask.is (c.ask.ensures.plays of before h)

pub returns-in-Answer-clause-plays : goal.returns-in-Answer-clause-plays
returns-in-Answer-clause-plays g c of before h = rw c.in-Answer.is (c.answer.ensures.plays of before h)

pub returns-in-Swap-clause-plays : goal.returns-in-Swap-clause-plays
returns-in-Swap-clause-plays g c of before h = rw c.in-Swap.is (c.swap.ensures.plays of before h)

pub returns-in-Request-clause-plays : goal.returns-in-Request-clause-plays
returns-in-Request-clause-plays g c of before h = rw c.in-Request.is (refl, c.reply.ensures.given of before h)

pub returns-in-Leap-clause-plays : goal.returns-in-Leap-clause-plays
returns-in-Leap-clause-plays g c of before h = rw c.in-Leap.is (c.announce.ensures.plays of before h)
