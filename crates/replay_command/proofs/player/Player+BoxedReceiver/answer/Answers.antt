-- What the search leaves open of `player::Player+BoxedReceiver::answer`.
use Rattle.std.proofs.Common.{◌≡◌, take, refl, subst}
use Rattle.std.proofs.lemmas.Result.{err_from_is_err_and}
use Rattle.script_line.specs.declared.line.ScriptLine.TheVariants.{Answer}
use Rattle.replay_command.specs.Replay.{lines_of}
use Rattle.replay_command.specs.KeptPlayer.{HasAnswered}
use Rattle.replay_command.proofs.PlayerLaws.{answers-server, still-servers}
use Rattle.replay_command.proofs.player.Player+BoxedReceiver.answer.Goals as goal

pub returns-in_err-entry-clause-plays : goal.returns-in_err-entry-clause-plays
returns-in_err-entry-clause-plays g c of before h =
    let p = err_from_is_err_and c.from_residual.result c.from_residual.ensures.1 in
    rw p.1 (still-servers _ c.args.self.now _ of before _ refl refl refl refl refl (c.in_err-entry.ensures.answered of.station (lines_of before) h.servers) h)

pub returns-clause-plays : goal.returns-clause-plays
returns-clause-plays g c of before h =
    let e : take c.write-length.result c.write-length.new.out ≡ c.args.datagram.now = c.write-length.ensures.bytes in
    let answered : HasAnswered c.answer.new.self of.station (lines_of before) (Answer c.args.feed c.args.at (take c.write-length.result c.write-length.new.out)) c.in_ok-entry.entry = (c.in_ok-entry.ensures.answered of.station (lines_of before) h.servers).1 in
    answers-server _ c.args.self.now _ of before c.args.feed c.args.at c.args.datagram.now c.in_ok-entry.entry c.take.result
    ((c.in_ok-entry.ensures.answered of.station (lines_of before) h.servers).0, subst (λ d. HasAnswered c.answer.new.self of.station (lines_of before) (Answer c.args.feed c.args.at d) c.in_ok-entry.entry) e answered)
    refl refl refl refl c.take.ensures.kept c.take.ensures.outcome h
