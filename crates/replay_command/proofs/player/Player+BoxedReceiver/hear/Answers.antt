-- What the search leaves open of `player::Player+BoxedReceiver::hear`.
use Rattle.std.proofs.Common.{refl, subst}
use Rattle.std.proofs.lemmas.Result.{err_from_is_err_and}
use Rattle.script_line.specs.declared.line.ScriptLine.TheVariants.{Pulse}
use Rattle.replay_command.specs.Replay.{lines_of}
use Rattle.replay_command.specs.KeptPlayer.{HasReceivedPulse}
use Rattle.replay_command.proofs.PlayerLaws.{receives-entry, receives-none, still}
use Rattle.replay_command.proofs.player.Player+BoxedReceiver.hear.Goals as goal

pub returns-in_err-entry-clause-plays : goal.returns-in_err-entry-clause-plays
returns-in_err-entry-clause-plays g c of before h =
    let p = err_from_is_err_and c.from_residual.result c.from_residual.ensures.1 in
    rw p.1 (still _ c.args.self.now _ of before _ refl refl refl refl refl (c.in_err-entry.ensures.heard of.station (lines_of before) h.radios) h)

pub returns-in-Some-clause-plays : goal.returns-in-Some-clause-plays
returns-in-Some-clause-plays g c of before h =
    let heard = c.in_ok-entry.ensures.heard of.station (lines_of before) h.radios in
    receives-entry _ c.args.self.now _ of before c.args.feed c.args.reduction c.in-Some.entry c.take.result
    (heard.0, subst (HasReceivedPulse (λ b h. (goal.Receiver-dyn g (b.vtable, b.value)).stands_for b.value h) c.hear.new.self of.station (lines_of before) (Pulse c.args.feed c.args.reduction)) c.in-Some.is heard.1) refl refl refl refl c.take.ensures.kept c.take.ensures.outcome h

pub returns-in-None-clause-plays : goal.returns-in-None-clause-plays
returns-in-None-clause-plays g c of before h =
    let heard = c.in_ok-entry.ensures.heard of.station (lines_of before) h.radios in
    receives-none _ c.args.self.now _ of before c.args.feed c.args.reduction
    (heard.0, subst (HasReceivedPulse (λ b h. (goal.Receiver-dyn g (b.vtable, b.value)).stands_for b.value h) c.hear.new.self of.station (lines_of before) (Pulse c.args.feed c.args.reduction)) c.in-None.is heard.1) refl refl refl refl refl h
