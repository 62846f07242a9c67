-- What the search leaves open of `replay::lines::PlayerBoxedReceiverLineTaker::take_line`.
use Rattle.std.proofs.Common.{ap, ◌∙◌}
use Rattle.line_files.specs.LineTaking.{line_texts}
use Rattle.replay_command.specs.Replay.{played_so}
use Rattle.replay_command.specs.Texts.{outcome_text}
use Rattle.replay_command.proofs.PlayingLaws.{takes_played}
use Rattle.replay_command.proofs.replay.lines.PlayerBoxedReceiverLineTaker.take_line.Goals as goal

pub returns-in-Ok-clause-takes : goal.returns-in-Ok-clause-takes
returns-in-Ok-clause-takes g c = λ of items count h.
    let given = c.in-Ok.ensures.plays of items h in
    let one = given.1 in
    takes_played _ c.play.new.self of items (line_texts c.args.text.now c.write_outcome.new.out) c.write_outcome.result (played_so c.in-Some.script_line one.was_kept) ((c.in-Some.ensures.line, given.0), one.may_be) one.played (c.write_outcome.ensures.text ∙ ap outcome_text one.outcome_is)
