-- What the search leaves open of `replay::open_and_play`.
use Rattle.std.proofs.Common.{inr}
use Rattle.outside_traits.specs.Openings.{log_visit}
use Rattle.outside_traits.proofs.OpeningLaws.{opened_once, out_after}
use Rattle.replay_command.proofs.replay.open_and_play.Goals as goal

pub give_back_log-requires : goal.give_back_log-requires
give_back_log-requires g c = out_after _ _ _ _ _ _ c.in-Ok.ensures.opened c.in-Ok.ensures.number c.play_whole-report.ensures.number

pub returns-clause-tried : goal.returns-clause-tried
returns-clause-tried g c = λ station h.
    let was = g.O.Log.Source.state c.in-Ok.script in
    let is = g.O.Log.Source.state c.play_whole-report.new.script in
    inr (record {
      opened = was;
      back = is;
      opens = opened_once _ _ _ (log_visit c.args.name.now was is) _ _ c.in-Ok.ensures.opened c.in-Ok.ensures.number c.in-Ok.ensures.cause.kept c.play_whole-report.ensures.number c.give_back_log.ensures.back;
      runs = c.play_whole-report.ensures.replays station h;
    })
