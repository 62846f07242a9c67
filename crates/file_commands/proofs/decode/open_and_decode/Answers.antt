-- What the search leaves open of `decode::open_and_decode`.
use Rattle.std.proofs.Common.{inr}
use Rattle.outside_traits.specs.Openings.{log_visit}
use Rattle.outside_traits.proofs.OpeningLaws.{opened_once, out_after}
use Rattle.file_commands.proofs.decode.open_and_decode.Goals as goal

pub give_back_log-requires : goal.give_back_log-requires
give_back_log-requires g c = out_after _ _ _ _ _ _ c.in-Ok.ensures.opened c.in-Ok.ensures.number c.decode-outcome.ensures.number

pub returns-clause-runs : goal.returns-clause-runs
returns-clause-runs g c =
    let was = g.O.Log.Source.state c.in-Ok.log in
    let is = g.O.Log.Source.state c.decode-outcome.new.log in
    inr (record {
      opened = was;
      back = is;
      opens = opened_once _ _ _ (log_visit c.args.name.now was is) _ _ c.in-Ok.ensures.opened c.in-Ok.ensures.number c.in-Ok.ensures.cause.kept c.decode-outcome.ensures.number c.give_back_log.ensures.back;
      decodes = c.decode-outcome.ensures.decodes;
    })

pub returns-clause-minutes : goal.returns-clause-minutes
returns-clause-minutes g c =
    let was = g.O.Log.Source.state c.in-Ok.log in
    let is = g.O.Log.Source.state c.decode-outcome.new.log in
    inr (record {
      opened = was;
      back = is;
      opens = opened_once _ _ _ (log_visit c.args.name.now was is) _ _ c.in-Ok.ensures.opened c.in-Ok.ensures.number c.in-Ok.ensures.cause.kept c.decode-outcome.ensures.number c.give_back_log.ensures.back;
      knows = c.decode-outcome.ensures.minutes;
    })
