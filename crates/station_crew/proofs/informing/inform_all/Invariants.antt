-- The loop of `informing::inform_all`.
use Rattle.std.proofs.Common.{◌≡◌, ◌≤◌, length, take}
use Rattle.std.specs.Prelude.{All}
use Rattle.page_cell.specs.Passes.{claim_of}
use Rattle.station_crew.specs.Informing.{HasLearnt}
use Rattle.station_crew.proofs.informing.inform_all.Given as goal

abbrev pub invariant-loop-i : goal.invariant-loop-i
invariant-loop-i g l = record {
  same : l.feeds ≡ l.initial.feeds;
  link : l.job.responder.link ≡ l.initial.job.responder.link;
  work : l.job.work ≡ l.initial.job.work;
  number : l.job.responder.number ≡ l.initial.job.responder.number;
  keys : l.job.responder.keys ≡ l.initial.job.responder.keys;
  clients : l.job.responder.clients ≡ l.initial.job.responder.clients;
  learnt : HasLearnt l.initial.job.responder.pass l.job.responder.pass;
  seen : All (λ f. length (claim_of f.view).seen ≤ l.job.responder.pass.view.seen) (take l.i l.initial.feeds);
}
