-- What the search leaves open of `leap::read_list`.
use Rattle.std.proofs.Common.{rules, ℕ, ap, subst}
use Rattle.page_cell.specs.Passes.{claim_of}
use Rattle.page_cell.specs.declared.view.Claim.{Claim}
use Rattle.feed_workers.specs.Keeping.{share_of}
use Rattle.feed_workers.specs.Leaps.{RunsLeap, most_of_a_list}
use Rattle.feed_workers.specs.Logs.{intake_of}
use Rattle.feed_workers.specs.Noticing.{EndsNoticing}
use Rattle.feed_workers.proofs.LeapLaws.{noticed_none}
use Rattle.feed_workers.proofs.leap.read_list.Goals as goal

pub returns-clause-runs : goal.returns-clause-runs
returns-clause-runs g c =
    let read = c.read_pieces-read in
    let begun = claim_of c.args.pass.now.view in
    let intake = intake_of (g.L.Source.state c.args.log.now) (g.L.Source.state read.new.file) most_of_a_list in
    let noticed = read.ensures.ends begun (noticed_none c.new.result c.args.start begun g.K.Recorder.limit c.new.ensures) in
    let same = ap (λ m. m.0) read.ensures.mark in
    let from_start = subst (λ (start : ℕ). EndsNoticing read.new.taker.reader start (intake (share_of begun read.new.taker.pass.now g.K.Recorder.limit read.new.taker.full)) read.result) same noticed in
    let runs = c.end_of-end.ensures.runs begun (g.L.Source.state c.args.log.now) (g.L.Source.state read.new.file) from_start in
    subst (λ (claim : Claim). RunsLeap c.args.start (intake (record { begun = begun; claim = claim; limit = g.K.Recorder.limit; full = c.end_of-end.new.full })) c.end_of-end.result)
    (search rules) runs
