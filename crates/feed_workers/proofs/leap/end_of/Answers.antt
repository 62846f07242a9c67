-- What the search leaves open of `leap::end_of`.
use Rattle.std.proofs.Common.{rules, ◌≡◌, ℕ, Ok, Err, Result, true, false, refl, inl, subst}
use Rattle.file_reader.specs.declared.reader.FileEnd.{FileEnd}
use Rattle.file_reader.specs.declared.reader.FileEnd.TheVariants as file
use Rattle.feed_workers.specs.Keeping.{share_of}
use Rattle.feed_workers.specs.Leaps.{most_of_a_list}
use Rattle.feed_workers.specs.Logs.{intake_of}
use Rattle.feed_workers.specs.Noticing.{EndsNoticing}
use Rattle.feed_workers.proofs.LeapLaws.{exact, list_ends}
use Rattle.feed_workers.proofs.leap.end_of.Goals as goal

pub returns-in-Ok-Whole-clause-runs : goal.returns-in-Ok-Whole-clause-runs
returns-in-Ok-Whole-clause-runs g c = λ begun was is any.
    let intake = intake_of was is most_of_a_list (share_of begun c.args.pass.now g.K.Recorder.limit c.args.full.now) in
    let read : c.args.read ≡ Ok file.Whole = search rules in
    let p = subst (λ (r : Result FileEnd ℕ). EndsNoticing c.args.reader.now c.args.start intake r) read any in
    let ended = c.finish_list.ensures.ended begun p.0 p.2 in
    record {
      bytes = p.0;
      whole = true;
      kept = ended.kept;
      ends = list_ends _ _ p.0 c.finish_list.result ended.ends p.1 p.2.good;
    }

pub returns-in-Err-clause-runs : goal.returns-in-Err-clause-runs
returns-in-Err-clause-runs g c = λ begun was is any.
    let intake = intake_of was is most_of_a_list (share_of begun c.args.pass.now g.K.Recorder.limit c.args.full.now) in
    let read : c.args.read ≡ Err c.in-Err.line = search rules in
    let p = subst (λ (r : Result FileEnd ℕ). EndsNoticing c.args.reader.now c.args.start intake r) read any in
    record {
      bytes = p.0;
      whole = false;
      kept = p.2.kept;
      ends = inl (refl, p.1, exact false p.0 _ p.1.most p.2.bad);
    }
