-- What the search leaves open of `radio::end_of`.
use Rattle.std.proofs.Common.{rules, ◌≡◌, Ok, Result, ℕ, subst}
use Rattle.file_reader.specs.declared.log_end.LogEnd.TheVariants.{Whole, BadLine}
use Rattle.file_reader.specs.declared.reader.FileEnd.{FileEnd}
use Rattle.file_reader.specs.declared.reader.FileEnd.TheVariants as file
use Rattle.feed_workers.specs.Receiving.{EndsReceiving}
use Rattle.feed_workers.proofs.LogLaws.{runs_whole}
use Rattle.feed_workers.proofs.radio.end_of.Goals as goal

pub returns-in-Ok : goal.returns-in-Ok
returns-in-Ok g c = λ tuning intake h.
    let read : c.args.read ≡ Ok file.Whole = search rules in
    runs_whole _ c.args.decoder.now tuning intake (subst (λ (r : Result FileEnd ℕ). EndsReceiving g.Q.Receiver.stands_for c.args.decoder.now tuning intake r) read h) Whole
    (λ feed bytes decoded. c.in-Ok.ensures feed tuning.plan tuning.delay bytes decoded)

pub returns-in-Err-finish : goal.returns-in-Err-finish
returns-in-Err-finish g c = λ tuning intake h.
    let read : c.args.read ≡ Ok file.Whole = search rules in
    runs_whole _ c.args.decoder.now tuning intake (subst (λ (r : Result FileEnd ℕ). EndsReceiving g.Q.Receiver.stands_for c.args.decoder.now tuning intake r) read h) (BadLine c.in-Err-finish.bad.line)
    (λ feed bytes decoded. c.in-Err-finish.ensures feed tuning.plan tuning.delay bytes decoded)
