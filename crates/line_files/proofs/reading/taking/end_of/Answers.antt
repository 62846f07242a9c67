-- What the search leaves open of `reading::taking::end_of`.
use Rattle.std.proofs.Common.{rules, ◌≡◌, Ok, Err, Result, subst}
use Rattle.file_reader.specs.Pieces.{EndsPieces}
use Rattle.file_reader.specs.declared.reader.FileEnd.{FileEnd}
use Rattle.file_reader.specs.declared.reader.FileEnd.TheVariants.{Whole, Fault, TooLong}
use Rattle.line_files.specs.Taking.{StopsTaking, TakesAll}
use Rattle.line_files.specs.declared.reading.Stop.{Stop}
use Rattle.line_files.specs.declared.reading.Stop.TheVariants.{BadLine, WriteFault}
use Rattle.line_files.proofs.EndLaws.{ends_whole, ends_fault, ends_long, ends_bad, ends_stopped}
use Rattle.line_files.proofs.reading.taking.end_of.Goals as goal

pub returns-in-Ok-Whole : goal.returns-in-Ok-Whole
returns-in-Ok-Whole g c = λ of limit flow any.
    let read : c.args.read ≡ Ok Whole = search rules in
    let holds = g.T.Taker.holds c.args.taker.now of in
    let p = subst (λ (r : Result FileEnd Stop). EndsPieces (TakesAll holds flow.out flow.out_now) (StopsTaking holds (g.T.Taker.says of) flow.out flow.out_now) limit flow.file flow.file_now r) read any in
    ends_whole holds limit flow.file flow.file_now flow.out flow.out_now p.0 c.at_end.result p.2 p.1 (c.at_end.ensures of p.0 p.2.text p.2.held)

pub returns-in-Ok-Fault : goal.returns-in-Ok-Fault
returns-in-Ok-Fault g c = λ of limit flow any.
    let read : c.args.read ≡ Ok Fault = search rules in
    let holds = g.T.Taker.holds c.args.taker.now of in
    let p = subst (λ (r : Result FileEnd Stop). EndsPieces (TakesAll holds flow.out flow.out_now) (StopsTaking holds (g.T.Taker.says of) flow.out flow.out_now) limit flow.file flow.file_now r) read any in
    ends_fault holds limit flow.file flow.file_now flow.out flow.out_now p.0 p.2 p.1

pub returns-in-Ok-TooLong : goal.returns-in-Ok-TooLong
returns-in-Ok-TooLong g c = λ of limit flow any.
    let read : c.args.read ≡ Ok TooLong = search rules in
    let holds = g.T.Taker.holds c.args.taker.now of in
    let p = subst (λ (r : Result FileEnd Stop). EndsPieces (TakesAll holds flow.out flow.out_now) (StopsTaking holds (g.T.Taker.says of) flow.out flow.out_now) limit flow.file flow.file_now r) read any in
    ends_long holds limit flow.file flow.file_now flow.out flow.out_now p.0 p.2 p.1

pub returns-in-Err-BadLine : goal.returns-in-Err-BadLine
returns-in-Err-BadLine g c = λ of limit flow any.
    let read : c.args.read ≡ Err (BadLine c.in-Err-BadLine.line) = search rules in
    let holds = g.T.Taker.holds c.args.taker.now of in
    let p = subst (λ (r : Result FileEnd Stop). EndsPieces (TakesAll holds flow.out flow.out_now) (StopsTaking holds (g.T.Taker.says of) flow.out flow.out_now) limit flow.file flow.file_now r) read any in
    ends_bad holds limit flow.file flow.file_now flow.out flow.out_now p.0 c.in-Err-BadLine.line p.2 p.1

pub returns-in-Err-WriteFault : goal.returns-in-Err-WriteFault
returns-in-Err-WriteFault g c = λ of limit flow any.
    let read : c.args.read ≡ Err WriteFault = search rules in
    let holds = g.T.Taker.holds c.args.taker.now of in
    let p = subst (λ (r : Result FileEnd Stop). EndsPieces (TakesAll holds flow.out flow.out_now) (StopsTaking holds (g.T.Taker.says of) flow.out flow.out_now) limit flow.file flow.file_now r) read any in
    ends_stopped (g.T.Taker.says of) limit flow.file flow.file_now flow.out flow.out_now p.0 p.2 p.1
