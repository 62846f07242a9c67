-- What the search leaves open of `drill::text::write_feeds`.
use Rattle.std.proofs.Common.{ℕ, List, [], ◌++◌, subst, sym}
use Rattle.std.specs.Prelude.{Result, Ok, Err, OnOk}
use Rattle.std.proofs.lemmas.List.{append-nil}
use Rattle.page_cell.specs.Claims.{of_feed}
use Rattle.station_report.specs.Drilling.{feed_line}
use Rattle.outside_traits.specs.Writing.{WritesAll}
use Rattle.outside_traits.proofs.WritingLaws.{prefix_of_both, on_err, on_err_by, writes_prefix, writes_more}
use Rattle.station_report.proofs.drill_text.write_feeds.Goals as goal

on_ok_by : {T E P Q : Type 0} (r : Result T E) → (P → Q) → OnOk r P → OnOk r Q
on_ok_by (Ok value) f h = f h
on_ok_by (Err error) f h = tt

pub returns-in_err-write_feed-clause-err : goal.returns-in_err-write_feed-clause-err
returns-in_err-write_feed-clause-err g c =
    let line : ℕ → List ℕ = λ feed. feed_line feed (of_feed feed c.args.journal.now.entries) in
    on_err c.from_residual.result (prefix_of_both (g.K.Sink.state c.args.out.now) (g.K.Sink.state c.write_feed.new.out) (line 0) (line 1 ++ (line 2 ++ [])) c.in_err-write_feed.ensures.err)

pub returns-in_err-write_feed-2-clause-err : goal.returns-in_err-write_feed-2-clause-err
returns-in_err-write_feed-2-clause-err g c =
    let line : ℕ → List ℕ = λ feed. feed_line feed (of_feed feed c.args.journal.now.entries) in
    let begun = g.K.Sink.state c.args.out.now in
    let one = g.K.Sink.state c.write_feed.new.out in
    let two = g.K.Sink.state c.write_feed-2.new.out in
    on_err c.from_residual-in_err-write_feed-2.result
    (writes_prefix begun one two (line 0) (line 1 ++ (line 2 ++ [])) c.in_ok-write_feed.ensures.ok (prefix_of_both one two (line 1) (line 2 ++ []) c.in_err-write_feed-2.ensures.err))

pub returns-clause-ok : goal.returns-clause-ok
returns-clause-ok g c =
    let line : ℕ → List ℕ = λ feed. feed_line feed (of_feed feed c.args.journal.now.entries) in
    let begun = g.K.Sink.state c.args.out.now in
    let one = g.K.Sink.state c.write_feed.new.out in
    let two = g.K.Sink.state c.write_feed-2.new.out in
    let three = g.K.Sink.state c.write_feed-3.new.out in
    on_ok_by c.write_feed-3.result
    (λ all. writes_more begun one three (line 0) (line 1 ++ (line 2 ++ [])) c.in_ok-write_feed.ensures.ok
    (writes_more one two three (line 1) (line 2 ++ []) c.in_ok-write_feed-2.ensures.ok (subst (λ (t : List ℕ). WritesAll two three t) (sym (append-nil (line 2))) all)))
    c.write_feed-3.ensures.ok

pub returns-clause-err : goal.returns-clause-err
returns-clause-err g c =
    let line : ℕ → List ℕ = λ feed. feed_line feed (of_feed feed c.args.journal.now.entries) in
    let begun = g.K.Sink.state c.args.out.now in
    let one = g.K.Sink.state c.write_feed.new.out in
    let two = g.K.Sink.state c.write_feed-2.new.out in
    let three = g.K.Sink.state c.write_feed-3.new.out in
    on_err_by c.write_feed-3.result
    (λ prefix. writes_prefix begun one three (line 0) (line 1 ++ (line 2 ++ [])) c.in_ok-write_feed.ensures.ok
    (writes_prefix one two three (line 1) (line 2 ++ []) c.in_ok-write_feed-2.ensures.ok (prefix_of_both two three (line 2) [] prefix)))
    c.write_feed-3.ensures.err
