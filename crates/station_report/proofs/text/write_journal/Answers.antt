-- What the search leaves open of `serve::text::write_journal`.
use Rattle.std.proofs.Common.{◌≡◌, ℕ, ◌<◌, Some, List, ap, arith, length, rules, subst, sym, ◌∙◌}
use Rattle.std.specs.Prelude.{IsSome, slice_get}
use Rattle.std.specs.List.{flat_map}
use Rattle.verdict_journal.specs.Journals.{numbered_of}
use Rattle.outside_traits.specs.Writing.{WritesAll, WritesPrefix}
use Rattle.outside_traits.proofs.WritingLaws.{on_err}
use Rattle.station_report.proofs.EachLaws.{drop_got, none_later, some_at, written_all, written_prefix, written_more}
use Rattle.station_report.proofs.JournalTextLaws.{line_of, lines-length, lines-text}
use Rattle.station_report.proofs.text.write_journal.Goals as goal

pub unwrap-numbered-requires : goal.unwrap-numbered-requires
unwrap-numbered-requires g c =
    let j = c.args.journal.now in
    let lt : c.loop-place.place < length j.entries = search rules in
    let size = lines-length j.settings j.entries in
    subst IsSome (sym c.numbered.ensures) (some_at (numbered_of j.settings j.entries) c.loop-place.place (omega (arith, lt, size)))

pub returns-in_err-write_all-clause-err : goal.returns-in_err-write_all-clause-err
returns-in_err-write_all-clause-err g c =
    let j = c.args.journal.now in
    let at : slice_get (numbered_of j.settings j.entries) c.loop-place.place ≡ Some c.unwrap-numbered.result = sym c.numbered.ensures ∙ c.unwrap-numbered.ensures in
    on_err c.from_residual.result (subst (λ (t : List ℕ). WritesPrefix (g.K.Sink.state c.args.out.now) (g.K.Sink.state c.write_all.new.out) t) (lines-text j.settings j.entries)
    (written_prefix _ _ _ _ _ _ _ (ap (flat_map line_of) (drop_got (numbered_of j.settings j.entries) c.loop-place.place c.unwrap-numbered.result at)) c.loop-place.invariant
    (subst (λ (t : List ℕ). WritesPrefix (g.K.Sink.state c.loop-place.out) (g.K.Sink.state c.write_all.new.out) t) c.write_numbered_line-length.ensures.text c.in_err-write_all.ensures.err)))

pub loop-place-preserved : goal.loop-place-preserved
loop-place-preserved g c =
    let j = c.args.journal.now in
    let at : slice_get (numbered_of j.settings j.entries) c.loop-place.place ≡ Some c.unwrap-numbered.result = sym c.numbered.ensures ∙ c.unwrap-numbered.ensures in
    written_more _ _ _ _ _ _ _ (ap (flat_map line_of) (drop_got (numbered_of j.settings j.entries) c.loop-place.place c.unwrap-numbered.result at)) c.loop-place.invariant
    (subst (λ (t : List ℕ). WritesAll (g.K.Sink.state c.loop-place.out) (g.K.Sink.state c.write_all.new.out) t) c.write_numbered_line-length.ensures.text c.in_ok-write_all.ensures.ok)

pub returns-clause-ok : goal.returns-clause-ok
returns-clause-ok g c =
    let j = c.args.journal.now in
    let end : c.loop-place.place ≡ length j.entries = search rules in
    let size = lines-length j.settings j.entries in
    subst (λ (t : List ℕ). WritesAll (g.K.Sink.state c.args.out.now) (g.K.Sink.state c.loop-place.out) t) (lines-text j.settings j.entries)
    (written_all _ _ _ _ (ap (flat_map line_of) (none_later (numbered_of j.settings j.entries) c.loop-place.place (end ∙ sym size))) c.loop-place.invariant)
