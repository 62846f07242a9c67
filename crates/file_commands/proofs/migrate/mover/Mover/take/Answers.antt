-- What the search leaves open of `migrate::mover::Mover::take`.
use Rattle.std.proofs.Common.{◌≡◌, ◌∙◌, ◌++◌, ◌∷◌, [], Some, None, length, refl, ap, sym, subst}
use Rattle.journal_entry.specs.Lines.{entry_of}
use Rattle.journal_entry.specs.Valid.{IsValid}
use Rattle.journal_entry.specs.declared.entry.Entry.{Entry}
use Rattle.file_commands.specs.Migrating.{entries_of}
use Rattle.file_commands.specs.Moving.{HasMoved, MoverFields}
use Rattle.file_commands.proofs.MovingLaws.{feeds_count, moves_on, number_is, refuses_place}
use Rattle.file_commands.proofs.migrate.mover.Mover.take.Goals as goal

pub step-requires-clause-valid : goal.step-requires-clause-valid
step-requires-clause-valid c =
    let valid = c.is_valid.ensures.0 c.if-not-is_valid.false in
    let feeds = feeds_count c.self.inside.fold c.self.inside.sources c.self.invariant in
    subst (λ (e : Entry). IsValid (length c.self.inside.fold.feeds) e) (c.entry.ensures ∙ sym c.entry-2.ensures) (subst (λ n. IsValid n c.entry.result.now) (sym feeds) valid)

pub returns-then-not-reports-clause-moves : goal.returns-then-not-reports-clause-moves
returns-then-not-reports-clause-moves c = λ settings before count room moved.
    let h = subst (λ (m : MoverFields). HasMoved m settings before None) (sym c.self.view_is) moved in
    let fold = c.step.ensures settings (entries_of before) (h.going refl).fold in
    let page = c.page-page.ensures settings (entries_of before ++ c.entry-2.result.now ∷ []) fold in
    let entry_same : c.entry-3.result.now ≡ c.entry-2.result.now = c.entry-3.ensures ∙ sym c.entry-2.ensures in
    let is = number_is settings before c.args.line.now c.args.number c.entry-2.result.now c.page-page.result c.numbered_by-numbered.result count c.entry-2.ensures page
    (c.numbered_by-numbered.ensures ∙ (λ i. record { length = c.args.number; rate = c.page-page.result.rate; entry = entry_same i })) in
    refuses_place settings before c.args.line.now c.args.number _ _ c.numbered_by-numbered.result c.reports.result h refl is c.reports.ensures.1 c.if-not-reports.true

pub returns-clause-moves : goal.returns-clause-moves
returns-clause-moves c = λ settings before count room moved.
    let h = subst (λ (m : MoverFields). HasMoved m settings before None) (sym c.self.view_is) moved in
    let going = h.going refl in
    let fold = c.step.ensures settings (entries_of before) going.fold in
    let page = c.page-page.ensures settings (entries_of before ++ c.entry-2.result.now ∷ []) fold in
    let entry_same : c.entry-3.result.now ≡ c.entry-2.result.now = c.entry-3.ensures ∙ sym c.entry-2.ensures in
    let is = number_is settings before c.args.line.now c.args.number c.entry-2.result.now c.page-page.result c.numbered_by-numbered.result count c.entry-2.ensures page
    (c.numbered_by-numbered.ensures ∙ (λ i. record { length = c.args.number; rate = c.page-page.result.rate; entry = entry_same i })) in
    let form = (c.has_form.ensures before (moved.going refl).form).0 c.if-not-has_form.false in
    let valid = subst (λ n. IsValid n (entry_of c.args.line.now)) going.sources (subst (λ (e : Entry). IsValid c.self.inside.sources e) c.entry.ensures (c.is_valid.ensures.0 c.if-not-is_valid.false)) in
    moves_on settings before c.args.line.now c.args.number _ c.entry-2.result.now c.numbered_by-numbered.result room form valid (c.reports.ensures.0 c.if-not-reports.false) is c.entry-2.ensures page fold (ap Some c.form.ensures) going.sources
