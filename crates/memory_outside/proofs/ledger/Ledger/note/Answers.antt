-- What the search leaves open of `ledger::Ledger::note`.
use Rattle.memory_outside.proofs.Rows.{AreRows-push, reported_push, reported_full}
use Rattle.memory_outside.proofs.ledger.Ledger.note.Goals as goal

pub invariant_of-self : goal.invariant_of-self
invariant_of-self c =
    let e = c.if-not-note_row.ensures in
    (rw (e.rows_kept, e.names_kept) c.self.invariant.0, e.names_capacity, e.rows_capacity)

pub invariant_of-self-else-not-note_row : goal.invariant_of-self-else-not-note_row
invariant_of-self-else-not-note_row c =
    let e = c.if-not-note_row.ensures in
    (rw (e.rows, e.names) (AreRows-push c.self.inside.names.items c.args.name.now c.self.inside.rows.items c.args.port c.args.opened c.self.invariant.0 c.requires), e.names_capacity, e.rows_capacity)

pub returns-then-not-note_row : goal.returns-then-not-note_row
returns-then-not-note_row c =
    let e = c.if-not-note_row.ensures in
    rw (← c.self.view_is) (reported_full c.self.inside.reports c.self.inside.names.items c.args.name.now c.self.inside.rows.items _ c.args.port c.args.opened c.self.invariant.0 c.requires e.full)

pub returns-else-not-note_row : goal.returns-else-not-note_row
returns-else-not-note_row c =
    let e = c.if-not-note_row.ensures in
    rw (← c.self.view_is, e.rows, e.names) (reported_push c.self.inside.reports c.self.inside.names.items c.args.name.now c.self.inside.rows.items _ c.args.port c.args.opened c.self.invariant.0.has_names)
