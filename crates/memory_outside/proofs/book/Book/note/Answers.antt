-- What the search leaves open of `book::Book::note`.
use Rattle.memory_outside.proofs.BookRows.{AreRows-push, note_push, note_full}
use Rattle.memory_outside.specs.Seen.{event_seen}
use Rattle.memory_outside.proofs.book.Book.note.Goals as goal

pub invariant_of-self-else-not-note_row : goal.invariant_of-self-else-not-note_row
invariant_of-self-else-not-note_row c =
    let e = c.if-not-note_row.ensures in
    (AreRows-push c.self.inside.bytes.items c.note_row.new.bytes.items c.self.inside.rows.items c.note_row.new.rows.items (event_seen c.args.event.now) c.self.invariant.0 e.bytes e.rows, e.bytes_capacity, e.rows_capacity)

pub returns-then-not-note_row : goal.returns-then-not-note_row
returns-then-not-note_row c =
    let e = c.if-not-note_row.ensures in
    rw (← c.self.view_is) (note_full c.self.inside.reports c.self.inside.bytes.items c.self.inside.rows.items _ (event_seen c.args.event.now) c.self.invariant.0 e.full)

pub returns-else-not-note_row : goal.returns-else-not-note_row
returns-else-not-note_row c =
    let e = c.if-not-note_row.ensures in
    rw (← c.self.view_is) (note_push c.self.inside.reports c.self.inside.bytes.items c.note_row.new.bytes.items c.self.inside.rows.items c.note_row.new.rows.items _ (event_seen c.args.event.now) c.self.invariant.0 e.bytes e.rows)
