-- What the search leaves open of `book::Book::get`.
use Rattle.std.proofs.Common.{rules, ◌≡◌, ℕ, ◌+◌, ◌≤◌, List, Some, length, sym, ap, ◌∙◌, subst}
use Rattle.std.specs.Prelude.{slice_get}
use Rattle.memory_outside.specs.Book.{event_in}
use Rattle.memory_outside.proofs.BookRows.{row_within, event_some}
use Rattle.memory_outside.proofs.book.Book.get.Goals as goal

pub event-requires : goal.event-requires
event-requires c =
    let row = c.row_at.result.now in
    let there = subst (λ l. slice_get l c.args.place ≡ Some row) c.deref.ensures.value c.row_at.ensures in
    subst (λ (l : List ℕ). row.start + row.length ≤ length l) (sym c.deref-2.ensures.value)
    (row_within c.self.inside.bytes.items c.self.inside.rows.items c.args.place row c.self.invariant.0.has_bytes there)

pub returns : goal.returns
returns c =
    let row = c.row_at.result.now in
    let there = subst (λ l. slice_get l c.args.place ≡ Some row) c.deref.ensures.value c.row_at.ensures in
    let is = c.event.ensures ∙ ap (λ l. event_in l row) c.deref-2.ensures.value in
    rw (← c.self.view_is) (event_some c.self.inside.reports c.self.inside.bytes.items c.self.inside.rows.items c.args.place row _ (search rules) there is)
