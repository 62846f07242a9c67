use Rattle.std.proofs.Common.{◌≡◌, take}
use Rattle.page_cell.specs.Views.{with_stored}
use Rattle.page_cell.proofs.storing.store_words.Given as goal

abbrev pub invariant-loop-i : goal.invariant-loop-i
invariant-loop-i l = (l.token.table_id ≡ l.initial.token.table_id) × (l.token.me ≡ (with_stored (take l.i l.ten) l.initial.token.me.0, l.initial.token.me.1))
