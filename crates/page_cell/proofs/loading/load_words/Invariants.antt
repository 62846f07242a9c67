use Rattle.std.proofs.Common.{◌≡◌, take, length}
use Rattle.page_cell.specs.Views.{with_loaded}
use Rattle.page_cell.proofs.loading.load_words.Given as goal

abbrev pub invariant-loop-i : goal.invariant-loop-i
invariant-loop-i l = (l.token.table_id ≡ l.initial.token.table_id) × (length l.ten ≡ 10) × (l.token.me ≡ (with_loaded (take l.i l.ten) l.i l.initial.token.me.0, l.initial.token.me.1))
