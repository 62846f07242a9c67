use Rattle.std.proofs.Common.{◌≡◌, ℕ, ◌<◌, ◌++◌, ◌∷◌, [], List}
use Rattle.page_cell.specs.Tries.{Tried}
use Rattle.page_cell.proofs.loading.try_four.Given as goal

abbrev pub invariant-loop-i : goal.invariant-loop-i
invariant-loop-i g l = record {
  own : l.token.table_id ≡ l.initial.token.table_id;
  slots : l.token.me.1 ≡ l.initial.token.me.1;
  tried : Tried l.i l.initial.token.me.0 l.token.me.0;
  last : 0 < l.i → (prefix : List (ℕ × ℕ)) × (l.token.me.0.watch.pairs ≡ prefix ++ l.last ∷ []);
}
