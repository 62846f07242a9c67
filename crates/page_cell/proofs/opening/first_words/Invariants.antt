use Rattle.std.proofs.Common.{◌≡◌, ℕ, ◌<◌, length}
use Rattle.std.specs.Prelude.{slice_index}
use Rattle.page_cell.specs.Rule.{bank_word}
use Rattle.page_cell.proofs.opening.first_words.Given as goal

abbrev pub invariant-loop-i : goal.invariant-loop-i
invariant-loop-i l = (length l.all ≡ 21) × (slice_index l.all 0 ≡ 0) × ((k : ℕ) → k < l.i → slice_index l.all (bank_word 0 k) ≡ slice_index l.ten k)
