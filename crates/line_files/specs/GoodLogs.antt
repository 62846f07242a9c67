-- A log without a fault. All of it is this project's own.
use Rattle.std.specs.Prelude.{◌≡◌, ℕ, ◌≤◌, IsSome, Some, None, List, length}
use Rattle.outside_traits.specs.Faults.{Rose}
use Rattle.outside_traits.specs.States.{SourceState}
use Rattle.tick_units.specs.Log.{bad_at_end}
use Rattle.radio_receiver.specs.Decoding.{most_of_a_log}

-- a log that has no fault, and that reported its bytes before and after
pub record IsGoodLog (opened back : SourceState) : Type 0 where
  pub text : List ℕ
  pub reported : opened.left ≡ Some text
  pub reports : IsSome back.left
  pub no_fault : Rose opened.faults back.faults → ⊥
  pub lines : bad_at_end text ≡ None
  pub most : length text ≤ most_of_a_log
