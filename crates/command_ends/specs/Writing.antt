-- The result of writing a last text: the status that was due where all of it is written, else the status of a failed write.
use Rattle.std.specs.Prelude.{◌≡◌, ℕ, ◌⊎◌, List}
use Rattle.outside_traits.specs.States.{SinkState}
use Rattle.command_ends.specs.declared.ending.status.Status.{Status}
use Rattle.command_ends.specs.declared.ending.status.Status.TheVariants.{WriteFault}
use Rattle.outside_traits.specs.Writing.{WritesAll, WritesPrefix}

-- the text was written whole, and the answer is this status; or a write failed, and that is the answer
abbrev pub Answers : Status → Status → SinkState → SinkState → List ℕ → Type 0
Answers status result out out_now text =
    ((result ≡ status) × WritesAll out out_now text)
    ⊎ ((result ≡ WriteFault) × WritesPrefix out out_now text)
