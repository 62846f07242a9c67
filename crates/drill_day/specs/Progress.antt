-- Scaffolding, which contracts use: how far a log is written.
use Rattle.std.specs.Prelude.{◌≡◌, ℕ, List, length}
use Rattle.outside_traits.specs.States.{SinkState}
use Rattle.tick_units.specs.declared.marks.Plan.{Plan}
use Rattle.drill_day.specs.Made.{number_from, reductions_of, text_of}
use Rattle.outside_traits.specs.Writing.{WritesAll, WritesPrefix}
use Rattle.drill_day.specs.declared.seconds.Second.{Second}
use Rattle.drill_day.specs.declared.writer.LogWriter.{LogWriter}

-- the text of these seconds
abbrev pub text_from : Plan → ℕ → List Second → List ℕ
text_from plan start seconds = text_of (reductions_of plan start seconds)

-- these seconds are written since the sink was in this state, with the numbers that come after `start`
pub record HasWritten (plan : Plan) (start : ℕ) (out : SinkState) (log : LogWriter) (out_now : SinkState) (seconds : List Second) : Type 0 where
  pub by : log.plan ≡ plan
  pub number : log.number ≡ number_from start (length seconds)
  pub lines : log.lines ≡ length (reductions_of plan start seconds)
  pub text : WritesAll out out_now (text_from plan start seconds)

-- a write failed: the sink holds a prefix of their text
abbrev pub HasStopped : Plan → ℕ → SinkState → SinkState → List Second → Type 0
HasStopped plan start out out_now seconds = WritesPrefix out out_now (text_from plan start seconds)
