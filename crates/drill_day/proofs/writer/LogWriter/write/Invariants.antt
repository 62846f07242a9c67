-- What stays true in the loop of `writer::LogWriter::write`.
use Rattle.std.proofs.Common.{◌≡◌, ℕ, ◌+◌, ◌*◌, ◌≤◌, List, ◌++◌, take}
use Rattle.outside_traits.specs.States.{SinkState}
use Rattle.tick_units.specs.declared.marks.Plan.{Plan}
use Rattle.drill_day.specs.Minutes.{seconds_from}
use Rattle.drill_day.specs.Progress.{HasWritten}
use Rattle.drill_day.specs.declared.seconds.Second.{Second}
use Rattle.drill_day.proofs.writer.LogWriter.write.Given as goal

-- the seconds so far are written, each index is one more than that before it, and there are at most two lines a second
abbrev pub invariant-loop-symbol : goal.invariant-loop-symbol
invariant-loop-symbol g l = (l.next ≡ l.fn.index + l.symbol-index)
    × (l.self.lines ≤ l.fn.self.lines + 2 * l.symbol-index)
    × ((plan : Plan) (start : ℕ) (begin : SinkState) (seconds : List Second)
    → HasWritten plan start begin l.fn.self (g.K.Sink.state l.fn.out) seconds
    → HasWritten plan start begin l.self (g.K.Sink.state l.out) (seconds ++ seconds_from l.fn.index (take l.symbol-index l.fn.symbols)))
