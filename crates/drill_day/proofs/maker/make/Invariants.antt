-- What stays true in the loop of `maker::make`.
use Rattle.std.proofs.Common.{◌+◌, ◌*◌, ◌≤◌}
use Rattle.drill_day.specs.Made.{seeded}
use Rattle.drill_day.specs.Minutes.{begun}
use Rattle.drill_day.specs.Progress.{HasWritten}
use Rattle.drill_day.proofs.maker.make.Given as goal

-- the minutes so far are written, with at most two lines a second
abbrev pub invariant-loop-minute : goal.invariant-loop-minute
invariant-loop-minute g l = HasWritten l.fn.plan (seeded l.fn.plan l.fn.seed) (g.K.Sink.state l.fn.out) l.log (g.K.Sink.state l.out) (begun l.fn.plan l.fn.first l.fn.seed l.minute)
    × (l.log.lines ≤ 122 + 122 * l.minute)
