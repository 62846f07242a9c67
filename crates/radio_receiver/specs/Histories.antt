-- What a receiver of longwave time signals answers to the reductions of the carrier. The code plans are those of PTB (DCF77), NPL
-- (MSF) and NIST (WWVB). The path delay, which is subtracted from each moment, is this project's own.
use Rattle.std.specs.Prelude.{ℕ, ◌+◌, ◌-◌, Bool, true, false, Option, None, Some, List, [], ◌∷◌, ◌++◌, map}
use Rattle.std.specs.List.{last_or}
use Rattle.second_marks.specs.Marks.{marks_of}
use Rattle.minute_pair.specs.Segments.{segments_of}
use Rattle.tick_units.specs.declared.marks.Plan.{Plan}
use Rattle.tick_units.specs.declared.marks.Reduction.{Reduction}
use Rattle.tick_units.specs.declared.verdicts.Heard.{Heard}
use Rattle.minute_pair.specs.Answers.{answers}

-- the code plan, the path delay in microseconds, and the reductions received so far
pub record History : Type 0 where
  pub plan : Plan
  pub delay : ℕ
  pub reductions : List Reduction

-- nothing was received, and no delay is known
abbrev pub blank_of : Plan → History
blank_of plan = record { plan = plan; delay = 0; reductions = [] }

abbrev pub with_reduction : History → Reduction → History
with_reduction h r = record { plan = h.plan; delay = h.delay; reductions = h.reductions ++ r ∷ [] }

abbrev pub with_delay : History → ℕ → History
with_delay h delay = record { plan = h.plan; delay = delay; reductions = h.reductions }

-- a signal leaves its sender earlier than it is received, by the path delay; no moment is below 0
abbrev pub sent : ℕ → Heard → Heard
sent delay heard = record { at = heard.at - delay; kind = heard.kind }

-- one answer to each segment of the marks, at the moment of its closing mark less the delay
abbrev pub answers_of : History → List Heard
answers_of h = map (sent h.delay) (answers h.plan (segments_of h.plan (marks_of h.plan h.reductions)))

abbrev pub is_blank : List Reduction → Bool
is_blank [] = true
is_blank (r ∷ more) = false

abbrev pub least_beyond : Option Reduction → ℕ
least_beyond None = 0
least_beyond (Some r) = r.at + 1

-- the least start that may come next where starts rise: above that of the last reduction, and 0 where there is none
abbrev pub least_after : List Reduction → ℕ
least_after reductions = least_beyond (last_or None reductions)
