-- The answer to each segment of a log, from itself and the one just before it. That two frames in a row have to agree is this
-- project's own rule; the code plan defines what a frame says.
use Rattle.std.specs.Prelude.{ℕ, ◌+◌, ◌-◌, ◌*◌, Bool, ◌&&◌, ◌||◌, ◌==◌, nat_le, Option, None, Some, Result, Ok, Err, List, [], ◌∷◌, if◌then◌else◌}
use Rattle.minute_pair.specs.Segments.{Segment}
use Rattle.tick_units.specs.declared.marks.Plan.{Plan}
use Rattle.tick_units.specs.declared.verdicts.Broken.{Broken}
use Rattle.tick_units.specs.declared.verdicts.Coded.{Coded}
use Rattle.tick_units.specs.declared.verdicts.Heard.{Heard}
use Rattle.tick_units.specs.declared.verdicts.Kind.{Kind}
use Rattle.tick_units.specs.declared.verdicts.Kind.TheVariants.{Verdict, Lone, Differs, Refused}
use Rattle.frame_rules.specs.Codes.{Code}
use Rattle.code_plans.specs.Codes.{code_of}

-- the coded minute of a segment, or the least rule that it breaks
abbrev pub judged_by : Option ℕ → Coded → Result Coded Broken
judged_by None said = Ok said
judged_by (Some rule) said = Err (record { rule = rule })

abbrev pub judged : Code → Segment → Result Coded Broken
judged code segment = judged_by (code.first segment.marks segment.close) (code.coded segment.marks)

-- a distance in microseconds is this many seconds, within 100 ms either way
abbrev pub is_apart : ℕ → ℕ → Bool
is_apart seconds apart = nat_le (seconds * 1000000) (apart + 100000) && nat_le apart (seconds * 1000000 + 100000)

abbrev pub apart_of : Segment → Segment → ℕ
apart_of before now = now.close - before.close

-- two segments close a minute apart; one with a leap second may close a second later
abbrev pub are_timely : Code → Segment → Segment → Bool
are_timely code before now = is_apart 60 (apart_of before now) || (code.has_leap_second now.marks && is_apart 61 (apart_of before now))

-- the leap second that both announce, or 0
abbrev pub agreed_leap : ℕ → ℕ → ℕ
agreed_leap was is = if was == is then is else 0

-- a valid segment after a valid one: they agree, or they differ
abbrev pub kind_of_both : Code → Segment → Segment → Coded → Coded → Kind
kind_of_both code before now was is = if is.minute == was.minute + 60 && are_timely code before now
    then Verdict is.minute (agreed_leap was.leap_at is.leap_at)
    else Differs was.minute is.minute (apart_of before now)

-- the answer to a valid segment, by the judgement of the one before it
abbrev pub kind_of_valid : Code → Segment → Result Coded Broken → Segment → Coded → Kind
kind_of_valid code before (Err broken) now is = Lone is.minute
kind_of_valid code before (Ok was) now is = kind_of_both code before now was is

abbrev pub kind_following : Code → Segment → Segment → Result Coded Broken → Kind
kind_following code before now (Err broken) = Refused broken.rule
kind_following code before now (Ok is) = kind_of_valid code before (judged code before) now is

abbrev pub kind_alone : Result Coded Broken → Kind
kind_alone (Err broken) = Refused broken.rule
kind_alone (Ok is) = Lone is.minute

-- the answer to a segment, by the one just before it if there is one
abbrev pub kind_after : Code → Option Segment → Segment → Kind
kind_after code None now = kind_alone (judged code now)
kind_after code (Some before) now = kind_following code before now (judged code now)

abbrev pub answer_after : Code → Option Segment → Segment → Heard
answer_after code before now = record { at = now.close; kind = kind_after code before now }

-- the answers to segments, the first of which stands after this one
abbrev pub answers_after : Code → Option Segment → List Segment → List Heard
answers_after code before [] = []
answers_after code before (now ∷ more) = answer_after code before now ∷ answers_after code (Some now) more

-- one answer to each segment, in order
abbrev pub answers_by : Code → List Segment → List Heard
answers_by code segments = answers_after code None segments

abbrev pub answers : Plan → List Segment → List Heard
answers plan segments = answers_by (code_of plan) segments
