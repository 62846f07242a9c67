-- Scaffolding, which contracts use: the state of a pairing, by the marks that it has received; and its answer, by its state.
use Rattle.std.specs.Prelude.{◌≡◌, ℕ, ◌-◌, ◌&&◌, ◌||◌, ◌==◌, nat_le, Option, None, Some, Result, Ok, Err, List, if◌then◌else◌}
use Rattle.std.specs.List.{last_or}
use Rattle.frame_rules.specs.Codes.{Code}
use Rattle.plan_dcf.specs.Code.{dcf_code}
use Rattle.plan_msf.specs.Code.{msf_code}
use Rattle.plan_wwvb.specs.Code.{wwvb_code}
use Rattle.minute_pair.specs.Segments.{Segment, segments_by}
use Rattle.tick_units.specs.declared.marks.Mark.{Mark}
use Rattle.tick_units.specs.declared.marks.Plan.{Plan}
use Rattle.tick_units.specs.declared.marks.Plan.TheVariants.{Dcf, Msf, Wwvb}
use Rattle.tick_units.specs.declared.verdicts.Broken.{Broken}
use Rattle.tick_units.specs.declared.verdicts.Coded.{Coded}
use Rattle.tick_units.specs.declared.verdicts.Kind.{Kind}
use Rattle.tick_units.specs.declared.verdicts.Kind.TheVariants.{Verdict, Lone, Differs, Refused}
use Rattle.minute_pair.specs.Answers.{judged, is_apart, agreed_leap}
use Rattle.minute_pair.specs.Keeping.{HasKept}
use Rattle.minute_pair.specs.declared.answers.Before.{Before}
use Rattle.minute_pair.specs.declared.answers.Before.TheVariants.{Nothing, Valid}
use Rattle.minute_pair.specs.declared.answers.Closed.{Closed}
use Rattle.minute_pair.specs.declared.minutes.PairingOf.{PairingOf}
use Rattle.minute_pair.specs.declared.pairing.Pairing.{Pairing}
use Rattle.minute_pair.specs.declared.pairing.Pairing.TheVariants.{OfDcf, OfMsf, OfWwvb}

-- what is kept of a segment for the answer to the next
abbrev pub before_by_judged : ℕ → Result Coded Broken → Before
before_by_judged close (Ok coded) = Valid close coded
before_by_judged close (Err broken) = Nothing

abbrev pub before_of_closed : Closed → Before
before_of_closed closed = before_by_judged closed.close closed.judged

abbrev pub before_of : Code → Option Segment → Before
before_of code None = Nothing
before_of code (Some segment) = before_by_judged segment.close (judged code segment)

-- the answer by what is kept
abbrev pub both_by : ℕ → Coded → Closed → Coded → Kind
both_by before was closed is = if (nat_le 60 is.minute && (is.minute - 60 == was.minute)) && (is_apart 60 (closed.close - before) || (closed.has_leap && is_apart 61 (closed.close - before)))
    then Verdict is.minute (agreed_leap was.leap_at is.leap_at)
    else Differs was.minute is.minute (closed.close - before)

abbrev pub valid_by : Before → Closed → Coded → Kind
valid_by Nothing closed is = Lone is.minute
valid_by (Valid close was) closed is = both_by close was closed is

abbrev pub judged_kind : Before → Closed → Result Coded Broken → Kind
judged_kind before closed (Err broken) = Refused broken.rule
judged_kind before closed (Ok is) = valid_by before closed is

abbrev pub answer_by : Before → Closed → Kind
answer_by before closed = judged_kind before closed closed.judged

-- the pairing has received these marks, and keeps what it needs of their last segment
pub record HasPairedBy {C : Type 0} (code : Code) (p : PairingOf C) (marks : List Mark) : Type 0 where
  pub kept : HasKept code p marks
  pub before : p.before ≡ before_of code (last_or None (segments_by code marks))

-- the same of a pairing that is given its plan's name
abbrev pub HasPaired : Pairing → Plan → List Mark → Type 0
HasPaired (OfDcf p) plan marks = (plan ≡ Dcf) × HasPairedBy dcf_code p marks
HasPaired (OfMsf p) plan marks = (plan ≡ Msf) × HasPairedBy msf_code p marks
HasPaired (OfWwvb p) plan marks = (plan ≡ Wwvb) × HasPairedBy wwvb_code p marks
