-- The answers to segments, with one more segment, and by what a pairing keeps.
use Rattle.std.proofs.Common.{◌≡◌, ℕ, ◌+◌, ◌-◌, Bool, ◌&&◌, ◌||◌, eqb, leb, cond, Option, Some, None, Ok, Err, Result, List, [], ◌∷◌, ◌++◌, refl, ap, sym, ◌∙◌, arith}
use Rattle.std.specs.Prelude.{IfOk, IfErr}
use Rattle.std.specs.List.{last_or}
use Rattle.std.proofs.lemmas.Bool.Decides.{nat_tests}
use Rattle.std.proofs.lemmas.List.{append-nil}
use Rattle.minute_pair.specs.Segments.{Segment}
use Rattle.frame_rules.specs.Codes.{Code}
use Rattle.tick_units.specs.declared.verdicts.Broken.{Broken}
use Rattle.tick_units.specs.declared.verdicts.Coded.{Coded}
use Rattle.tick_units.specs.declared.verdicts.Heard.{Heard}
use Rattle.tick_units.specs.declared.verdicts.Kind.{Kind}
use Rattle.tick_units.specs.declared.verdicts.Kind.TheVariants.{Verdict, Differs}
use Rattle.minute_pair.specs.Answers.{judged, judged_by, is_apart, apart_of, agreed_leap, kind_of_both, kind_of_valid, kind_following, kind_alone, kind_after, answer_after, answers_after, answers_by}
use Rattle.minute_pair.specs.Pairing.{before_by_judged, before_of, before_of_closed, both_by, valid_by, judged_kind, answer_by}
use Rattle.frame_rules.proofs.AddingLaws.{last_push}
use Rattle.minute_pair.specs.declared.answers.Before.TheVariants.{Nothing}
use Rattle.minute_pair.specs.declared.answers.Closed.{Closed}

pub answers_push : (code : Code) (before : Option Segment) (segments : List Segment) (segment : Segment) →
    answers_after code before (segments ++ segment ∷ []) ≡ answers_after code before segments ++ answer_after code (last_or before segments) segment ∷ []
answers_push code before [] segment = refl
answers_push code before (x ∷ xs) segment = ap (λ more. answer_after code before x ∷ more) (answers_push code (Some x) xs segment)

-- the answers to segments are the first answers to any longer list of them
pub answers_grow : (code : Code) (before : Option Segment) (segments more : List Segment) →
    answers_after code before (segments ++ more) ≡ answers_after code before segments ++ answers_after code (last_or before segments) more
answers_grow code before [] more = refl
answers_grow code before (x ∷ xs) more = ap (λ rest. answer_after code before x ∷ rest) (answers_grow code (Some x) xs more)

-- a minute later, without a sum that might not fit
follows_test : (was is : ℕ) → (leb 60 is && eqb (is - 60) was) ≡ eqb is (was + 60)
follows_test was is = grind (arith, nat_tests)

both_is : (code : Code) (before now : Segment) (closed : Closed) (was is : Coded) → closed.close ≡ now.close → closed.has_leap ≡ code.has_leap_second now.marks → both_by before.close was closed is ≡ kind_of_both code before now was is
both_is code before now closed was is close leap =
    ap (λ (n : ℕ). chosen (leb 60 is.minute && eqb (is.minute - 60) was.minute) closed.has_leap (n - before.close)) close
    ∙ ap (λ (b : Bool). chosen b closed.has_leap (apart_of before now)) (follows_test was.minute is.minute)
    ∙ ap (λ (b : Bool). chosen (eqb is.minute (was.minute + 60)) b (apart_of before now)) leap
  where
    chosen : Bool → Bool → ℕ → Kind
    chosen follows leap apart = cond (follows && (is_apart 60 apart || (leap && is_apart 61 apart))) (Verdict is.minute (agreed_leap was.leap_at is.leap_at)) (Differs was.minute is.minute apart)

valid_is : (code : Code) (before now : Segment) (closed : Closed) (said : Result Coded Broken) (is : Coded) → closed.close ≡ now.close → closed.has_leap ≡ code.has_leap_second now.marks →
    valid_by (before_by_judged before.close said) closed is ≡ kind_of_valid code before said now is
valid_is code before now closed (Ok was) is close leap = both_is code before now closed was is close leap
valid_is code before now closed (Err broken) is close leap = refl

after_is : (code : Code) (before now : Segment) (closed : Closed) (said : Result Coded Broken) → closed.close ≡ now.close → closed.has_leap ≡ code.has_leap_second now.marks →
    judged_kind (before_by_judged before.close (judged code before)) closed said ≡ kind_following code before now said
after_is code before now closed (Ok is) close leap = valid_is code before now closed (judged code before) is close leap
after_is code before now closed (Err broken) close leap = refl

alone_is : (closed : Closed) (said : Result Coded Broken) → judged_kind Nothing closed said ≡ kind_alone said
alone_is closed (Ok is) = refl
alone_is closed (Err broken) = refl

-- the answer by what is kept is that by the segment before
pub answer_is : (code : Code) (before : Option Segment) (now : Segment) (closed : Closed) → closed.close ≡ now.close → closed.judged ≡ judged code now → closed.has_leap ≡ code.has_leap_second now.marks →
    answer_by (before_of code before) closed ≡ kind_after code before now
answer_is code None now closed close says leap = ap (λ (said : Result Coded Broken). judged_kind Nothing closed said) says ∙ alone_is closed (judged code now)
answer_is code (Some before) now closed close says leap =
    ap (λ (said : Result Coded Broken). judged_kind (before_by_judged before.close (judged code before)) closed said) says ∙ after_is code before now closed (judged code now) close leap

abbrev answer_at : ℕ → Kind → Heard
answer_at at kind = record { at = at; kind = kind }

-- the answers with the one to a segment that closed
pub answers_closed : (code : Code) (segments longer : List Segment) (now : Segment) (closed : Closed) (kind : Kind) → longer ≡ segments ++ now ∷ [] →
    closed.close ≡ now.close → closed.judged ≡ judged code now → closed.has_leap ≡ code.has_leap_second now.marks → kind ≡ answer_by (before_of code (last_or None segments)) closed →
    answers_by code longer ≡ answers_by code segments ++ answer_at closed.close kind ∷ []
answers_closed code segments longer now closed kind grows close says leap e =
    ap (answers_by code) grows ∙ answers_push code None segments now
    ∙ ap (λ (k : Kind). answers_by code segments ++ answer_at now.close k ∷ []) (sym (e ∙ answer_is code (last_or None segments) now closed close says leap))
    ∙ ap (λ (n : ℕ). answers_by code segments ++ answer_at n kind ∷ []) (sym close)

pub answers_same : (code : Code) (segments longer : List Segment) → longer ≡ segments → answers_by code longer ≡ answers_by code segments ++ []
answers_same code segments longer e = ap (answers_by code) e ∙ sym (append-nil (answers_by code segments))

-- what a plan's judge says is what the segment comes to
pub judged_is : (code : Code) (segment : Segment) (result : Result Coded Broken) →
    IfOk result (λ c. (code.first segment.marks segment.close ≡ None) × (c ≡ code.coded segment.marks)) → IfErr result (λ broken. code.first segment.marks segment.close ≡ Some broken.rule) → result ≡ judged code segment
judged_is code segment (Ok coded) ok err = ap Ok ok.1 ∙ sym (ap (λ o. judged_by o (code.coded segment.marks)) ok.0)
judged_is code segment (Err broken) ok err = sym (ap (λ o. judged_by o (code.coded segment.marks)) err)

-- what is kept of a segment that closed
pub before_closed : (code : Code) (segments longer : List Segment) (now : Segment) (closed : Closed) → longer ≡ segments ++ now ∷ [] → closed.close ≡ now.close → closed.judged ≡ judged code now →
    before_of_closed closed ≡ before_of code (last_or None longer)
before_closed code segments longer now closed grows close says =
    ap (λ (n : ℕ). before_by_judged n closed.judged) close
    ∙ ap (λ (said : Result Coded Broken). before_by_judged now.close said) says
    ∙ ap (before_of code) (sym (ap (λ (ss : List Segment). last_or None ss) grows ∙ last_push None segments now))
