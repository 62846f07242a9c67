-- A segment that has the symbols of a spelling, and valid spacing, is valid and says what was spelt.
use Rattle.std.proofs.Common.{◌≡◌, ℕ, ◌+◌, ◌/◌, ◌%◌, ◌<◌, ◌≤◌, inl, inr, Bool, true, false, not, ◌&&◌, ◌==◌, None, List, length, get_or, refl, sym, ap, subst, ◌∙◌, arith}
use Rattle.std.specs.Prelude.{if◌then◌else◌}
use Rattle.std.specs.Bool.{beq}
use Rattle.std.proofs.lemmas.List.{length-map}
use Rattle.std.proofs.lemmas.Bool.{cases_eq}
use Rattle.frame_rules.specs.Fields.{symbols_of}
use Rattle.frame_rules.specs.Rules.{starts_of, are_spaced}
use Rattle.tick_units.specs.declared.marks.Mark.{Mark}
use Rattle.tick_units.specs.declared.marks.Symbol.TheVariants.{Zero}
use Rattle.tick_units.specs.declared.verdicts.Coded.{Coded}
use Rattle.civil_minute.specs.Dates.{weekday_of, midnight_from}
use Rattle.civil_minute.specs.Months.{begins_month}
use Rattle.civil_minute.specs.Seconds.{Shows}
use Rattle.civil_minute.specs.declared.seconds.CivilMinute.{CivilMinute}
use Rattle.civil_minute.proofs.Bounds.{date_bounds, weekday_bounds}
use Rattle.civil_minute.proofs.MonthLemmas.{begins_month-midnight}
use Rattle.frame_rules.proofs.Meanings.{and_false, test_true, test_false}
use Rattle.frame_rules.proofs.Template.{template, symbols_of-template}
use Rattle.civil_frame.specs.CivilDates.{names_minute}
use Rattle.civil_frame.specs.Seconds.{local_second, minute_start}
use Rattle.civil_frame.proofs.Says.{HasNumbers, Says, local_start-said, minute_range, hour_range, day_range, weekday_range, month_range, year_range, date_kept, weekday_kept}
use Rattle.plan_dcf.specs.Fields.{is_summer, hours_ahead, said, leap_end, coded}
use Rattle.plan_dcf.specs.Rules.{is_leap_minute, first}
use Rattle.plan_dcf.specs.Spelling.{IsSpellable, frame_of, Agrees}
use Rattle.plan_dcf.proofs.ReadBack.{HasBits, HasBits-spelt, HasBits-same, HasNumbers-spelt, said-same, IsReadAs, length-frame_of, has_odd_symbol-spelt}
use Rattle.plan_dcf.proofs.Validity.{IsValid, first-valid}

-- what is known of a spelling's parts
pub record IsFrameOf (c : Coded) (civil : CivilMinute) (weekday : ℕ) (marks : List Mark) : Type 0 where
  pub spellable : IsSpellable c
  pub shows : Shows civil (local_second hours_ahead c)
  pub from : 2000 ≤ civil.year
  pub below : civil.year < 2100
  pub weekday_is : weekday ≡ weekday_of (local_second hours_ahead c)
  pub marks_agree : Agrees marks (frame_of c civil weekday)

-- ---- tests that hold or fail

same_equal : (b : Bool) → not (beq b b) ≡ false
same_equal true = refl
same_equal false = refl

apart : (b : Bool) → beq b (not b) ≡ false
apart true = refl
apart false = refl

-- a frame has 59 marks, or 60 where it is long
length_tests : (long : Bool) (n : ℕ) → n ≡ 59 + (if long then 1 else 0) → ((n == 60) ≡ long) × ((not (n == 59) && not (n == 60)) ≡ false)
length_tests true n e = rw e (refl, refl)
length_tests false n e = rw e (refl, refl)

-- ---- the leap second

hours_ahead_most : (summer : Bool) → hours_ahead summer ≤ 2
hours_ahead_most true = omega arith
hours_ahead_most false = omega arith

-- no minute that can be spelt is 0
minute_above : (c : Coded) → IsSpellable c → 0 < c.minute
minute_above c s = let ahead = hours_ahead_most c.summer in omega (arith, s.minute.from)

-- a leap second ends at the minute exactly where one is announced and the minute begins a month
leap_agrees : (c : Coded) → IsSpellable c → (not (c.leap_at == 0) && begins_month c.minute) ≡ (c.leap_at == c.minute)
leap_agrees c s =
    let above = minute_above c s in
    elim s.leap [
      | inl none ↦ rw (test_true c.leap_at 0 none, test_false c.leap_at c.minute (λ e. absurd (omega arith))) refl
      | inr at ↦ elim (cases_eq (c.minute % 86400) 0) [
        | inl midnight ↦
            let same : c.leap_at ≡ c.minute = omega (arith, at.0) in
            let begins : begins_month c.minute ≡ true = ap begins_month (sym same) ∙ at.1 in
            rw (test_false c.leap_at 0 (λ e. absurd (omega arith)), test_true c.leap_at c.minute same, begins) refl
        | inr between ↦
            let off = begins_month-midnight c.minute (test_false (c.minute % 86400) 0 between) in
            rw (test_false c.leap_at 0 (λ e. absurd (omega (arith, at.0))), test_false c.leap_at c.minute (λ e. absurd (omega (arith, at.0))), off) refl
      ]
    ]

leap_end_is : (c : Coded) → IsSpellable c → (if not (c.leap_at == 0) && begins_month (midnight_from c.minute) then midnight_from c.minute else 0) ≡ c.leap_at
leap_end_is c s =
    let above = minute_above c s in
    elim s.leap [
      | inl none ↦ rw (test_true c.leap_at 0 none) (sym none)
      | inr at ↦
          let begins : begins_month (midnight_from c.minute) ≡ true = ap begins_month (sym at.0) ∙ at.1 in
          rw (test_false c.leap_at 0 (λ e. absurd (omega (arith, at.0))), begins) (sym at.0)
    ]

-- ---- the frame as a whole

-- the marks are read as those that have just the frame's symbols
read_as : (c : Coded) (civil : CivilMinute) (weekday : ℕ) (marks : List Mark) → IsFrameOf c civil weekday marks → IsReadAs marks (template (frame_of c civil weekday))
read_as c civil weekday marks h place read =
    h.marks_agree.places place read ∙ ap (λ symbols. get_or symbols place Zero) (sym (symbols_of-template (frame_of c civil weekday)))

bits_are : (c : Coded) (civil : CivilMinute) (weekday : ℕ) (marks : List Mark) → IsFrameOf c civil weekday marks → HasBits c marks
bits_are c civil weekday marks h =
    let frame = template (frame_of c civil weekday) in
    HasBits-same c marks frame (read_as c civil weekday marks h) (HasBits-spelt c civil weekday frame (symbols_of-template (frame_of c civil weekday)))

no_weekday-is : (marks : List Mark) → (said marks).no_weekday ≡ 0
unfolding said
no_weekday-is marks = refl

hours_ahead-is : (marks : List Mark) → (said marks).hours_ahead ≡ hours_ahead (is_summer marks)
unfolding said
hours_ahead-is marks = refl

numbers_of : (c : Coded) (civil : CivilMinute) (weekday : ℕ) (marks : List Mark) → IsFrameOf c civil weekday marks → HasNumbers (said marks) civil weekday
numbers_of c civil weekday marks h =
    let date = date_bounds civil.year civil.month civil.day h.shows.date in
    let week = weekday_bounds (local_second hours_ahead c / 86400) in
    let frame = template (frame_of c civil weekday) in
    let spelt = HasNumbers-spelt c civil weekday frame (symbols_of-template (frame_of c civil weekday)) h.shows.minute h.shows.hour (omega arith) (omega (arith, h.weekday_is)) (omega arith) in
    subst (λ s. HasNumbers s civil weekday) (sym (said-same marks frame (read_as c civil weekday marks h))) spelt

-- the marks say the civil minute
says : (c : Coded) (civil : CivilMinute) (weekday : ℕ) (marks : List Mark) → IsFrameOf c civil weekday marks → Says (said marks) civil weekday (local_second hours_ahead c)
says c civil weekday marks h =
    let week = weekday_bounds (local_second hours_ahead c / 86400) in
    record {
      shows = h.shows;
      whole = omega (arith, h.spellable.minute.whole);
      from = h.from;
      below = h.below;
      numbers = numbers_of c civil weekday marks h;
      week = ap (λ d. d % 7) h.weekday_is;
      is_weekday = λ e. absurd (omega (arith, e, no_weekday-is marks, h.weekday_is));
    }

minute_start_is : (c : Coded) (civil : CivilMinute) (weekday : ℕ) (marks : List Mark) → IsFrameOf c civil weekday marks → minute_start (said marks) ≡ c.minute
unfolding minute_start
minute_start_is c civil weekday marks h =
    let bits = bits_are c civil weekday marks h in
    let start = local_start-said (said marks) civil weekday (local_second hours_ahead c) (says c civil weekday marks h) in
    rw (start, hours_ahead-is marks, bits.summer) (omega arith)

pub coded-spelt : (c : Coded) (civil : CivilMinute) (weekday : ℕ) (marks : List Mark) → IsFrameOf c civil weekday marks → coded marks ≡ c
unfolding coded
coded-spelt c civil weekday marks h =
    let bits = bits_are c civil weekday marks h in
    let minute = minute_start_is c civil weekday marks h in
    let leap : leap_end marks ≡ c.leap_at = rw (bits.leap, minute) (leap_end_is c h.spellable) in
    rw (leap, minute, bits.summer) refl

pub IsValid-spelt : (c : Coded) (civil : CivilMinute) (weekday : ℕ) (marks : List Mark) → IsFrameOf c civil weekday marks → IsValid marks
IsValid-spelt c civil weekday marks h =
    let bits = bits_are c civil weekday marks h in
    let second = local_second hours_ahead c in
    let shown = says c civil weekday marks h in
    let tests = length_tests (c.leap_at == c.minute) (length marks) (h.marks_agree.shape.count ∙ length-frame_of c civil weekday) in
    let leap : is_leap_minute marks ≡ (c.leap_at == c.minute) = rw (bits.leap, minute_start_is c civil weekday marks h) (leap_agrees c h.spellable) in
    record {
      spacing = rw h.marks_agree.shape.spacing refl;
      width = h.marks_agree.shape.width;
      length = tests.1;
      start_bit = bits.start;
      zone_bits = rw (bits.summer, bits.standard) (apart c.summer);
      time_bit = rw bits.time refl;
      minute_parity = bits.minute_parity;
      hour_parity = bits.hour_parity;
      date_parity = bits.date_parity;
      minute_range = minute_range (said marks) civil weekday second shown;
      hour_range = hour_range (said marks) civil weekday second shown;
      day_range = day_range (said marks) civil weekday second shown;
      weekday_range = weekday_range (said marks) civil weekday second shown;
      month_range = month_range (said marks) civil weekday second shown;
      year_range = year_range (said marks) civil weekday second shown;
      date = date_kept (said marks) civil weekday second shown;
      weekday = weekday_kept (said marks) civil weekday second shown;
      leap_minute = rw (tests.0, leap, same_equal (c.leap_at == c.minute), bits.last) (and_false (names_minute (said marks)));
    }

-- the round trip
pub round_trip : (c : Coded) (civil : CivilMinute) (weekday : ℕ) (marks : List Mark) → IsFrameOf c civil weekday marks → (first marks ≡ None) × (coded marks ≡ c)
round_trip c civil weekday marks h =
    (first-valid marks (IsValid-spelt c civil weekday marks h), coded-spelt c civil weekday marks h)

-- marks that have just the symbols of a frame
pub Agrees-whole : (c : Coded) (civil : CivilMinute) (weekday : ℕ) (marks : List Mark) → symbols_of marks ≡ frame_of c civil weekday → are_spaced (starts_of marks) ≡ true → Agrees marks (frame_of c civil weekday)
Agrees-whole c civil weekday marks e spaced = record {
  shape = record { spacing = spaced; width = has_odd_symbol-spelt c civil weekday marks e; count = sym (length-map marks (λ mark. mark.symbol)) ∙ ap length e };
  places = λ place read. ap (λ symbols. get_or symbols place Zero) e;
}
