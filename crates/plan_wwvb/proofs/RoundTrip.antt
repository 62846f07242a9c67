-- A segment that has the symbols of a spelling, and valid spacing, is valid and says what was spelt.
use Rattle.std.proofs.Common.{◌≡◌, ℕ, ◌+◌, ◌-◌, ◌*◌, ◌/◌, ◌%◌, ◌<◌, ◌≤◌, inl, inr, Bool, true, false, not, ◌&&◌, ◌||◌, ◌==◌, nat_lt, None, List, [], ◌∷◌, length, get_or, refl, sym, ap, subst, ◌∙◌, arith}
use Rattle.std.proofs.lemmas.Bool.Decides.{nat_tests}
use Rattle.std.proofs.lemmas.List.{length-map}
use Rattle.std.specs.Prelude.{if◌then◌else◌}
use Rattle.std.specs.List.{list_any, range_with_len}
use Rattle.frame_rules.specs.Fields.{is_one, is_set, has_pattern, symbols_of}
use Rattle.tick_units.specs.Marks.{is_long}
use Rattle.frame_rules.specs.Rules.{are_spaced_to}
use Rattle.tick_units.specs.declared.marks.Mark.{Mark}
use Rattle.tick_units.specs.declared.marks.Symbol.TheVariants.{Zero}
use Rattle.tick_units.specs.declared.verdicts.Coded.{Coded}
use Rattle.civil_minute.specs.Dates.{day_number, second_of, year_length}
use Rattle.civil_minute.specs.Months.{begins_month, month_after}
use Rattle.civil_minute.specs.Seconds.{civil_of, day_of_year_of}
use Rattle.civil_minute.specs.declared.seconds.CivilMinute.{CivilMinute}
use Rattle.civil_minute.proofs.MonthEnds.{month_after-begun}
use Rattle.frame_rules.specs.Numbers.{both_digits}
use Rattle.frame_rules.proofs.Meanings.{is_out_of-within, and_false, test_true, test_false}
use Rattle.civil_frame.proofs.Says.{number_is, within, year_within, year_is}
use Rattle.frame_rules.proofs.Template.{template, symbols_of-template}
use Rattle.plan_wwvb.specs.Fields.{is_marker_place, said, day_of_year, sent_start, leap_end, coded}
use Rattle.plan_wwvb.specs.Rules.{has_stray_marker, names_minute, first}
use Rattle.plan_wwvb.specs.Spelling.{IsSpellable, sent_second, frame_of, is_free, Agrees}
use Rattle.plan_wwvb.proofs.ReadBack.{HasBits, HasBits-spelt, HasBits-same, HasNumbers, HasNumbers-spelt, said-same, IsReadAs, strays, none_at, length-frame_of, has_odd_symbol-spelt, plus-spelt}
use Rattle.plan_wwvb.proofs.Validity.{IsValid, first-valid}

-- what is known of a spelling's parts
pub record IsFrameOf (c : Coded) (civil : CivilMinute) (day : ℕ) (marks : List Mark) (close : ℕ) : Type 0 where
  pub spellable : IsSpellable c
  pub civil_is : civil ≡ civil_of (sent_second c)
  pub from : 2000 ≤ civil.year
  pub below : civil.year < 2100
  pub day_is : day ≡ day_of_year_of (sent_second c)
  pub least : 1 ≤ day
  pub most : day ≤ year_length civil.year
  pub marks_agree : Agrees marks close (frame_of (not (c.leap_at == 0)) civil day)

hour_is : (c : Coded) (civil : CivilMinute) (day : ℕ) (marks : List Mark) (close : ℕ) → IsFrameOf c civil day marks close → civil.hour ≡ sent_second c % 86400 / 3600
hour_is c civil day marks close h = ap (λ m. m.hour) h.civil_is

minute_is : (c : Coded) (civil : CivilMinute) (day : ℕ) (marks : List Mark) (close : ℕ) → IsFrameOf c civil day marks close → civil.minute ≡ sent_second c % 3600 / 60
minute_is c civil day marks close h = ap (λ m. m.minute) h.civil_is

year_length-most : (year : ℕ) → year_length year ≤ 366
year_length-most year = grind arith

-- the marks are read as those that have just the frame's symbols
read_as : (c : Coded) (civil : CivilMinute) (day : ℕ) (marks : List Mark) (close : ℕ) → IsFrameOf c civil day marks close → IsReadAs marks (template (frame_of (not (c.leap_at == 0)) civil day))
read_as c civil day marks close h place free =
    h.marks_agree.places place free ∙ ap (λ symbols. get_or symbols place Zero) (sym (symbols_of-template (frame_of (not (c.leap_at == 0)) civil day)))

bits_are : (c : Coded) (civil : CivilMinute) (day : ℕ) (marks : List Mark) (close : ℕ) → IsFrameOf c civil day marks close → HasBits (not (c.leap_at == 0)) marks
bits_are c civil day marks close h =
    let leap = not (c.leap_at == 0) in
    let frame = template (frame_of leap civil day) in
    HasBits-same leap marks frame (read_as c civil day marks close h) h.marks_agree.not_long (HasBits-spelt leap civil day frame (symbols_of-template (frame_of leap civil day)))

numbers_of : (c : Coded) (civil : CivilMinute) (day : ℕ) (marks : List Mark) (close : ℕ) → IsFrameOf c civil day marks close → HasNumbers (said marks) civil day
numbers_of c civil day marks close h =
    let leap = not (c.leap_at == 0) in
    let frame = template (frame_of leap civil day) in
    let hour = hour_is c civil day marks close h in
    let minute = minute_is c civil day marks close h in
    let spelt = HasNumbers-spelt leap civil day frame (symbols_of-template (frame_of leap civil day)) (omega arith) (omega arith) (omega (arith, h.most, year_length-most civil.year)) in
    subst (λ s. HasNumbers s civil day) (sym (said-same marks frame (read_as c civil day marks close h))) spelt

year_same : (c : Coded) (civil : CivilMinute) (day : ℕ) (marks : List Mark) (close : ℕ) → IsFrameOf c civil day marks close → 2000 + both_digits (said marks).year ≡ civil.year
year_same c civil day marks close h = year_is (said marks).year civil.year (numbers_of c civil day marks close h).year h.from h.below

day_same : (c : Coded) (civil : CivilMinute) (day : ℕ) (marks : List Mark) (close : ℕ) → IsFrameOf c civil day marks close → day_of_year (said marks) ≡ day
day_same c civil day marks close h =
    let numbers = numbers_of c civil day marks close h in
    omega (arith, numbers.hundreds, numbers.days.tens, numbers.days.ones)

sent_same : (y h n d year hour minute day : ℕ) → y ≡ year → h ≡ hour → n ≡ minute → d ≡ day → second_of y 1 1 h n + 86400 * (d - 1) ≡ second_of year 1 1 hour minute + 86400 * (day - 1)
sent_same y h n d year hour minute day e f g p = rw (e, f, g, p) refl

-- the place of a day in its year, as a difference of day numbers
day_place : (c : Coded) (civil : CivilMinute) (day : ℕ) (marks : List Mark) (close : ℕ) → IsFrameOf c civil day marks close → day ≡ sent_second c / 86400 + 1 - day_number civil.year 1 1
day_place c civil day marks close h = h.day_is ∙ ap (λ m. sent_second c / 86400 + 1 - day_number m.year 1 1) (sym h.civil_is)

sent_start_is : (c : Coded) (civil : CivilMinute) (day : ℕ) (marks : List Mark) (close : ℕ) → IsFrameOf c civil day marks close → sent_start (said marks) ≡ sent_second c
unfolding sent_start
sent_start_is c civil day marks close h =
    let numbers = numbers_of c civil day marks close h in
    let hour = hour_is c civil day marks close h in
    let minute = minute_is c civil day marks close h in
    let place = day_place c civil day marks close h in
    let whole : second_of civil.year 1 1 civil.hour civil.minute + 86400 * (day - 1) ≡ sent_second c = omega (arith, h.least, h.spellable.minute.whole, h.spellable.minute.from) in
    sent_same (2000 + both_digits (said marks).year) (both_digits (said marks).time.hour) (both_digits (said marks).time.minute) (day_of_year (said marks)) civil.year civil.hour civil.minute day (year_same c civil day marks close h) (number_is (said marks).time.hour civil.hour numbers.hour) (number_is (said marks).time.minute civil.minute numbers.minute) (day_same c civil day marks close h) ∙ whole

-- the leap second, in a frame that is sent at a second
leap_is : (c : Coded) → IsSpellable c → (if not (c.leap_at == 0) then month_after (sent_second c) else 0) ≡ c.leap_at
leap_is c s =
    elim s.leap [
      | inl none ↦ rw (test_true c.leap_at 0 none) (sym none)
      | inr at ↦ rw (test_false c.leap_at 0 (λ e. absurd (omega (arith, at.1)))) (sym at.0)
    ]

pub coded-spelt : (c : Coded) (civil : CivilMinute) (day : ℕ) (marks : List Mark) (close : ℕ) → IsFrameOf c civil day marks close → coded marks ≡ c
unfolding coded
coded-spelt c civil day marks close h =
    let bits = bits_are c civil day marks close h in
    let sent = sent_start_is c civil day marks close h in
    let minute : sent_start (said marks) + 60 ≡ c.minute = omega (arith, sent, h.spellable.minute.from) in
    let leap : leap_end marks ≡ c.leap_at = rw (bits.announced, sent) (leap_is c h.spellable) in
    rw (minute, leap, ← h.spellable.summer) refl

-- no leap second is announced in the last minute of a month
begins_not : (begins : Bool) (c : Coded) → IsSpellable c → c.leap_at ≡ month_after (sent_second c) → c.minute < c.leap_at → begins_month (sent_second c + 60) ≡ begins → begins_month (sent_second c + 60) ≡ false
begins_not false c s at after e = e
begins_not true c s at after e = absurd (omega (arith, month_after-begun (sent_second c) e, s.minute.from))

leap_minute_kept : (c : Coded) → IsSpellable c → (not (c.leap_at == 0) && begins_month (sent_second c + 60)) ≡ false
leap_minute_kept c s =
    elim s.leap [
      | inl none ↦ rw (test_true c.leap_at 0 none) refl
      | inr at ↦ rw (begins_not (begins_month (sent_second c + 60)) c s at.0 at.1 refl) (and_false (not (c.leap_at == 0)))
    ]

sign_kept : (plus minus : Bool) → (plus || minus) ≡ true → (not plus && not minus) ≡ false
sign_kept true minus e = refl
sign_kept false true e = refl
sign_kept false false e = absurd (cc)

no_stray : (marks : List Mark) → length marks ≡ 60 → list_any (strays marks) (range_with_len 0 60) ≡ false → has_stray_marker marks ≡ false
no_stray marks e h = rw e h

pub IsValid-spelt : (c : Coded) (civil : CivilMinute) (day : ℕ) (marks : List Mark) (close : ℕ) → IsFrameOf c civil day marks close → IsValid marks close
IsValid-spelt c civil day marks close h =
    let bits = bits_are c civil day marks close h in
    let numbers = numbers_of c civil day marks close h in
    let hour = hour_is c civil day marks close h in
    let minute = minute_is c civil day marks close h in
    let count : length marks ≡ 60 = h.marks_agree.shape.count ∙ length-frame_of (not (c.leap_at == 0)) civil day in
    let sent = sent_start_is c civil day marks close h in
    let year = year_same c civil day marks close h in
    let same = day_same c civil day marks close h in
    let length_is : year_length (2000 + both_digits (said marks).year) ≡ year_length civil.year = ap year_length year in
    let tens : nat_lt 90 (said marks).day.tens ≡ false = grind (arith, nat_tests, numbers.days.tens) in
    let days = is_out_of-within 1 (year_length (2000 + both_digits (said marks).year)) (said marks).day.ones (day_of_year (said marks)) (omega (arith, numbers.days.ones)) (omega (arith, same, h.least)) (omega (arith, same, h.most, length_is)) in
    record {
      spacing = rw h.marks_agree.shape.spacing refl;
      width = h.marks_agree.shape.width;
      length = rw count refl;
      markers = rw (bits.markers, no_stray marks count bits.no_strays) refl;
      reserved = bits.zeros;
      dut_sign = sign_kept (has_pattern is_one marks 36 (true ∷ false ∷ true ∷ [])) (has_pattern is_one marks 36 (false ∷ true ∷ false ∷ [])) h.marks_agree.sign;
      minute_range = within 0 59 (said marks).time.minute civil.minute numbers.minute (omega arith) (omega arith);
      hour_range = within 0 23 (said marks).time.hour civil.hour numbers.hour (omega arith) (omega arith);
      year_range = year_within (said marks).year civil.year numbers.year;
      day_of_year = rw (tens, days) refl;
      leap_minute = rw (bits.announced, sent, leap_minute_kept c h.spellable) (and_false (names_minute (said marks)));
    }

-- the round trip
pub round_trip : (c : Coded) (civil : CivilMinute) (day : ℕ) (marks : List Mark) (close : ℕ) → IsFrameOf c civil day marks close → (first marks close ≡ None) × (coded marks ≡ c)
round_trip c civil day marks close h =
    (first-valid marks close (IsValid-spelt c civil day marks close h), coded-spelt c civil day marks close h)

-- marks that have just the symbols of a frame
free_in : (place : ℕ) → is_free place ≡ true → (place < 60) × (is_marker_place place ≡ false)
free_in place e = (grind (arith, nat_tests), grind (arith, nat_tests))

not_stray : (long marker : Bool) → (long && not marker) ≡ false → marker ≡ false → long ≡ false
not_stray true marker e f = rw f at e
not_stray false marker e f = refl

pub Agrees-whole : (leap : Bool) (civil : CivilMinute) (day : ℕ) (marks : List Mark) (close : ℕ) → symbols_of marks ≡ frame_of leap civil day → are_spaced_to marks close ≡ true → Agrees marks close (frame_of leap civil day)
Agrees-whole leap civil day marks close e spaced =
    let bits = HasBits-spelt leap civil day marks e in
    record {
      shape = record { spacing = spaced; width = has_odd_symbol-spelt leap civil day marks e; count = sym (length-map marks (λ mark. mark.symbol)) ∙ ap length e };
      places = λ place free. ap (λ symbols. get_or symbols place Zero) e;
      not_long = λ place free. let within = free_in place free in not_stray (is_set is_long marks place) (is_marker_place place) (none_at (strays marks) 0 60 place bits.no_strays (omega arith) (omega (arith, within.0))) within.1;
      sign = rw (plus-spelt leap civil day marks e) refl;
    }
