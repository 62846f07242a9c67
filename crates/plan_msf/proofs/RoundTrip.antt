-- A segment that has the symbols of a spelling, and valid spacing, is valid and says what was spelt.
use Rattle.std.proofs.Common.{◌≡◌, ℕ, ◌%◌, ◌<◌, ◌≤◌, Bool, true, None, List, length, get_or, refl, sym, ap, subst, ◌∙◌, arith}
use Rattle.std.proofs.lemmas.List.{length-map}
use Rattle.frame_rules.specs.Fields.{has_a, has_b, symbols_of}
use Rattle.frame_rules.specs.Rules.{are_spaced_to}
use Rattle.tick_units.specs.declared.marks.Mark.{Mark}
use Rattle.tick_units.specs.declared.marks.Symbol.TheVariants.{Zero}
use Rattle.tick_units.specs.declared.verdicts.Coded.{Coded}
use Rattle.civil_minute.specs.Dates.{weekday_of}
use Rattle.civil_minute.specs.Seconds.{Shows}
use Rattle.civil_minute.specs.declared.seconds.CivilMinute.{CivilMinute}
use Rattle.civil_minute.proofs.Bounds.{date_bounds}
use Rattle.frame_rules.proofs.Template.{template, symbols_of-template, is_set-template}
use Rattle.civil_frame.specs.Seconds.{local_second, minute_start}
use Rattle.civil_frame.proofs.Says.{HasNumbers, Says, local_start-said, minute_range, hour_range, day_range, weekday_range, month_range, year_range, date_kept, weekday_kept}
use Rattle.plan_msf.specs.Fields.{is_summer, hours_ahead, said, coded}
use Rattle.plan_msf.specs.Rules.{first}
use Rattle.plan_msf.specs.Spelling.{IsSpellable, frame_of, Agrees}
use Rattle.plan_msf.proofs.ReadBack.{HasBits, HasBits-spelt, HasBits-same, HasNumbers-spelt, said-same, IsReadAs, length-frame_of, has_odd_symbol-spelt}
use Rattle.plan_msf.proofs.Validity.{IsValid, first-valid}

-- what is known of a spelling's parts
pub record IsFrameOf (c : Coded) (civil : CivilMinute) (weekday : ℕ) (marks : List Mark) (close : ℕ) : Type 0 where
  pub spellable : IsSpellable c
  pub shows : Shows civil (local_second hours_ahead c)
  pub from : 2000 ≤ civil.year
  pub below : civil.year < 2100
  pub weekday_is : weekday ≡ weekday_of (local_second hours_ahead c) % 7
  pub marks_agree : Agrees marks close (frame_of c.summer civil weekday)

-- the marks are read as those that have just the frame's symbols
read_as : (c : Coded) (civil : CivilMinute) (weekday : ℕ) (marks : List Mark) (close : ℕ) → IsFrameOf c civil weekday marks close → IsReadAs marks (template (frame_of c.summer civil weekday))
read_as c civil weekday marks close h =
    let frame = frame_of c.summer civil weekday in
    record {
      bits_a = λ place from. h.marks_agree.bits_a place from ∙ sym (is_set-template has_a frame place);
      bits_b = λ place low high. h.marks_agree.bits_b place low high ∙ sym (is_set-template has_b frame place);
    }

bits_are : (c : Coded) (civil : CivilMinute) (weekday : ℕ) (marks : List Mark) (close : ℕ) → IsFrameOf c civil weekday marks close → HasBits c.summer marks
bits_are c civil weekday marks close h =
    let frame = template (frame_of c.summer civil weekday) in
    HasBits-same c.summer marks frame (read_as c civil weekday marks close h) (HasBits-spelt c.summer civil weekday frame (symbols_of-template (frame_of c.summer civil weekday)))

no_weekday-is : (marks : List Mark) → (said marks).no_weekday ≡ 7
unfolding said
no_weekday-is marks = refl

hours_ahead-is : (marks : List Mark) → (said marks).hours_ahead ≡ hours_ahead (is_summer marks)
unfolding said
hours_ahead-is marks = refl

numbers_of : (c : Coded) (civil : CivilMinute) (weekday : ℕ) (marks : List Mark) (close : ℕ) → IsFrameOf c civil weekday marks close → HasNumbers (said marks) civil weekday
numbers_of c civil weekday marks close h =
    let date = date_bounds civil.year civil.month civil.day h.shows.date in
    let frame = template (frame_of c.summer civil weekday) in
    let spelt = HasNumbers-spelt c.summer civil weekday frame (symbols_of-template (frame_of c.summer civil weekday)) h.shows.minute h.shows.hour (omega arith) (omega (arith, h.weekday_is)) (omega arith) in
    subst (λ s. HasNumbers s civil weekday) (sym (said-same marks frame (read_as c civil weekday marks close h))) spelt

-- the marks say the civil minute
says : (c : Coded) (civil : CivilMinute) (weekday : ℕ) (marks : List Mark) (close : ℕ) → IsFrameOf c civil weekday marks close → Says (said marks) civil weekday (local_second hours_ahead c)
says c civil weekday marks close h = record {
  shows = h.shows;
  whole = omega (arith, h.spellable.minute.whole);
  from = h.from;
  below = h.below;
  numbers = numbers_of c civil weekday marks close h;
  week = omega (arith, h.weekday_is);
  is_weekday = λ e. absurd (omega (arith, e, no_weekday-is marks, h.weekday_is));
}

minute_start_is : (c : Coded) (civil : CivilMinute) (weekday : ℕ) (marks : List Mark) (close : ℕ) → IsFrameOf c civil weekday marks close → minute_start (said marks) ≡ c.minute
unfolding minute_start
minute_start_is c civil weekday marks close h =
    let bits = bits_are c civil weekday marks close h in
    let start = local_start-said (said marks) civil weekday (local_second hours_ahead c) (says c civil weekday marks close h) in
    rw (start, hours_ahead-is marks, bits.summer_time) (omega arith)

pub coded-spelt : (c : Coded) (civil : CivilMinute) (weekday : ℕ) (marks : List Mark) (close : ℕ) → IsFrameOf c civil weekday marks close → coded marks ≡ c
unfolding coded
coded-spelt c civil weekday marks close h =
    let bits = bits_are c civil weekday marks close h in
    let minute = minute_start_is c civil weekday marks close h in
    rw (minute, bits.summer_time, ← h.spellable.leap) refl

pub IsValid-spelt : (c : Coded) (civil : CivilMinute) (weekday : ℕ) (marks : List Mark) (close : ℕ) → IsFrameOf c civil weekday marks close → IsValid marks close
IsValid-spelt c civil weekday marks close h =
    let bits = bits_are c civil weekday marks close h in
    let second = local_second hours_ahead c in
    let shown = says c civil weekday marks close h in
    let count : length marks ≡ 60 = h.marks_agree.shape.count ∙ length-frame_of c.summer civil weekday in
    record {
      spacing = rw h.marks_agree.shape.spacing refl;
      width = h.marks_agree.shape.width;
      length = rw count refl;
      identifier = rw bits.identifier refl;
      year_parity = bits.year;
      date_parity = bits.date;
      weekday_parity = bits.weekday;
      time_parity = bits.time;
      minute_range = minute_range (said marks) civil weekday second shown;
      hour_range = hour_range (said marks) civil weekday second shown;
      day_range = day_range (said marks) civil weekday second shown;
      weekday_range = weekday_range (said marks) civil weekday second shown;
      month_range = month_range (said marks) civil weekday second shown;
      year_range = year_range (said marks) civil weekday second shown;
      date = date_kept (said marks) civil weekday second shown;
      weekday = weekday_kept (said marks) civil weekday second shown;
    }

-- the round trip
pub round_trip : (c : Coded) (civil : CivilMinute) (weekday : ℕ) (marks : List Mark) (close : ℕ) → IsFrameOf c civil weekday marks close → (first marks close ≡ None) × (coded marks ≡ c)
round_trip c civil weekday marks close h =
    (first-valid marks close (IsValid-spelt c civil weekday marks close h), coded-spelt c civil weekday marks close h)

-- marks that have just the symbols of a frame
pub Agrees-whole : (summer : Bool) (civil : CivilMinute) (weekday : ℕ) (marks : List Mark) (close : ℕ) → symbols_of marks ≡ frame_of summer civil weekday → are_spaced_to marks close ≡ true → Agrees marks close (frame_of summer civil weekday)
Agrees-whole summer civil weekday marks close e spaced = record {
  shape = record { spacing = spaced; width = has_odd_symbol-spelt summer civil weekday marks e; count = sym (length-map marks (λ mark. mark.symbol)) ∙ ap length e };
  bits_a = λ place from. ap (λ symbols. has_a (get_or symbols place Zero)) e;
  bits_b = λ place low high. ap (λ symbols. has_b (get_or symbols place Zero)) e;
}
