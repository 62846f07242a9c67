-- A made log of WWVB can be written and is read back: a minute begins with the second of two markers.
use Rattle.std.proofs.Common.{◌≡◌, ℕ, ◌≤◌, ◌==◌, ◌&&◌, Bool, true, false, not, List, length, map, inr, refl, ap, ◌∙◌, arith}
use Rattle.std.specs.Prelude.{slice_index_or}
use Rattle.civil_minute.specs.Seconds.{civil_of, day_of_year_of}
use Rattle.civil_minute.specs.declared.seconds.CivilMinute.{CivilMinute}
use Rattle.frame_rules.specs.Digits.{bit_symbol}
use Rattle.frame_rules.specs.Fields.{is_one, symbols_of}
use Rattle.frame_rules.specs.Sendings.{damaged_if}
use Rattle.frame_rules.proofs.SentLaws.{FitsLog, ReadsBack, Shape, IsMinute, alone_bit, read_of}
use Rattle.tick_units.specs.Marks.{is_long}
use Rattle.tick_units.specs.declared.marks.Mark.{Mark}
use Rattle.tick_units.specs.declared.marks.Symbol.{Symbol}
use Rattle.tick_units.specs.declared.marks.Symbol.TheVariants.{Zero, Long}
use Rattle.tick_units.specs.declared.verdicts.Coded.{Coded}
use Rattle.plan_wwvb.specs.Code.{wwvb_code}
use Rattle.plan_wwvb.specs.Fields.{announces_leap, coded}
use Rattle.plan_wwvb.specs.Sending.{wwvb_sending}
use Rattle.plan_wwvb.specs.Spelling.{frame_of, sent_second, spelt}
use Rattle.plan_wwvb.proofs.ReadBack.{length-frame_of}

-- ---- what is written

spelt_short : (c : Coded) → length (spelt c) ≤ 60
unfolding spelt
spelt_short c = omega (arith, length-frame_of (not (c.leap_at == 0)) (civil_of (sent_second c)) (day_of_year_of (sent_second c)))

pub fits : FitsLog wwvb_sending
fits = record { widths = refl; minute = spelt_short; opening = omega arith; closing = omega arith }

-- ---- what is read of it

abbrev is_marker : Symbol → Bool
is_marker symbol = is_long (read_of wwvb_code wwvb_sending symbol)

abbrev shape : Shape
shape = record { marked = 60; gap = 1; begins = is_marker; ends = is_marker; steps = λ before symbol. is_marker before && is_marker symbol }

both : (a b : Bool) → a ≡ true → b ≡ true → (a && b) ≡ true
both a b e f = rw (e, f) refl

read_bit : (bit : Bool) → is_marker (bit_symbol bit) ≡ false
read_bit true = refl
read_bit false = refl

frame_minute : (damaged leap : Bool) (civil : CivilMinute) (day : ℕ) → IsMinute shape (damaged_if damaged (frame_of leap civil day))
unfolding frame_of
frame_minute true leap civil day = record {
  head = _;
  tail = _;
  is = refl;
  begins_it = refl;
  calm = simp read_bit;
  ends_it = refl;
  alone = simp alone_bit;
  count = refl;
}
frame_minute false leap civil day = record {
  head = _;
  tail = _;
  is = refl;
  begins_it = refl;
  calm = simp read_bit;
  ends_it = refl;
  alone = simp alone_bit;
  count = refl;
}

minute : (damaged : Bool) (c : Coded) → c.leap_at ≡ 0 → (c.leap_at == c.minute) ≡ false → IsMinute shape (damaged_if damaged (spelt c))
unfolding spelt
minute damaged c none e = frame_minute damaged (not (c.leap_at == 0)) (civil_of (sent_second c)) (day_of_year_of (sent_second c))

-- ---- no leap second

abbrev read_at : List Symbol → ℕ → Symbol
read_at symbols place = slice_index_or (map (read_of wwvb_code wwvb_sending) symbols) place Zero

one_bit : (bit : Bool) → bit ≡ false → is_one (read_of wwvb_code wwvb_sending (bit_symbol bit)) ≡ false
one_bit bit e = rw e refl

frame_leap : (damaged leap : Bool) (civil : CivilMinute) (day : ℕ) → leap ≡ false → is_one (read_at (damaged_if damaged (frame_of leap civil day)) 56) ≡ false
unfolding frame_of
frame_leap true leap civil day e = one_bit leap e
frame_leap false leap civil day e = one_bit leap e

coded_none : (marks : List Mark) → announces_leap marks ≡ false → (coded marks).leap_at ≡ 0
unfolding coded
coded_none marks e = rw e refl

no_leap : (damaged : Bool) (c : Coded) (marks : List Mark) → c.leap_at ≡ 0 → symbols_of marks ≡ map (read_of wwvb_code wwvb_sending) (damaged_if damaged (spelt c)) → (coded marks).leap_at ≡ 0
unfolding spelt
no_leap damaged c marks none same =
    let off : not (c.leap_at == 0) ≡ false = rw none refl in
    coded_none marks (ap (λ (l : List Symbol). is_one (slice_index_or l 56 Zero)) same
    ∙ frame_leap damaged (not (c.leap_at == 0)) (civil_of (sent_second c)) (day_of_year_of (sent_second c)) off)

pub reads : ReadsBack wwvb_code wwvb_sending
reads = record {
  shape = shape;
  most = omega arith;
  whole = refl;
  apart = λ r next far. refl;
  steps = λ at next a b near. refl;
  leads = λ at next last head from until e f. both (is_marker last) (is_marker head) e f;
  opening = inr (record { last = Long; one = refl; far = refl; alone = refl; ends_it = refl; calm = λ at. refl });
  closing = record { head = Long; after = Zero; is = refl; begins_it = refl; head_alone = refl; after_alone = refl };
  minute = minute;
  no_leap = no_leap;
}
