-- A made log of MSF can be written and is read back: a minute begins with a long mark.
use Rattle.std.proofs.Common.{◌≡◌, ℕ, ◌+◌, ◌%◌, ◌<◌, ◌≤◌, ◌==◌, ◌&&◌, Bool, true, false, List, length, inl, refl, ap, ◌∙◌, arith}
use Rattle.std.specs.Prelude.{nat_le}
use Rattle.std.proofs.lemmas.Bool.{lt-leb}
use Rattle.civil_minute.specs.Dates.{weekday_of}
use Rattle.civil_minute.specs.Seconds.{civil_of}
use Rattle.civil_minute.specs.declared.seconds.CivilMinute.{CivilMinute}
use Rattle.civil_frame.specs.Seconds.{local_second}
use Rattle.frame_rules.specs.Digits.{bit_symbol}
use Rattle.frame_rules.specs.Sendings.{damaged_if}
use Rattle.frame_rules.proofs.SentLaws.{FitsLog, ReadsBack, Shape, IsMinute, alone_bit, is_alone, read_of}
use Rattle.tick_units.specs.Marks.{is_long}
use Rattle.tick_units.specs.declared.marks.Mark.{Mark}
use Rattle.tick_units.specs.declared.marks.Reduction.{Reduction}
use Rattle.tick_units.specs.declared.marks.Symbol.{Symbol}
use Rattle.tick_units.specs.declared.marks.Symbol.TheVariants.{Zero, Long}
use Rattle.tick_units.specs.declared.verdicts.Coded.{Coded}
use Rattle.plan_msf.specs.Code.{msf_code}
use Rattle.plan_msf.specs.Fields.{coded, hours_ahead}
use Rattle.plan_msf.specs.Marks.{are_parts, is_short}
use Rattle.plan_msf.specs.Sending.{msf_sending}
use Rattle.plan_msf.specs.Spelling.{frame_of, spelt, with_b}
use Rattle.plan_msf.proofs.ReadBack.{length-frame_of}

-- ---- what is written

spelt_short : (c : Coded) → length (spelt c) ≤ 60
unfolding spelt
spelt_short c = omega (arith, length-frame_of c.summer (civil_of (local_second hours_ahead c)) (weekday_of (local_second hours_ahead c) % 7))

pub fits : FitsLog msf_sending
fits = record { widths = refl; minute = spelt_short; opening = omega arith; closing = omega arith }

-- ---- what is read of it

abbrev begins : Symbol → Bool
begins symbol = is_long (read_of msf_code msf_sending symbol)

abbrev shape : Shape
shape = record { marked = 60; gap = 1; begins = begins; ends = λ symbol. true; steps = λ before symbol. begins symbol }

and_off : (a : Bool) → (a && false) ≡ false
and_off true = refl
and_off false = refl

apart : (r next : Reduction) → r.at + 250000 < next.at → are_parts r next ≡ false
apart r next far =
    let late : nat_le next.at (r.at + 250000) ≡ false = lt-leb next.at (r.at + 250000) far in
    ap (λ b. (is_short r.width && is_short next.width) && (nat_le (r.at + 150000) next.at && b)) late
    ∙ ap (λ b. (is_short r.width && is_short next.width) && b) (and_off (nat_le (r.at + 150000) next.at))
    ∙ and_off (is_short r.width && is_short next.width)

read_bit : (bit : Bool) → begins (bit_symbol bit) ≡ false
read_bit true = refl
read_bit false = refl

read_with_b : (bit : Bool) → begins (with_b bit) ≡ false
read_with_b true = refl
read_with_b false = refl

alone_with_b : (bit : Bool) → is_alone (with_b bit) ≡ true
alone_with_b true = refl
alone_with_b false = refl

frame_minute : (damaged summer : Bool) (civil : CivilMinute) (weekday : ℕ) → IsMinute shape (damaged_if damaged (frame_of summer civil weekday))
unfolding frame_of
frame_minute true summer civil weekday = record {
  head = _;
  tail = _;
  is = refl;
  begins_it = refl;
  calm = simp (read_bit, read_with_b);
  ends_it = refl;
  alone = simp (alone_bit, alone_with_b);
  count = refl;
}
frame_minute false summer civil weekday = record {
  head = _;
  tail = _;
  is = refl;
  begins_it = refl;
  calm = simp (read_bit, read_with_b);
  ends_it = refl;
  alone = simp (alone_bit, alone_with_b);
  count = refl;
}

minute : (damaged : Bool) (c : Coded) → c.leap_at ≡ 0 → (c.leap_at == c.minute) ≡ false → IsMinute shape (damaged_if damaged (spelt c))
unfolding spelt
minute damaged c none e = frame_minute damaged c.summer (civil_of (local_second hours_ahead c)) (weekday_of (local_second hours_ahead c) % 7)

no_leap : (marks : List Mark) → (coded marks).leap_at ≡ 0
unfolding coded
no_leap marks = refl

pub reads : ReadsBack msf_code msf_sending
reads = record {
  shape = shape;
  most = omega arith;
  whole = refl;
  apart = apart;
  steps = λ at next a b near. refl;
  leads = λ at next last head from until e f. f;
  opening = inl (record { none = refl; begins = λ at head e. e });
  closing = record { head = Long; after = Zero; is = refl; begins_it = refl; head_alone = refl; after_alone = refl };
  minute = minute;
  no_leap = λ damaged c marks none same. no_leap marks;
}
