-- A made log of DCF77 can be written and is read back: a minute begins after a second without a mark.
use Rattle.std.proofs.Common.{◌≡◌, ℕ, ◌+◌, ◌*◌, ◌≤◌, ◌==◌, Bool, true, false, not, List, [], ◌∷◌, length, map, inr, refl, ap, ◌∙◌, arith}
use Rattle.std.specs.Prelude.{nat_le, slice_index_or, if◌then◌else◌}
use Rattle.std.specs.List.{list_all}
use Rattle.std.proofs.lemmas.Bool.{le-leb, lt-leb}
use Rattle.civil_minute.specs.Dates.{weekday_of}
use Rattle.civil_minute.specs.Seconds.{civil_of}
use Rattle.civil_minute.specs.declared.seconds.CivilMinute.{CivilMinute}
use Rattle.civil_frame.specs.Seconds.{local_second}
use Rattle.frame_rules.specs.Digits.{bit_symbol}
use Rattle.frame_rules.specs.Fields.{is_one, symbols_of}
use Rattle.frame_rules.specs.Sendings.{damaged_if}
use Rattle.frame_rules.proofs.SentLaws.{FitsLog, ReadsBack, Shape, IsMinute, alone_bit, is_alone, is_calm, read_of, damaged_count}
use Rattle.tick_units.specs.Marks.{is_between}
use Rattle.tick_units.specs.declared.marks.Mark.{Mark}
use Rattle.tick_units.specs.declared.marks.Symbol.{Symbol}
use Rattle.tick_units.specs.declared.marks.Symbol.TheVariants.{Zero}
use Rattle.tick_units.specs.declared.verdicts.Coded.{Coded}
use Rattle.plan_dcf.specs.Code.{dcf_code}
use Rattle.plan_dcf.specs.Fields.{announces_leap, coded, hours_ahead}
use Rattle.plan_dcf.specs.Sending.{dcf_sending}
use Rattle.plan_dcf.specs.Spelling.{frame_of, spelt}
use Rattle.plan_dcf.proofs.ReadBack.{length-frame_of}

-- ---- what is written

one_or_none : (b : Bool) → (if b then 1 else 0) ≤ 1
one_or_none true = omega arith
one_or_none false = omega arith

spelt_short : (c : Coded) → length (spelt c) ≤ 60
unfolding spelt
spelt_short c = omega (arith, length-frame_of c (civil_of (local_second hours_ahead c)) (weekday_of (local_second hours_ahead c)), one_or_none (c.leap_at == c.minute))

pub fits : FitsLog dcf_sending
fits = record { widths = refl; minute = spelt_short; opening = omega arith; closing = omega arith }

-- ---- what is read of it

-- where a second is left out a minute begins, whatever the marks say
abbrev shape : Shape
shape = record { marked = 59; gap = 2; begins = λ symbol. true; ends = λ symbol. true; steps = λ before symbol. false }

-- a second later is too soon
soon : (at next : ℕ) → next ≤ at + 1002000 → is_between (at + 1900000) (at + 2100000) next ≡ false
soon at next near =
    let late : nat_le (at + 1900000) next ≡ false = lt-leb (at + 1900000) next (omega (arith, near)) in
    rw late refl

in_time : (at next : ℕ) → at + 2 * 1000000 ≤ next + 2000 → next ≤ at + 2 * 1000000 + 2000 → is_between (at + 1900000) (at + 2100000) next ≡ true
in_time at next from until =
    let early : nat_le (at + 1900000) next ≡ true = le-leb (at + 1900000) next (omega (arith, from)) in
    let late : nat_le next (at + 2100000) ≡ true = le-leb next (at + 2100000) (omega (arith, until)) in
    rw (early, late) refl

alone_last : (b : Bool) → list_all is_alone (if b then Zero ∷ [] else []) ≡ true
alone_last true = refl
alone_last false = refl

frame_alone : (damaged : Bool) (c : Coded) (civil : CivilMinute) (weekday : ℕ) → list_all is_alone (damaged_if damaged (frame_of c civil weekday)) ≡ true
unfolding frame_of
frame_alone true c civil weekday = simp (alone_bit, alone_last)
frame_alone false c civil weekday = simp (alone_bit, alone_last)

frame_begins : (damaged : Bool) (c : Coded) (civil : CivilMinute) (weekday : ℕ) → (tail : List Symbol) × (damaged_if damaged (frame_of c civil weekday) ≡ Zero ∷ tail)
unfolding frame_of
frame_begins true c civil weekday = (_, refl)
frame_begins false c civil weekday = (_, refl)

frame_calm : (before : Symbol) (more : List Symbol) → is_calm shape before more ≡ true
frame_calm before [] = refl
frame_calm before (symbol ∷ more) = frame_calm symbol more

frame_minute : (damaged : Bool) (c : Coded) (civil : CivilMinute) (weekday : ℕ) → (c.leap_at == c.minute) ≡ false → IsMinute shape (damaged_if damaged (frame_of c civil weekday))
frame_minute damaged c civil weekday e =
    let begins = frame_begins damaged c civil weekday in
    let one : length (frame_of c civil weekday) ≡ 59 = length-frame_of c civil weekday ∙ rw e refl in
    record {
      head = Zero;
      tail = begins.0;
      is = begins.1;
      begins_it = refl;
      calm = frame_calm Zero begins.0;
      ends_it = refl;
      alone = frame_alone damaged c civil weekday;
      count = damaged_count damaged (frame_of c civil weekday) ∙ one;
    }

minute : (damaged : Bool) (c : Coded) → c.leap_at ≡ 0 → (c.leap_at == c.minute) ≡ false → IsMinute shape (damaged_if damaged (spelt c))
unfolding spelt
minute damaged c none e = frame_minute damaged c (civil_of (local_second hours_ahead c)) (weekday_of (local_second hours_ahead c)) e

-- ---- no leap second

abbrev read_at : List Symbol → ℕ → Symbol
read_at symbols place = slice_index_or (map (read_of dcf_code dcf_sending) symbols) place Zero

one_bit : (bit : Bool) → bit ≡ false → is_one (read_of dcf_code dcf_sending (bit_symbol bit)) ≡ false
one_bit bit e = rw e refl

frame_leap : (damaged : Bool) (c : Coded) (civil : CivilMinute) (weekday : ℕ) → c.leap_at ≡ 0 → is_one (read_at (damaged_if damaged (frame_of c civil weekday)) 19) ≡ false
unfolding frame_of
frame_leap true c civil weekday e = one_bit (not (c.leap_at == 0)) (rw e refl)
frame_leap false c civil weekday e = one_bit (not (c.leap_at == 0)) (rw e refl)

coded_none : (marks : List Mark) → announces_leap marks ≡ false → (coded marks).leap_at ≡ 0
unfolding coded
coded_none marks e = rw e refl

no_leap : (damaged : Bool) (c : Coded) (marks : List Mark) → c.leap_at ≡ 0 → symbols_of marks ≡ map (read_of dcf_code dcf_sending) (damaged_if damaged (spelt c)) → (coded marks).leap_at ≡ 0
unfolding spelt
no_leap damaged c marks none same =
    coded_none marks (ap (λ (l : List Symbol). is_one (slice_index_or l 19 Zero)) same
    ∙ frame_leap damaged c (civil_of (local_second hours_ahead c)) (weekday_of (local_second hours_ahead c)) none)

pub reads : ReadsBack dcf_code dcf_sending
reads = record {
  shape = shape;
  most = omega arith;
  whole = refl;
  apart = λ r next far. refl;
  steps = λ at next a b near. soon at next near;
  leads = λ at next last head from until e f. in_time at next from until;
  opening = inr (record { last = Zero; one = refl; far = refl; alone = refl; ends_it = refl; calm = λ at. refl });
  closing = record { head = Zero; after = Zero; is = refl; begins_it = refl; head_alone = refl; after_alone = refl };
  minute = minute;
  no_leap = no_leap;
}
