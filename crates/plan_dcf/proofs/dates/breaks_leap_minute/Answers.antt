-- What the proof of `dates::breaks_leap_minute` needs.
use Rattle.std.proofs.Common.{refl}
use Rattle.frame_rules.proofs.Meanings.{found_is, none_is}
use Rattle.civil_frame.specs.CivilDates.{names_minute}
use Rattle.civil_frame.specs.Seconds.{minute_start}
use Rattle.plan_dcf.specs.Fields.{said}
use Rattle.plan_dcf.proofs.NamedMinute.{breaks_leap_minute-named}
use Rattle.plan_dcf.proofs.dates.breaks_leap_minute.Goals as goal

pub returns-then-has_wrong_length : goal.returns-then-has_wrong_length
returns-then-has_wrong_length g c = λ marks h.
    let found = found_is (names_minute (said marks)) (minute_start (said marks)) c.in-Some.second (rw (c.requires.read marks h) at c.in-Some.ensures.value) in
    rw (breaks_leap_minute-named marks c.in-Some.second c.has_wrong_length.result found.0 found.1 (c.has_wrong_length.ensures marks h), c.if-has_wrong_length.true) refl

pub returns-else-has_wrong_length : goal.returns-else-has_wrong_length
returns-else-has_wrong_length g c = λ marks h.
    let found = found_is (names_minute (said marks)) (minute_start (said marks)) c.in-Some.second (rw (c.requires.read marks h) at c.in-Some.ensures.value) in
    rw (breaks_leap_minute-named marks c.in-Some.second c.has_wrong_length.result found.0 found.1 (c.has_wrong_length.ensures marks h), c.if-has_wrong_length.false, c.is_set.ensures marks h) refl

pub returns-in-None : goal.returns-in-None
returns-in-None g c = λ marks h.
    rw (none_is (names_minute (said marks)) (minute_start (said marks)) (rw (c.requires.read marks h) at c.in-None.ensures.value)) refl
