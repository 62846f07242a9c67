-- What the proof of `spelling::spell` needs.
use Rattle.std.proofs.Common.{◌≡◌, length, List, subst, refl, ap, sym, ◌∙◌}
use Rattle.tick_units.specs.declared.marks.Mark.{Mark}
use Rattle.civil_minute.specs.Dates.{weekday_of}
use Rattle.civil_minute.specs.Seconds.{civil_of}
use Rattle.civil_frame.specs.Seconds.{local_second}
use Rattle.plan_dcf.specs.Fields.{hours_ahead}
use Rattle.plan_dcf.specs.Spelling.{frame_of, spelt, Agrees}
use Rattle.plan_dcf.proofs.RoundTrip.{IsFrameOf, Agrees-whole, round_trip}
use Rattle.plan_dcf.proofs.spelling.spell.Goals as goal

second_is : (c : goal.After-write_to) → c.local_second-local.result ≡ local_second hours_ahead c.args.c.now
second_is c = c.local_second-local.ensures ∙ rw c.hours_ahead.ensures.value refl

weekday_is : (c : goal.After-write_to) → c.from.result ≡ weekday_of (local_second hours_ahead c.args.c.now)
weekday_is c = c.from.ensures ∙ c.weekday.ensures ∙ ap weekday_of (second_is c)

-- the symbols that are written
spelt_is : (c : goal.After-write_to) → c.frame_of.result ≡ spelt c.args.c.now
unfolding spelt
spelt_is c =
    let civil = c.civil_at-civil.ensures.value ∙ ap civil_of (second_is c) in
    c.frame_of.ensures ∙ rw (civil, weekday_is c) refl

pub returns-clause-count : goal.returns-clause-count
returns-clause-count c = c.write_to.ensures.count ∙ ap length (spelt_is c)

pub returns-clause-written : goal.returns-clause-written
returns-clause-written c = rw (spelt_is c) at c.write_to.ensures.written

-- the parts of the law
is_frame : (c : goal.After-write_to) (marks : List Mark) → Agrees marks (frame_of c.args.c.now c.civil_at-civil.result c.from.result) → IsFrameOf c.args.c.now c.civil_at-civil.result c.from.result marks
is_frame c marks agree =
    let century = rw (second_is c) at c.civil_at-civil.ensures.century in
    let years = century c.requires.minute.from c.requires.minute.below in
    record {
      spellable = c.requires;
      shows = rw (second_is c) at c.civil_at-civil.ensures.shows;
      from = years.0;
      below = years.1;
      weekday_is = weekday_is c;
      marks_agree = agree;
    }

-- the frame, by the calls of this function
frame_is : (c : goal.After-write_to) → spelt c.args.c.now ≡ frame_of c.args.c.now c.civil_at-civil.result c.from.result
frame_is c = sym (spelt_is c) ∙ c.frame_of.ensures

pub returns-clause-valid : goal.returns-clause-valid
returns-clause-valid c marks symbols spaced =
    let civil = c.civil_at-civil.result in
    round_trip c.args.c.now civil c.from.result marks (is_frame c marks (Agrees-whole c.args.c.now civil c.from.result marks (symbols ∙ frame_is c) spaced))

pub returns-clause-read_back : goal.returns-clause-read_back
returns-clause-read_back c marks agree =
    let agrees = subst (λ symbols. Agrees marks symbols) (frame_is c) agree in
    round_trip c.args.c.now c.civil_at-civil.result c.from.result marks (is_frame c marks agrees)
