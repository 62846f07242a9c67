-- What the proof of `spelling::spell` needs.
use Rattle.std.proofs.Common.{◌≡◌, ℕ, not, ◌==◌, ◌≤◌, length, List, subst, refl, sym, ap, ◌∙◌, arith}
use Rattle.tick_units.specs.declared.marks.Mark.{Mark}
use Rattle.civil_minute.specs.Dates.{year_length}
use Rattle.plan_wwvb.specs.Spelling.{frame_of, spelt, Agrees}
use Rattle.plan_wwvb.proofs.RoundTrip.{IsFrameOf, Agrees-whole, round_trip}
use Rattle.plan_wwvb.proofs.spelling.spell.Goals as goal

-- the symbols that are written
spelt_is : (c : goal.After-write_to) → c.frame_of.result ≡ spelt c.args.c.now
unfolding spelt
spelt_is c = c.frame_of.ensures ∙ rw (c.civil_at-civil.ensures.value, c.day_of_year.ensures.value) refl

pub returns-clause-count : goal.returns-clause-count
returns-clause-count c = c.write_to.ensures.count ∙ ap length (spelt_is c)

pub returns-clause-written : goal.returns-clause-written
returns-clause-written c = rw (spelt_is c) at c.write_to.ensures.written

-- the parts of the law
is_frame : (c : goal.After-write_to) (marks : List Mark) (close : ℕ) → Agrees marks close (frame_of (not (c.args.c.now.leap_at == 0)) c.civil_at-civil.result c.day_of_year.result) → IsFrameOf c.args.c.now c.civil_at-civil.result c.day_of_year.result marks close
is_frame c marks close agree =
    let years = c.civil_at-civil.ensures.century (omega (arith, c.requires.minute.from)) (omega (arith, c.requires.minute.below)) in
    record {
      spellable = c.requires;
      civil_is = c.civil_at-civil.ensures.value;
      from = years.0;
      below = years.1;
      day_is = c.day_of_year.ensures.value;
      least = c.day_of_year.ensures.least;
      most = subst (λ m. c.day_of_year.result ≤ year_length m.year) (sym c.civil_at-civil.ensures.value) c.day_of_year.ensures.most;
      marks_agree = agree;
    }

-- the frame, by the calls of this function
frame_is : (c : goal.After-write_to) → spelt c.args.c.now ≡ frame_of (not (c.args.c.now.leap_at == 0)) c.civil_at-civil.result c.day_of_year.result
frame_is c = sym (spelt_is c) ∙ c.frame_of.ensures

pub returns-clause-valid : goal.returns-clause-valid
returns-clause-valid c marks close symbols spaced =
    let civil = c.civil_at-civil.result in
    let day = c.day_of_year.result in
    round_trip c.args.c.now civil day marks close (is_frame c marks close (Agrees-whole (not (c.args.c.now.leap_at == 0)) civil day marks close (symbols ∙ frame_is c) spaced))

pub returns-clause-read_back : goal.returns-clause-read_back
returns-clause-read_back c marks close agree =
    let agrees = subst (λ symbols. Agrees marks close symbols) (frame_is c) agree in
    round_trip c.args.c.now c.civil_at-civil.result c.day_of_year.result marks close (is_frame c marks close agrees)
