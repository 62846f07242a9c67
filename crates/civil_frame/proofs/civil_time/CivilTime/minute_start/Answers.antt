-- What the proof of `civil_time::CivilTime::minute_start` needs.
use Rattle.std.proofs.Common.{◌≡◌, ◌%◌, refl, arith}
use Rattle.frame_rules.proofs.Meanings.{found_is}
use Rattle.civil_frame.specs.CivilDates.{names_minute}
use Rattle.civil_frame.specs.Seconds.{local_start, minute_start}
use Rattle.civil_frame.specs.declared.civil_time.CivilTime.{CivilTime}
use Rattle.civil_frame.proofs.civil_time.CivilTime.minute_start.Goals as goal

local_start-whole : (civil : CivilTime) → local_start civil % 60 ≡ 0
unfolding local_start
local_start-whole civil = omega arith

pub returns-in-Some-clause-value : goal.returns-in-Some-clause-value
unfolding minute_start
returns-in-Some-clause-value c =
    let civil = c.args.self.now in
    let found = found_is (names_minute civil) (local_start civil) c.in-Some.second c.in-Some.ensures.value in
    rw (found.0, found.1, c.from.ensures) refl

pub returns-in-Some-clause-whole : goal.returns-in-Some-clause-whole
returns-in-Some-clause-whole c =
    let civil = c.args.self.now in
    let found = found_is (names_minute civil) (local_start civil) c.in-Some.second c.in-Some.ensures.value in
    omega (arith, local_start-whole civil, found.1)
