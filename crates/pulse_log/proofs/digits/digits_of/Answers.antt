-- What the proof of `digits::digits_of` needs.
use Rattle.std.proofs.Common.{◌<◌, ◌∙◌, arith}
use Rattle.core.specs.Prelude.{bit_xor}
use Rattle.core.specs.Float.Numeral.{digits_len}
use Rattle.core.proofs.dec2flt.Eight.{lanes_are, all_digits, first_other, shifted_is}
use Rattle.core.proofs.slice.Flagged.{flags_from_ten}
use lib.Bits.{xor_lt}
use Rattle.pulse_log.proofs.FlagLaws.{before_exact, lane, lane_small, lanes_by_place, none_exact}
use Rattle.pulse_log.proofs.WordLaws.{are_digits}
use Rattle.pulse_log.proofs.digits.digits_of.Goals as goal

pub returns-then-others-eq0-clause-read : goal.returns-then-others-eq0-clause-read
returns-then-others-eq0-clause-read c bytes word =
    let eight = word.0 in
    let is = word.1 in
    let less = bit_xor c.args.word 0x3030_3030_3030_3030 in
    let lanes = lanes_are bytes _ eight is in
    let small = lane_small bytes eight.1 in
    let by = lanes_by_place bytes less eight.0 lanes in
    let exact = flags_from_ten less in
    let none = none_exact (lane bytes) _ _ (exact (lane bytes) small by) (c.flags_from_ten-others.ensures (lane bytes) small by) c.if-others-eq0.true in
    let count = all_digits bytes _ eight is _ exact none in
    let fits = xor_lt 64 c.args.word 0x3030_3030_3030_3030 c.ranges.word.fits (omega arith) in
    let s = shifted_is bytes 8 less eight (omega arith) (omega arith) (omega arith) in
    record { within = omega arith; digits = are_digits bytes 8 (omega arith); value = c.value_of_eight.ensures s.0 s.1 s.2 ∙ s.3 }

pub returns-clause-read : goal.returns-clause-read
returns-clause-read c bytes word =
    let eight = word.0 in
    let is = word.1 in
    let less = bit_xor c.args.word 0x3030_3030_3030_3030 in
    let lanes = lanes_are bytes _ eight is in
    let small = lane_small bytes eight.1 in
    let by = lanes_by_place bytes less eight.0 lanes in
    let exact = flags_from_ten less in
    let below = c.flags_from_ten-others.ensures (lane bytes) small by in
    let some : 0 < c.flags_from_ten-others.result = omega (arith, c.if-others-eq0.false) in
    let first = before_exact (lane bytes) _ _ (digits_len bytes) (exact (lane bytes) small by) below some (all_digits bytes _ eight is _ exact) (λ more. (first_other bytes _ eight is _ exact more).0) in
    let within = (below.before some).0 in
    let s = shifted_is bytes _ c.keep_first.result eight (omega arith) (omega arith) (c.keep_first.ensures ∙ rw (lanes_are bytes _ eight is)) in
    record { within = omega arith; digits = are_digits bytes _ (omega arith); value = c.value_of_eight-2.ensures s.0 s.1 s.2 ∙ s.3 }
