-- Bounds on the parts of a sample.
use Rattle.std.proofs.Common.{ℕ, ◌*◌, ◌^◌, ◌<◌, ◌≤◌, ℤ, pos, negsuc, ◌+ℤ◌, ◌-ℤ◌, ◌≤ℤ◌, ◌<ℤ◌, arith}
use Rattle.std.proofs.lemmas.Int.{ints, clamps}
use Rattle.std.proofs.Math.Nat.{pow-le-pow_right}
use Rattle.tick_units.specs.Samples.{IsLength, IsValid}
use Rattle.tick_units.specs.Units.{floor_div, local_span}
use Rattle.tick_units.specs.declared.stamp.Stamp.{Stamp}
use Rattle.ntp_packet.specs.declared.header.Header.{Header}
use Rattle.outside_traits.specs.declared.outside.Address.{Address}
use Rattle.poll_core.specs.Formulas.{span_of, offset_of, delay_of, precision_units, sample_of}

pub power-most : (exponent most : ℕ) → exponent ≤ most → 2 ^ exponent ≤ 2 ^ most
power-most exponent most within = pow-le-pow_right (omega arith) within

precision-most : (precision : ℤ) → precision_units precision ≤ 2 ^ 36
precision-most (pos p) = power-most _ 36 (omega arith)
precision-most (negsuc p) = power-most _ 36 (omega arith)

half-is_length : (sum : ℤ) → pos 0 ≤ℤ sum → sum <ℤ pos (2 ^ 67) → IsLength (floor_div sum 2)
half-is_length (pos sum) least below = record { least = omega (arith, ints); below = omega (arith, ints) }
half-is_length (negsuc sum) least below = absurd (omega (arith, ints))

-- a timestamp stands for a span from the year 2000 to the year 2136
record IsInEra (span : ℤ) : Type 0 where
  least : pos (3155673600 * 2 ^ 32) ≤ℤ span
  below : span <ℤ pos (2 ^ 65)

span_of-is_in_era : (stamp : Stamp) → stamp.0 < 2 ^ 64 → IsInEra (span_of stamp)
span_of-is_in_era stamp below = record { least = grind arith; below = grind arith }

offset-is_length : (sent arrived : ℕ) (received answered : ℤ) → sent < 2 ^ 63 → arrived < 2 ^ 63 → IsInEra received → IsInEra answered → IsLength (offset_of (pos sent) received answered (pos arrived))
offset-is_length sent arrived received answered s a r t = half-is_length ((received -ℤ pos sent) +ℤ (answered -ℤ pos arrived)) (omega (arith, ints)) (omega (arith, ints))

delay-is_length : (sent arrived : ℕ) (received answered : ℤ) → arrived < 2 ^ 63 → IsInEra received → IsInEra answered → IsLength (delay_of (pos sent) received answered (pos arrived))
delay-is_length sent arrived received answered a r t = record { least = omega (arith, ints, clamps); below = omega (arith, ints, clamps) }

-- the sample of an exchange is valid, where its moments and its timestamps are in their ranges
pub sample_of-is_valid : (server : Address) (asked at : ℕ) (h : Header) → asked ≤ at → at < 2 ^ 50 → h.receive.0 < 2 ^ 64 → h.transmit.0 < 2 ^ 64 → IsValid (sample_of server asked at h)
sample_of-is_valid server asked at h after below receive transmit =
    let received = span_of-is_in_era h.receive receive in
    let answered = span_of-is_in_era h.transmit transmit in
    let precision = precision-most h.precision in
    let sent : local_span asked < 2 ^ 63 = omega arith in
    let arrived : local_span at < 2 ^ 63 = omega arith in
    record {
      offset = offset-is_length (local_span asked) (local_span at) (span_of h.receive) (span_of h.transmit) sent arrived received answered;
      delay = delay-is_length (local_span asked) (local_span at) (span_of h.receive) (span_of h.transmit) arrived received answered;
      dispersion = record { least = omega (arith, ints); below = omega (arith, ints) };
    }
