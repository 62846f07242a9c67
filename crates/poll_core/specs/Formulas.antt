-- The request of a poll, and what an exchange says of the time (RFC 5905, section 8). The clock's own precision of 2^-20 s and
-- the bounds of the server's are this project's own choice. Moments are microseconds of the host's counter, and lengths are units
-- of 2^-32 s.
use Rattle.std.specs.Prelude.{ℕ, ◌+◌, ◌-◌, ◌*◌, ◌/◌, ◌%◌, ◌^◌, min, ℤ, pos, negsuc, ◌+ℤ◌, ◌-ℤ◌}
use Rattle.std.specs.Int.{int_max}
use Rattle.tick_units.specs.Units.{floor_div, local_span, phi}
use Rattle.tick_units.specs.declared.sample.Sample.{Sample}
use Rattle.tick_units.specs.declared.stamp.Stamp.{Stamp}
use Rattle.ntp_packet.specs.Protocol.{client_mode, latest_version, own_precision, own_precision_units}
use Rattle.ntp_packet.specs.declared.header.Header.{Header}
use Rattle.outside_traits.specs.declared.outside.Address.{Address}

-- the transmit timestamp of the request made at a moment
abbrev pub request_stamp : ℕ → Stamp
request_stamp moment = record { 0 = 2 ^ 63 + local_span moment }

-- a request of the latest version in a client's mode; its poll is 6
abbrev pub request_header : ℕ → Header
request_header moment = record {
  leap = 0;
  version = latest_version;
  mode = client_mode;
  stratum = 0;
  poll = pos 6;
  precision = own_precision;
  root_delay = record { 0 = 0 };
  root_disp = record { 0 = 0 };
  refid = 0;
  reference = record { 0 = 0 };
  origin = record { 0 = 0 };
  receive = record { 0 = 0 };
  transmit = request_stamp moment;
}

-- the one second with these low 32 bits among the 2^32 that begin at 2000-01-01 (section 6, on eras; `Unwraps` of civil_minute).
-- It is as far after that moment as its low bits are ahead of that moment's, modulo 2^32.
abbrev pub unwrapped_second : ℕ → ℕ
unwrapped_second low = 3155673600 + (low + (2 ^ 32 - 3155673600)) % 2 ^ 32

-- the span since 1900 of a timestamp: its second unwrapped, its fraction kept
abbrev pub span_of : Stamp → ℤ
span_of stamp = pos (unwrapped_second (stamp.0 / 2 ^ 32) * 2 ^ 32 + stamp.0 % 2 ^ 32)

-- the half of what both ways say, rounded down
abbrev pub offset_of : (sent received answered arrived : ℤ) → ℤ
offset_of sent received answered arrived = floor_div ((received -ℤ sent) +ℤ (answered -ℤ arrived)) 2

-- the round-trip delay, without the time that the server took, and at least the clock's own precision
abbrev pub delay_of : (sent received answered arrived : ℤ) → ℤ
delay_of sent received answered arrived = int_max ((arrived -ℤ sent) -ℤ (answered -ℤ received)) (pos own_precision_units)

-- 2^p s for the server's precision p, which counts as at least -32 and at most 4
abbrev pub precision_units : ℤ → ℕ
precision_units (pos p) = 2 ^ (32 + min p 4)
precision_units (negsuc p) = 2 ^ (31 - p)

-- both precisions, and the drift of the host's counter over this many microseconds
abbrev pub dispersion_of : ℤ → ℕ → ℤ
dispersion_of precision waited = pos (own_precision_units + precision_units precision + phi waited)

-- what a server's answer says that arrived at one moment, to the request made at another
abbrev pub sample_of : Address → (asked at : ℕ) → Header → Sample
sample_of server asked at h = record {
  offset = offset_of (pos (local_span asked)) (span_of h.receive) (span_of h.transmit) (pos (local_span at));
  delay = delay_of (pos (local_span asked)) (span_of h.receive) (span_of h.transmit) (pos (local_span at));
  dispersion = dispersion_of h.precision (at - asked);
  stratum = h.stratum;
  address = server.ip;
  root_delay = h.root_delay;
  root_disp = h.root_disp;
}
