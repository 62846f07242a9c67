-- The answer to a datagram (RFC 5905, appendix A.5.3.1, `fast_xmit`), from a page, the moment of arrival and that of sending.
-- Also the kiss-o'-death packet that a client gets in its place (section 7.4).
use Rattle.std.specs.Prelude.{ℕ, ◌-◌, ◌*◌, ◌+◌, Bool, true, false, ◌==◌, ◌||◌, not, nat_lt, List, length, Result, Ok, Err, pos, if◌then◌else◌}
use Rattle.std.specs.Result.{result_map_both}
use Rattle.tick_units.specs.Units.{phi, to_short}
use Rattle.ntp_packet.specs.Layout.{fields, layout}
use Rattle.ntp_packet.specs.Protocol.{client_mode, latest_version, own_precision, server_mode}
use Rattle.ntp_packet.specs.declared.header.Header.{Header}
use Rattle.clock_page.specs.Page.{PageFields, init_id, unknown_dispersion}
use Rattle.clock_page.specs.Times.{leap_is_near, synced_at, time_at}
use Rattle.reply_core.specs.declared.code.Code.{Code}
use Rattle.reply_core.specs.declared.code.Code.TheVariants.{Pass, Deny, Rate}
use Rattle.reply_core.specs.declared.dropped.Dropped.{Dropped}
use Rattle.reply_core.specs.declared.dropped.Dropped.TheVariants.{Short, Version, Mode}

-- the request in a datagram: its first 48 bytes, where their mode is a client's and their version is 1 to 4. Of several reasons
-- for a drop the first counts.
abbrev pub request_of : List ℕ → Result Header Dropped
request_of datagram = if nat_lt (length datagram) 48 then Err Short
    else if (fields datagram).version == 0 || nat_lt latest_version (fields datagram).version then Err Version
    else if not ((fields datagram).mode == client_mode) then Err Mode
    else Ok (fields datagram)

-- the root dispersion of a page, aged by the drift of the host's counter since the page was computed
abbrev pub root_disp_at : PageFields → ℕ → ℕ
root_disp_at p sent = to_short (pos (p.root_disp.0 * 65536 + phi (sent - p.anchor)))

-- the header of an answer that gives no time: not synchronised, of unknown dispersion, with a reference ID that says why
abbrev pub untimed : ℕ → PageFields → Header → ℕ → ℕ → Header
untimed refid p request arrived sent = record {
  leap = 3;
  version = request.version;
  mode = server_mode;
  stratum = 0;
  poll = request.poll;
  precision = own_precision;
  root_delay = record { 0 = 0 };
  root_disp = record { 0 = unknown_dispersion };
  refid = refid;
  reference = record { 0 = 0 };
  origin = request.transmit;
  receive = record { 0 = time_at p arrived };
  transmit = record { 0 = time_at p sent };
}

-- the header of the answer where the page is synchronised at the moment of sending, and where it is not
abbrev pub header_by : Bool → PageFields → Header → ℕ → ℕ → Header
header_by true p request arrived sent = record {
  leap = if leap_is_near p sent then 1 else 0;
  version = request.version;
  mode = server_mode;
  stratum = p.stratum;
  poll = request.poll;
  precision = own_precision;
  root_delay = p.root_delay;
  root_disp = record { 0 = root_disp_at p sent };
  refid = p.refid;
  reference = p.reftime;
  origin = request.transmit;
  receive = record { 0 = time_at p arrived };
  transmit = record { 0 = time_at p sent };
}
header_by false p request arrived sent = untimed init_id p request arrived sent

abbrev pub header_of : PageFields → Header → ℕ → ℕ → Header
header_of p request arrived sent = header_by (synced_at p sent) p request arrived sent

-- the letters of the two kiss codes as reference IDs, `DENY` and `RATE`
abbrev pub deny_id : ℕ
deny_id = 0x44454e59

abbrev pub rate_id : ℕ
rate_id = 0x52415445

-- the header of what a client gets by its code: the answer, or a kiss-o'-death packet, which never gives the time
abbrev pub header_for : Code → PageFields → Header → ℕ → ℕ → Header
header_for Pass p request arrived sent = header_of p request arrived sent
header_for Deny p request arrived sent = untimed deny_id p request arrived sent
header_for Rate p request arrived sent = untimed rate_id p request arrived sent

-- the 48 bytes that a client gets by its code, or why there are none; the code does not change that
abbrev pub answer_for : Code → PageFields → List ℕ → ℕ → ℕ → Result (List ℕ) Dropped
answer_for code p datagram arrived sent =
    result_map_both (λ request. layout (header_for code p request arrived sent)) (λ dropped. dropped) (request_of datagram)

-- the 48 bytes of the answer, or why there is none
abbrev pub answer : PageFields → List ℕ → ℕ → ℕ → Result (List ℕ) Dropped
answer p datagram arrived sent = answer_for Pass p datagram arrived sent
