-- When a link asks its server, and what the server's kiss codes change (RFC 5905, section 7.4). Moments and paces are in
-- microseconds.
use Rattle.std.specs.Prelude.{◌==◌, ◌||◌, ◌&&◌, ◌-◌, ◌*◌, ℕ, min, max, nat_lt, Bool, true, false, Option, None, Some, List, length, if◌then◌else◌}
use Rattle.ntp_packet.specs.Layout.{fields}
use Rattle.ntp_packet.specs.declared.header.Header.{Header}
use Rattle.tick_units.specs.declared.stamp.Stamp.{Stamp}
use Rattle.outside_traits.specs.declared.outside.Address.{Address}
use Rattle.service_links.specs.declared.pace.Pace.{Pace}
use Rattle.service_links.specs.declared.pace.Kiss.{Kiss}
use Rattle.service_links.specs.declared.pace.Kiss.TheVariants.{Slower, Never}
use Rattle.service_links.specs.declared.asking.Asking.{Asking}
use Rattle.service_links.specs.declared.asking.Request.{Request}

-- a `RATE` counts for four hours
abbrev pub raised_for : ℕ
raised_for = 14400000000

-- no `RATE` makes the pace slower than this
abbrev pub most_raised : ℕ
most_raised = 1024000000

-- the pace of a link that had none, after a `RATE`: the least interval between polls (RFC 5905, section 7.3)
abbrev pub least_raised : ℕ
least_raised = 16000000

-- the pace that a `RATE` asks for
abbrev pub doubled : ℕ → ℕ
doubled pace = max pace (min (if pace == 0 then least_raised else pace * 2) most_raised)

abbrev pub raised_or : Pace → ℕ → Option ℕ → ℕ
raised_or p moment None = p.given
raised_or p moment (Some at) = if nat_lt (moment - at) raised_for then p.raised else p.given

-- the microseconds between two requests, at this moment
abbrev pub pace_at : Pace → ℕ → ℕ
pace_at p moment = raised_or p moment p.raised_at

abbrev pub wait_after : Pace → ℕ → Option ℕ → ℕ
wait_after p moment None = 0
wait_after p moment (Some asked) = if p.free == 0 then pace_at p moment - (moment - asked) else 0

-- for how long the next request has to wait, at this moment
abbrev pub wait_at : Pace → ℕ → ℕ
wait_at p moment = wait_after p moment p.asked

-- a pace given in seconds, before the first request; four requests need not wait
abbrev pub new_pace : ℕ → Pace
new_pace seconds = record { given = seconds * 1000000; raised = 0; raised_at = None; free = 4; asked = None }

-- what a new link on this port keeps: one of port 0 asks a server
abbrev pub new_asking : ℕ → ℕ → Option Asking
new_asking port seconds = if port == 0 then Some (record { pace = new_pace seconds; request = None }) else None

-- after a request
abbrev pub asked_at : Pace → ℕ → Pace
asked_at p moment = record p { free = p.free - 1; asked = Some moment }

-- after a `RATE`
abbrev pub slowed_at : Pace → ℕ → Pace
slowed_at p moment = record p { raised = doubled (pace_at p moment); raised_at = Some moment; free = 0 }

-- the reference IDs of the kiss codes: `RATE`, `DENY` and `RSTR`
abbrev pub kiss_by : ℕ → Option Kiss
kiss_by refid = if refid == 1380013125 then Some Slower else if refid == 1145392729 || refid == 1381192786 then Some Never else None

abbrev pub kiss_with : Header → Stamp → Option Kiss
kiss_with h asked = if h.mode == 4 && h.stratum == 0 && h.origin.0 == asked.0 then kiss_by h.refid else None

-- The kiss code of a server's datagram to the request with this transmit timestamp: its mode is 4, its stratum 0, and its origin
-- timestamp that of the request.
abbrev pub kiss_in : List ℕ → Stamp → Option Kiss
kiss_in bytes asked = if nat_lt (length bytes) 48 then None else kiss_with (fields bytes) asked

-- the request that bytes to a server are
abbrev pub request_in : Address → List ℕ → Option Request
request_in to bytes = if nat_lt (length bytes) 48 then None else Some (record { to = to; stamp = (fields bytes).transmit })

-- what a link to a server keeps after it has sent these bytes
abbrev pub sending : Asking → Address → List ℕ → Asking
sending asking to bytes = record asking { request = request_in to bytes }

-- the same of any link
abbrev pub noting : Option Asking → Address → List ℕ → Option Asking
noting None to bytes = None
noting (Some asking) to bytes = Some (sending asking to bytes)

abbrev pub is_from : Request → Address → Bool
is_from request from = from.ip == request.to.ip && from.port == request.to.port

abbrev pub received_kiss : Option Request → Address → List ℕ → Option Kiss
received_kiss None from bytes = None
received_kiss (Some request) from bytes = if is_from request from then kiss_in bytes request.stamp else None

-- the kiss code of a datagram from this sender, where it is the asked server and the code is for the last request
abbrev pub kiss_for : Asking → Address → List ℕ → Option Kiss
kiss_for asking from bytes = received_kiss asking.request from bytes

abbrev pub after_kiss : Asking → ℕ → Option Kiss → Asking
after_kiss asking moment None = asking
after_kiss asking moment (Some Slower) = record { pace = slowed_at asking.pace moment; request = None }
after_kiss asking moment (Some Never) = asking

abbrev pub is_never : Option Kiss → Bool
is_never None = false
is_never (Some Slower) = false
is_never (Some Never) = true

-- what a link keeps after a datagram that came at this moment
abbrev pub heeding : Option Asking → ℕ → Address → List ℕ → Option Asking
heeding None moment from bytes = None
heeding (Some asking) moment from bytes = Some (after_kiss asking moment (kiss_for asking from bytes))
