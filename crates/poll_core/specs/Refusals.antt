-- Why an answer to a poll is refused: the on-wire checks of RFC 5905, section 8 and appendix A.5.1.1, as one table. Of the
-- rows whose condition holds the first counts; their order is this project's own choice.
use Rattle.std.specs.Prelude.{◌≡◌, ℕ, ◌+◌, ◌*◌, ◌==◌, ◌&&◌, ◌||◌, nat_lt, nat_le, Bool, false, not, Option, None, Some, is_none, unwrap_or, List, [], ◌∷◌, ◌++◌, length, map, find}
use Rattle.std.specs.List.{range_with_len}
use Rattle.std.specs.Option.{option_map}
use Rattle.tick_units.specs.declared.stamp.Stamp.{Stamp}
use Rattle.ntp_packet.specs.Layout.{fields}
use Rattle.ntp_packet.specs.Protocol.{latest_version, server_mode}
use Rattle.ntp_packet.specs.declared.header.Header.{Header}
use Rattle.outside_traits.specs.declared.outside.Address.{Address}
use Rattle.poll_core.specs.Formulas.{request_stamp}
use Rattle.poll_core.specs.declared.refusal.PollRefusal.{PollRefusal}
use Rattle.poll_core.specs.declared.refusal.PollRefusal.TheVariants.{Stranger, Short, NotAsked, Version, Mode, Bogus, Duplicate, Unsynchronised, ZeroStamp, Distance}

-- the number of a refusal in the table
abbrev pub code_of : PollRefusal → ℕ
code_of (Stranger from) = 1
code_of (Short length) = 2
code_of NotAsked = 3
code_of (Version version) = 4
code_of (Mode mode) = 5
code_of (Bogus origin asked) = 6
code_of (Duplicate transmit) = 7
code_of (Unsynchronised leap stratum) = 8
code_of ZeroStamp = 9
code_of (Distance root_delay root_disp) = 10

-- a row of the table: its condition, and what an answer is refused as where it holds
pub record Row : Type 0 where
  pub holds : Bool
  pub refusal : PollRefusal

abbrev pub row : Bool → PollRefusal → Row
row holds refusal = record { holds = holds; refusal = refusal }

abbrev pub is_same_address : Address → Address → Bool
is_same_address a b = a.ip == b.ip && a.port == b.port

abbrev pub is_last_accepted : Option Stamp → Stamp → Bool
is_last_accepted None transmit = false
is_last_accepted (Some accepted) transmit = accepted.0 == transmit.0

-- rows 1 to 3: the datagram itself, and whether a request is outstanding
abbrev pub datagram_rows : Address → Option ℕ → Address → List ℕ → List Row
datagram_rows server asked from bytes =
    row (not (is_same_address from server)) (Stranger from)
    ∷ row (nat_lt (length bytes) 48) (Short (length bytes))
    ∷ row (is_none asked) NotAsked
    ∷ []

-- rows 4 to 7: whether it is the answer to the request with this transmit timestamp
abbrev pub exchange_rows : Stamp → Option Stamp → Header → List Row
exchange_rows asked accepted h =
    row (h.version == 0 || nat_lt latest_version h.version) (Version h.version)
    ∷ row (not (h.mode == server_mode)) (Mode h.mode)
    ∷ row (not (h.origin.0 == asked.0)) (Bogus h.origin asked)
    ∷ row (is_last_accepted accepted h.transmit) (Duplicate h.transmit)
    ∷ []

-- rows 8 to 10: whether the server can be used. Half of its root delay and its root dispersion are together below 16 s, which is
-- 2^20 shorts.
abbrev pub server_rows : Header → List Row
server_rows h =
    row (h.leap == 3 || (h.stratum == 0 || nat_lt 15 h.stratum)) (Unsynchronised h.leap h.stratum)
    ∷ row (h.receive.0 == 0 || h.transmit.0 == 0) ZeroStamp
    ∷ row (nat_le (2 * 1048576) (h.root_delay.0 + 2 * h.root_disp.0)) (Distance h.root_delay h.root_disp)
    ∷ []

-- the table for a datagram, by the server, the outstanding request's moment, the last accepted answer's transmit timestamp, the
-- sender and the bytes. Where no request is outstanding, row 3 holds, and no row after it counts.
abbrev pub table : Address → Option ℕ → Option Stamp → Address → List ℕ → List Row
table server asked accepted from bytes =
    datagram_rows server asked from bytes ++ exchange_rows (request_stamp (unwrap_or asked 0)) accepted (fields bytes) ++ server_rows (fields bytes)

-- the refusal of the first row that holds
abbrev pub first_refusal : List Row → Option PollRefusal
first_refusal rows = option_map (λ row. row.refusal) (find (λ row. row.holds) rows)

-- the rows of every table are by number, so the first that holds has the least
abbrev pub TableIsByNumber : Type 0
TableIsByNumber = (server : Address) (asked : Option ℕ) (accepted : Option Stamp) (from : Address) (bytes : List ℕ) →
    map (λ row. code_of row.refusal) (table server asked accepted from bytes) ≡ range_with_len 1 10
