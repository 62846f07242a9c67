-- The header of an NTP packet on the wire (RFC 5905, section 7.3, figure 8): 48 bytes, each number's highest byte first.
use Rattle.std.specs.Prelude.{ℕ, ◌+◌, ◌*◌, ◌/◌, ◌%◌, ◌<◌, List, [], ◌∷◌, ◌++◌, slice_index}
use Rattle.std.specs.Int.{w8, cast_signed, cast_unsigned}
use Rattle.byteorder.specs.Endian.{big_bytes, big_from}
use Rattle.ntp_packet.specs.declared.header.Header.{Header}

-- the leap indicator has two bits, the version and the mode have three each
pub record IsHeader (h : Header) : Type 0 where
  pub leap : h.leap < 4
  pub version : h.version < 8
  pub mode : h.mode < 8

-- the 48 bytes of a header
unfoldable pub layout : Header → List ℕ
layout h =
    (h.leap * 64 + h.version * 8 + h.mode) ∷ h.stratum ∷ cast_unsigned w8 h.poll ∷ cast_unsigned w8 h.precision ∷ []
    ++ big_bytes 4 h.root_delay.0
    ++ big_bytes 4 h.root_disp.0
    ++ big_bytes 4 h.refid
    ++ big_bytes 8 h.reference.0
    ++ big_bytes 8 h.origin.0
    ++ big_bytes 8 h.receive.0
    ++ big_bytes 8 h.transmit.0

-- the fields that the first 48 bytes spell
unfoldable pub fields : List ℕ → Header
fields bytes = record {
  leap = slice_index bytes 0 / 64;
  version = slice_index bytes 0 / 8 % 8;
  mode = slice_index bytes 0 % 8;
  stratum = slice_index bytes 1;
  poll = cast_signed w8 (slice_index bytes 2);
  precision = cast_signed w8 (slice_index bytes 3);
  root_delay = record { 0 = big_from 4 4 bytes };
  root_disp = record { 0 = big_from 8 4 bytes };
  refid = big_from 12 4 bytes;
  reference = record { 0 = big_from 16 8 bytes };
  origin = record { 0 = big_from 24 8 bytes };
  receive = record { 0 = big_from 32 8 bytes };
  transmit = record { 0 = big_from 40 8 bytes };
}
