-- Scaffolding: the bytes of a reply as it is kept.
use Rattle.std.specs.Prelude.{◌≡◌, ℕ, ◌==◌, List, length, if◌then◌else◌}
use Rattle.sealed_reply.specs.declared.reply.Packet.{Packet}
use Rattle.sealed_reply.specs.declared.reply.Packet.TheVariants.{Plain, Sealed}

abbrev pub bytes_of : Packet → List ℕ
bytes_of (Plain bytes) = bytes
bytes_of (Sealed bytes) = bytes

abbrev pub IsPacket : Packet → Type 0
IsPacket (Plain bytes) = length bytes ≡ 48
IsPacket (Sealed bytes) = length bytes ≡ 68

-- the packet of these bytes
abbrev pub packet_of : List ℕ → Packet
packet_of bytes = if length bytes == 48 then Plain bytes else Sealed bytes

-- the same bytes are those of that packet
pub packet_back : (packet : Packet) → IsPacket packet → packet_of (bytes_of packet) ≡ packet
packet_back (Plain bytes) long = λ i. (if long i == 48 then Plain bytes else Sealed bytes)
packet_back (Sealed bytes) long = λ i. (if long i == 48 then Plain bytes else Sealed bytes)
