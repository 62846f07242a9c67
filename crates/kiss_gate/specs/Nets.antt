-- Nets of IPv4 addresses as CIDR has them (RFC 4632): those that agree with an address in its first bits.
use Rattle.std.specs.Prelude.{ℕ, ◌-◌, ◌/◌, ◌^◌, ◌==◌, Bool, List, take}
use Rattle.std.specs.List.{list_any}
use Rattle.kiss_gate.specs.declared.nets.DenyList.{DenyList}
use Rattle.kiss_gate.specs.declared.nets.Net.{Net}

-- the first bits of an address, as a number
abbrev pub first_bits : ℕ → ℕ → ℕ
first_bits bits ip = ip / 2 ^ (32 - bits)

abbrev pub has_address : ℕ → Net → Bool
has_address ip net = first_bits net.bits ip == first_bits net.bits net.address

-- the nets of a list, in the order in which they were added
abbrev pub nets_of : DenyList → List Net
nets_of deny = take deny.count deny.nets

-- an address is in one of the nets
abbrev pub is_denied : ℕ → List Net → Bool
is_denied ip nets = list_any (has_address ip) nets
