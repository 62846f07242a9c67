-- What an authentic packet carries after its header of 48 bytes (RFC 5905, section 7.3, figure 8). First comes the key's
-- identifier of 32 bits, its highest byte first, then the 16 bytes of the digest. The digest is MD5 (RFC 1321) of the key's
-- secret followed by the header.
use Rattle.std.specs.Prelude.{ℕ, ◌==◌, ◌&&◌, Bool, List, ◌++◌, length, take, drop, Option, Some, None, bytes_eq, if◌then◌else◌}
use Rattle.std.specs.List.{list_any}
use Rattle.byteorder.specs.Endian.{big_bytes, big_from}
use Rattle.md5.specs.Md5.{md5}
use Rattle.packet_auth.specs.Keys.{KeyFields, secret_of}

abbrev pub digest : List ℕ → List ℕ → List ℕ
digest secret header = md5 (secret ++ header)

-- the datagram names the key, and the digest that the key makes of its header stands after that
abbrev pub vouches : List ℕ → KeyFields → Bool
vouches datagram key = key.id == big_from 48 4 datagram && bytes_eq (digest key.secret (take 48 datagram)) (drop 52 datagram)

-- the identifier by which a datagram is authentic
abbrev pub authentic : List KeyFields → List ℕ → Option ℕ
authentic keys datagram = if length datagram == 68 && list_any (vouches datagram) keys then Some (big_from 48 4 datagram) else None

-- a header, then an identifier and the digest of its key
abbrev pub sealed : List KeyFields → ℕ → List ℕ → List ℕ
sealed keys id header = header ++ big_bytes 4 id ++ digest (secret_of id keys) header

-- a reply, which is sealed exactly where the request is authentic, and then by the key that the request names
abbrev pub sealed_by : List KeyFields → Option ℕ → List ℕ → List ℕ
sealed_by keys None header = header
sealed_by keys (Some id) header = sealed keys id header

abbrev pub sealed_like : List KeyFields → List ℕ → List ℕ → List ℕ
sealed_like keys request header = sealed_by keys (authentic keys request) header
