-- What a socket of datagrams gives and takes, and what a link makes of it. The rules of the calls are those of Rust's `recv_from`
-- and `send_to`: https://doc.rust-lang.org/std/net/struct.UdpSocket.html
use Rattle.std.specs.Prelude.{◌≡◌, ◌==◌, ◌<◌, ◌≤◌, ◌⊎◌, ℕ, max, min, ◌+◌, ◌-◌, ◌^◌, Bool, true, false, IsTrue, Option, None, Some, is_none, MatchOption, Result, MatchResult, List, [], ◌∷◌, ◌++◌, length, take, if◌then◌else◌}
use Rattle.std.specs.List.{list_all}
use Rattle.std.specs.IoError.{error_kind}
use Rattle.std.specs.declared.io.ErrorKind.{ErrorKind}
use Rattle.std.specs.declared.io.ErrorKind.TheVariants.{ConnectionRefused, ConnectionReset, HostUnreachable, InvalidInput, Interrupted, NetworkDown, NetworkUnreachable, PermissionDenied}
use Rattle.std.specs.declared.io.Error.{Error}
use Rattle.std.specs.Net.Addr.{ipv4_bits, IsIpv4OfBits}
use Rattle.std.specs.Net.Socket.{v4_ip, v4_port, socket_ip, socket_port}
use Rattle.std.specs.declared.net.ipv4_addr.Ipv4Addr.{Ipv4Addr}
use Rattle.std.specs.declared.net.ip_addr.IpAddr.TheVariants as Ip
use Rattle.std.specs.declared.net.socket_addr.SocketAddr.{SocketAddr}
use Rattle.std.specs.declared.net.socket_addr.SocketAddr.TheVariants.{V4, V6}
use Rattle.outside_traits.specs.States.{Adds}
use Rattle.outside_traits.specs.declared.outside.Address.{Address}
use Rattle.outside_traits.specs.declared.link.Hearing.{Hearing}
use Rattle.outside_traits.specs.declared.link.Hearing.TheVariants.{Datagram, Quiet, End}
use Rattle.host_links.specs.declared.udp.Received.{Received}
use Rattle.host_links.specs.declared.udp.Received.TheVariants.{Answerable, PassedOver, Nothing}

-- The host has no way for a datagram, or may not send it there: no route, a network that is down, a firewall, an address to which
-- nothing is sent. The datagram is then lost, as any may be.
abbrev pub is_lost : ErrorKind → Bool
is_lost HostUnreachable = true
is_lost NetworkUnreachable = true
is_lost NetworkDown = true
is_lost PermissionDenied = true
is_lost InvalidInput = true
is_lost _ = false

-- The host was interrupted, or speaks of an earlier datagram: the one in hand is sent again.
abbrev pub is_sent_again : ErrorKind → Bool
is_sent_again Interrupted = true
is_sent_again ConnectionRefused = true
is_sent_again ConnectionReset = true
is_sent_again _ = false

-- what one call of a socket did: it gave a datagram with its sender, or none; it took these bytes for a receiver, or none, for an
-- error of this kind
pub data Passed : Type 0 where
  Gave : SocketAddr → List ℕ → Passed
  GaveNone : Passed
  Took : SocketAddr → List ℕ → Passed
  TookNone : SocketAddr → ErrorKind → Passed

-- a call to receive
abbrev pub Receives : {E : Type 0} → Option (List Passed) → Option (List Passed) → Result (ℕ × SocketAddr) E → List ℕ → Type 0
Receives before now result piece = MatchResult result
    (λ r. Adds before now (Gave r.1 (take r.0 piece) ∷ []))
    (λ _. Adds before now (GaveNone ∷ []))

-- a call to transmit
abbrev pub Transmits : Option (List Passed) → Option (List Passed) → Result ℕ Error → SocketAddr → List ℕ → Type 0
Transmits before now result to bytes = MatchResult result
    (λ n. Adds before now (Took to (take n bytes) ∷ []))
    (λ e. Adds before now (TookNone to (error_kind e) ∷ []))

-- the sender, where it can be answered: it has an IPv4 address and a port
abbrev pub address_of : SocketAddr → Option Address
address_of (V4 from) = if v4_port from == 0 then None else Some (record { ip = ipv4_bits (v4_ip from); port = v4_port from })
address_of (V6 from) = None

-- the socket's address of a receiver
pub record IsFor (to : Address) (at : SocketAddr) : Type 0 where
  pub ip : Ipv4Addr
  pub bits : IsIpv4OfBits ip to.ip
  pub host : socket_ip at ≡ Ip.V4 ip
  pub port : socket_port at ≡ to.port

-- a call that gave nothing that can be answered
abbrev pub is_passed_over : Passed → Bool
is_passed_over (Gave from bytes) = is_none (address_of from)
is_passed_over GaveNone = true
is_passed_over (Took to bytes) = false
is_passed_over (TookNone to kind) = false

-- a call that took nothing, after which the datagram is sent again
abbrev pub is_in_vain : Passed → Bool
is_in_vain (Gave from bytes) = false
is_in_vain GaveNone = false
is_in_vain (Took to bytes) = false
is_in_vain (TookNone to kind) = is_sent_again kind

-- a number of calls that all pass the test
pub record Repeats (test : Passed → Bool) (before now : Option (List Passed)) : Type 0 where
  pub calls : List Passed
  pub all : IsTrue (list_all test calls)
  pub added : Adds before now calls

-- one call gave a datagram that can be answered: its sender and how many of the piece's bytes it has
pub record GivesAt (before now : Option (List Passed)) (from : Address) (count : ℕ) (piece : List ℕ) : Type 0 where
  pub at : SocketAddr
  pub sender : address_of at ≡ Some from
  pub within : count ≤ length piece
  pub last : Adds before now (Gave at (take count piece) ∷ [])

-- one call gave nothing that can be answered
pub record PassesOver (before now : Option (List Passed)) : Type 0 where
  pub call : Passed
  pub over : is_passed_over call ≡ true
  pub added : Adds before now (call ∷ [])

-- what one call gave; its time ran out only where it gave none
abbrev pub GivesOnce : Option (List Passed) → Option (List Passed) → Received → List ℕ → Type 0
GivesOnce before now (Answerable from count) piece = GivesAt before now from count piece
GivesOnce before now PassedOver piece = PassesOver before now
GivesOnce before now Nothing piece = Adds before now (GaveNone ∷ [])

-- after calls that are passed over, a datagram that can be answered: its sender and how many of the piece's bytes it has
pub record Gives (before now : Option (List Passed)) (from : Address) (count : ℕ) (piece : List ℕ) : Type 0 where
  pub between : Option (List Passed)
  pub over : Repeats is_passed_over before between
  pub at : SocketAddr
  pub sender : address_of at ≡ Some from
  pub last : Adds between now (Gave at (take count piece) ∷ [])

-- after calls that are passed over, nothing for a while
pub record GivesNone (before now : Option (List Passed)) : Type 0 where
  pub between : Option (List Passed)
  pub over : Repeats is_passed_over before between
  pub last : Adds between now (GaveNone ∷ [])

-- a link receives what its socket gave; a link of a socket never ends
abbrev pub GivesHearing : Option (List Passed) → Option (List Passed) → Hearing → List ℕ → Type 0
GivesHearing before now (Datagram arrival) piece = Gives before now arrival.from arrival.length piece
GivesHearing before now Quiet piece = GivesNone before now
GivesHearing before now End piece = ⊥

-- The socket took nothing, for an error by which the datagram is lost.
pub record Loses (between now : Option (List Passed)) (at : SocketAddr) : Type 0 where
  pub kind : ErrorKind
  pub lost : is_lost kind ≡ true
  pub last : Adds between now (TookNone at kind ∷ [])

-- The socket took nothing, for an error that is a fault.
pub record Fails (between now : Option (List Passed)) (at : SocketAddr) : Type 0 where
  pub kind : ErrorKind
  pub lost : is_lost kind ≡ false
  pub again : is_sent_again kind ≡ false
  pub last : Adds between now (TookNone at kind ∷ [])

-- The socket took less than the whole datagram.
pub record TakesPart (between now : Option (List Passed)) (at : SocketAddr) (bytes : List ℕ) : Type 0 where
  pub count : ℕ
  pub part : count < length bytes
  pub last : Adds between now (Took at (take count bytes) ∷ [])

-- After calls in vain the socket took a datagram whole, or the datagram is lost. Where the sending failed, each call was in vain,
-- or the last one failed, or it took a part.
pub record Posts {T E : Type 0} (before now : Option (List Passed)) (result : Result T E) (to : Address) (bytes : List ℕ) : Type 0 where
  pub at : SocketAddr
  pub for : IsFor to at
  pub between : Option (List Passed)
  pub vain : Repeats is_in_vain before between
  pub last : MatchResult result
      (λ _. Adds between now (Took at bytes ∷ []) ⊎ Loses between now at)
      (λ _. Adds between now [] ⊎ (Fails between now at ⊎ TakesPart between now at bytes))

-- The moment of a counter that was at `start` this many microseconds ago, where it can be read. No moment is below the latest
-- one, and none is above 2^50 - 1.
abbrev pub moment_of : ℕ → ℕ → Option ℕ → ℕ
moment_of start latest None = latest
moment_of start latest (Some counted) = max latest (min (start + counted) (2 ^ 50 - 1))
