-- The state of a poller, by its server and the history of its requests and answers (RFC 5905, section 8).
use Rattle.std.specs.Prelude.{◌≡◌, ℕ, Option, List}
use Rattle.outside_traits.specs.declared.outside.Address.{Address}
use Rattle.poll_core.specs.Histories.{Event, outstanding, last_accepted}
use Rattle.poll_core.specs.declared.poll.Poll.{Poll}

-- the moment of the outstanding request
abbrev pub asked_at : Poll → Option ℕ
asked_at poll = poll.asked

pub record HasPolled (poll : Poll) (server : Address) (history : List Event) : Type 0 where
  pub server_is : poll.server ≡ server
  pub asked : asked_at poll ≡ outstanding server history
  pub accepted : poll.accepted ≡ last_accepted server history
