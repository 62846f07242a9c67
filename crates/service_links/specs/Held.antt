-- What a link that its supervisor holds receives and sends, and how long a request waits.
use Rattle.std.specs.Prelude.{◌≡◌, ◌≤◌, ℕ, Bool, true, false, Option, None, Some, Result, IsOk, List, [], ◌∷◌, length, take}
use Rattle.outside_traits.specs.declared.outside.Address.{Address}
use Rattle.outside_traits.specs.declared.link.Hearing.{Hearing}
use Rattle.outside_traits.specs.declared.link.Hearing.TheVariants.{Datagram, Quiet, End}
use Rattle.outside_traits.specs.States.{Adds}
use Rattle.host_links.specs.Sockets.{Passed, Gives, GivesAt, GivesNone, PassesOver, Posts, Repeats, is_passed_over, moment_of}
use Rattle.host_links.specs.Sockets.Passed.{GaveNone}
use Rattle.service_links.specs.declared.link.Waited.{Waited}
use Rattle.service_links.specs.declared.link.Waited.TheVariants.{Came, Silence, Over}
use Rattle.service_links.specs.declared.pace.Pace.{Pace}
use Rattle.service_links.specs.declared.asking.Asking.{Asking}
use Rattle.service_links.specs.Paces.{heeding, is_never, kiss_for, wait_at}

-- a link receives what its socket gave, and of a link that ends, the socket gave nothing that can be answered
abbrev pub GivesUntilEnd : Option (List Passed) → Option (List Passed) → Hearing → List ℕ → Type 0
GivesUntilEnd before now (Datagram arrival) piece = Gives before now arrival.from arrival.length piece
GivesUntilEnd before now Quiet piece = GivesNone before now
GivesUntilEnd before now End piece = Repeats is_passed_over before now

-- what one call of the socket came to for a link that waits: a datagram that can be answered, nothing, or that it goes on
abbrev pub GivesPart : Option (List Passed) → Option (List Passed) → Option Waited → List ℕ → Type 0
GivesPart before now None piece = PassesOver before now
GivesPart before now (Some (Came from count)) piece = GivesAt before now from count piece
GivesPart before now (Some Silence) piece = Adds before now (GaveNone ∷ [])
GivesPart before now (Some Over) piece = PassesOver before now

-- what the waiting came to
abbrev pub GivesWaited : Option (List Passed) → Option (List Passed) → Waited → List ℕ → Type 0
GivesWaited before now (Came from count) piece = Gives before now from count piece × (count ≤ length piece)
GivesWaited before now Silence piece = GivesNone before now
GivesWaited before now Over piece = Repeats is_passed_over before now

-- a link sends as its socket does; one that has ended sends nothing, and that is no fault
abbrev pub PostsUntilEnd : {T E : Type 0} → Bool → Option (List Passed) → Option (List Passed) → Result T E → Address → List ℕ → Type 0
PostsUntilEnd true before now result to bytes = (now ≡ before) × IsOk result
PostsUntilEnd false before now result to bytes = Posts before now result to bytes

-- what a link to a server keeps after a hearing: it heeds the kiss code of a datagram
abbrev pub after_hearing : Option Asking → Hearing → List ℕ → Option Asking
after_hearing asking (Datagram arrival) piece = heeding asking arrival.at arrival.from (take arrival.length piece)
after_hearing asking Quiet piece = asking
after_hearing asking End piece = asking

-- whether a datagram for a link to a server says that no more requests are wanted
abbrev pub ends_asking : Option Asking → Hearing → List ℕ → Bool
ends_asking None hearing piece = false
ends_asking (Some asking) (Datagram arrival) piece = is_never (kiss_for asking arrival.from (take arrival.length piece))
ends_asking (Some asking) Quiet piece = false
ends_asking (Some asking) End piece = false

-- the counter was read, and no request had to wait then
pub record NeedsNoWait (pace : Pace) (start latest : ℕ) : Type 0 where
  pub counted : Option ℕ
  pub none : wait_at pace (moment_of start latest counted) ≡ 0
