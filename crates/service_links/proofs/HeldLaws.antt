-- What one call of a socket adds to the calls of a link that waits.
use Rattle.std.proofs.Common.{ℕ, Option, Some, List}
use Rattle.host_links.specs.Sockets.{Passed, Repeats, is_passed_over}
use Rattle.host_links.proofs.SocketLaws.{one_more}
use Rattle.service_links.specs.Held.{GivesPart, GivesWaited}
use Rattle.service_links.specs.declared.link.Waited.{Waited}
use Rattle.service_links.specs.declared.link.Waited.TheVariants.{Came, Silence, Over}

pub gives_waited : (a b c : Option (List Passed)) (waited : Waited) (piece : List ℕ) → Repeats is_passed_over a b → GivesPart b c (Some waited) piece → GivesWaited a c waited piece
gives_waited a b c (Came from count) piece calls part = (record { between = b; over = calls; at = part.at; sender = part.sender; last = part.last }, part.within)
gives_waited a b c Silence piece calls part = record { between = b; over = calls; last = part }
gives_waited a b c Over piece calls part = one_more is_passed_over a b c part.call calls part.over part.added
