-- The events of a link in memory, as it gives them to a test.
use Rattle.outside_traits.specs.States.{NetEvent}
use Rattle.outside_traits.specs.States.NetEvent.{Came, Silent, Ended, Timed, Went}
use Rattle.memory_outside.specs.declared.event.LinkEvent.{LinkEvent}
use Rattle.memory_outside.specs.declared.event.LinkEvent.TheVariants.{Datagram, Quiet, End, Moment, Sent}

abbrev pub event_seen : LinkEvent → NetEvent
event_seen (Datagram from at bytes) = Came from at bytes.now
event_seen Quiet = Silent
event_seen End = Ended
event_seen (Moment at) = Timed at
event_seen (Sent to bytes) = Went to bytes.now
