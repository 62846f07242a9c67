-- What real files, streams and links report: their counts of faults, and of a link its latest moment.
use Rattle.std.specs.Prelude.{ℕ, None}
use Rattle.outside_traits.specs.States.{SourceState, SinkState, LinkState}
use Rattle.outside_traits.specs.Openings.{OutsideState}

abbrev pub file_state : ℕ → SourceState
file_state faults = record { left = None; faults = faults }

abbrev pub stream_state : ℕ → SinkState
stream_state faults = record { held = None; faults = faults }

abbrev pub socket_state : ℕ → ℕ → LinkState
socket_state latest faults = record { events = None; latest = latest; faults = faults }

abbrev pub host_state : ℕ → OutsideState
host_state faults = record { openings = None; room = record { openings = 0; names = 0 }; faults = faults }

-- files and links are not distinguished by their openings
abbrev pub file_number : ℕ
file_number = 0
