-- What a log in memory reports, and its calls.
use Rattle.std.specs.Prelude.{Some, drop}
use Rattle.outside_traits.specs.States.{SourceState}
use Rattle.memory_links.specs.declared.calls.Calls.{Calls}
use Rattle.memory_outside.specs.declared.memory_source.MemorySource.{MemorySource}

abbrev pub source_state : MemorySource → SourceState
source_state s = record { left = Some (drop s.at s.text.items); faults = s.faults }

abbrev pub source_calls : MemorySource → Calls
source_calls s = s.calls
