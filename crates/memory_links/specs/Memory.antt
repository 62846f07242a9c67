-- What a log and an output in memory report, and an output's calls.
use Rattle.std.specs.Prelude.{ℕ, Some, drop, vec_capacity}
use Rattle.outside_traits.specs.States.{SourceState, SinkState}
use Rattle.memory_links.specs.declared.calls.Calls.{Calls}
use Rattle.memory_links.specs.declared.sure_source.SureSource.{SureSource}
use Rattle.memory_links.specs.declared.memory_sink.MemorySink.{MemorySink}

abbrev pub sure_state : SureSource → SourceState
sure_state s = record { left = Some (drop s.at s.text.items); faults = 0 }

abbrev pub sink_state : MemorySink → SinkState
sink_state s = record { held = Some s.bytes.items; faults = s.faults }

abbrev pub sink_calls : MemorySink → Calls
sink_calls s = s.calls

-- how many bytes it can hold without asking for memory
abbrev pub sink_room : MemorySink → ℕ
sink_room s = vec_capacity s.bytes
