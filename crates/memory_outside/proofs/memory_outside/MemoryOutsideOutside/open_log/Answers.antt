-- What the search leaves open of `memory_outside::MemoryOutsideOutside::open_log`.
use Rattle.std.proofs.Common.{refl}
use Rattle.memory_outside.proofs.memory_outside.MemoryOutsideOutside.open_log.Goals as goal

pub returns-in-Some-clause-handed : goal.returns-in-Some-clause-handed
returns-in-Some-clause-handed g c = (c.in-Some.ensures.found.0, record { named = c.in-Some.field-0; takes = c.in-Some.ensures.found.1; state = refl; calls = refl })
