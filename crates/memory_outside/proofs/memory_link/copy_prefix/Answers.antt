-- What the search leaves open of `memory_link::copy_prefix`.
use Rattle.std.proofs.Common.{rules}
use Rattle.memory_outside.proofs.PieceLaws.{copied}
use Rattle.memory_outside.proofs.memory_link.copy_prefix.Goals as goal

pub returns-clause-copied : goal.returns-clause-copied
returns-clause-copied c = copied c.args.bytes.now c.copy_from_slice.new.self _ c.min-count.result (search rules) (search rules)
