-- What stays true in the loops of `real::write_some`.
use Rattle.std.specs.Io.KnownBytes.{Keeps}
use Rattle.host_links.proofs.real.write_some.Given as goal

-- calls that were interrupted added nothing
abbrev pub invariant-loop : goal.invariant-loop
invariant-loop g l = Keeps (g.W.Write.contents l.fn.stream) (g.W.Write.contents l.stream)
