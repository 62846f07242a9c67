-- What stays true in the loops of `real::read_some`.
use Rattle.std.specs.Io.KnownBytes.{Keeps}
use Rattle.host_links.proofs.real.read_some.Given as goal

-- calls that were interrupted took nothing
abbrev pub invariant-loop : goal.invariant-loop
invariant-loop g l = Keeps (g.F.Read.remaining l.fn.file) (g.F.Read.remaining l.file)
