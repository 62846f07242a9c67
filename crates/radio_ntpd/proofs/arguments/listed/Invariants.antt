-- What was taken of the host's list stands before what is left of it.
use Rattle.std.proofs.Common.{◌≡◌, ◌++◌, length}
use Rattle.std.specs.Vec.Iter.{into_iter_items, into_iter_len}
use Rattle.radio_ntpd.proofs.arguments.listed.Given as goal

abbrev pub invariant-loop-argument : goal.invariant-loop-argument
invariant-loop-argument l = record {
  all : l.arguments.items ++ into_iter_items l.argument-iterator ≡ into_iter_items l.fn.all;
  size : length (into_iter_items l.argument-iterator) ≡ into_iter_len l.argument-iterator;
}
