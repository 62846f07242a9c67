-- What stays true in the loops of `memory_outside::placed`.
use Rattle.std.proofs.Common.{◌≡◌, ◌++◌, length, map, Some}
use Rattle.std.specs.Vec.Iter.{into_iter_items, into_iter_len}
use Rattle.memory_outside.proofs.memory_outside.placed.Given as goal

-- the links so far stand in their places, and the others come
abbrev pub invariant-links : goal.invariant-links
invariant-links l = record {
  all : l.places.items ++ map (λ link. Some link) (into_iter_items l.link-iterator) ≡ map (λ link. Some link) l.fn.links.items;
  size : length (into_iter_items l.link-iterator) ≡ into_iter_len l.link-iterator;
}
