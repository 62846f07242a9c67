-- What stays true in the loops of `counts::first_over`.
use Rattle.std.proofs.Common.{◌≡◌, drop, find, map, nat_lt}
use Rattle.station_reader.specs.Finding.{count_seen}
use Rattle.station_reader.proofs.counts.first_over.Given as goal

abbrev pub invariant-loop-count : goal.invariant-loop-count
invariant-loop-count l =
    find (λ c. nat_lt c.most c.count) (map count_seen (drop l.count-index l.counts))
    ≡ find (λ c. nat_lt c.most c.count) (map count_seen l.counts)
