-- What the held samples say together (RFC 5905, section 10): the best sample's own figures, the dispersion of the filter, its
-- jitter and the rate. Here the precision is no lower bound of the jitter, and each difference in it counts as at most 256 s.
use Rattle.std.specs.Prelude.{ℕ, ◌+◌, ◌-◌, ◌/◌, ◌^◌, Option, None, Some, List, [], ◌∷◌, length, map, fold, sum_by, slice_get, ℤ, pos, ◌+ℤ◌}
use Rattle.std.specs.Int.{int_min}
use Rattle.std.specs.List.{range_with_len}
use Rattle.tick_units.specs.Orders.{greatest, in_order}
use Rattle.tick_units.specs.Units.{phi, ceil_div, square}
use Rattle.clock_filter.specs.Held.{may_precede}
use Rattle.clock_filter.specs.Rate.{rate_of}
use Rattle.clock_filter.specs.declared.figures.Figures.{Figures}
use Rattle.clock_filter.specs.declared.taken.Taken.{Taken}

-- the greatest moment
abbrev pub newest_of : List Taken → ℕ
newest_of taken = greatest (map (λ x. x.at) taken)

-- the dispersion of a stage at a moment: that of its sample and the drift of the host's counter since, at most 16 s (MAXDISP); an
-- empty stage has 16 s
abbrev pub aged : ℕ → Option Taken → ℤ
aged now None = pos (2 ^ 36)
aged now (Some x) = int_min (pos (2 ^ 36)) (x.sample.dispersion +ℤ pos (phi (now - x.at)))

-- the sum of this many stages: the first counts half, and each next one half as much as the one before it, rounded up
unfoldable pub staged : ℕ → ℕ → List Taken → ℤ
staged stages now taken = fold (λ sum i. sum +ℤ ceil_div (aged now (slice_get taken i)) (2 ^ (i + 1))) (pos 0) (range_with_len 0 stages)

-- the dispersion of the filter when the newest sample was taken: that of all eight stages
abbrev pub dispersion_of : List Taken → ℤ
dispersion_of taken = staged 8 (newest_of taken) taken

-- the mean of the squares of the others' distances from the best sample's offset, rounded down; 0 where there are no others
abbrev pub jitter2_of : Taken → List Taken → ℕ
jitter2_of best [] = 0
jitter2_of best (x ∷ xs) = sum_by (λ y. square y.sample.offset best.sample.offset) (x ∷ xs) / length (x ∷ xs)

-- the figures of samples by delay, and of their rate
abbrev pub figures_by : ℤ → List Taken → Option Figures
figures_by rate [] = None
figures_by rate (best ∷ others) = Some (record {
  offset = best.sample.offset;
  delay = best.sample.delay;
  dispersion = dispersion_of (best ∷ others);
  jitter2 = jitter2_of best others;
  taken_at = best.at;
  newest = newest_of (best ∷ others);
  stratum = best.sample.stratum;
  address = best.sample.address;
  root_delay = best.sample.root_delay;
  root_disp = best.sample.root_disp;
  rate = rate;
})

-- the figures of samples in the order of the journal: their rate, and what they say by delay
abbrev pub figures_of : List Taken → Option Figures
figures_of taken = figures_by (rate_of taken) (in_order may_precede taken)
