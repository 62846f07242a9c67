-- How far a source may be from the truth at a moment (RFC 5905, section 11 and appendix A.5.5.2, the root distance). A short has
-- 65536 units. It is this project's own rule that a source farther than 1 s away, or of stratum 15, is not fit.
use Rattle.std.specs.Prelude.{ℕ, ◌-◌, ◌*◌, ◌^◌, Bool, ◌&&◌, nat_lt, ℤ, pos, ◌+ℤ◌, int_le}
use Rattle.std.specs.Int.{int_max}
use Rattle.tick_units.specs.Units.{phi, ceil_div, least_dispersion, root}
use Rattle.clock_filter.specs.declared.figures.Figures.{Figures}

-- the round-trip delay to the reference clock
abbrev pub root_delay_of : Figures → ℤ
root_delay_of f = pos (f.root_delay.0 * 65536) +ℤ f.delay

-- the dispersion that the source reports of itself, that of its samples, the drift of the host's counter since the best sample,
-- and the jitter
abbrev pub root_dispersion_of : ℕ → Figures → ℤ
root_dispersion_of now f = ((pos (f.root_disp.0 * 65536) +ℤ f.dispersion) +ℤ pos (phi (now - f.taken_at))) +ℤ pos (root f.jitter2)

-- half of the round-trip delay, which counts as at least 5 ms, rounded up, and that dispersion
abbrev pub distance_of : ℕ → Figures → ℤ
distance_of now f = ceil_div (int_max (pos least_dispersion) (root_delay_of f)) 2 +ℤ root_dispersion_of now f

-- a source that may be selected
abbrev pub is_fit_at : ℕ → Figures → Bool
is_fit_at now f = int_le (distance_of now f) (pos (2 ^ 32)) && nat_lt f.stratum 15
