-- Scaffolding: the part of a source's root distance that is computed once, which is all but the drift of the host's counter.
use Rattle.std.specs.Prelude.{◌≡◌, ◌*◌, ◌^◌, ◌≤◌, Bool, ◌&&◌, nat_le, ℤ, pos, ◌+ℤ◌, unsigned_abs, if◌then◌else◌}
use Rattle.std.specs.Int.{int_max}
use Rattle.tick_units.specs.Units.{ceil_div, least_dispersion, root}
use Rattle.clock_filter.specs.Distance.{root_delay_of}
use Rattle.clock_filter.specs.declared.figures.Figures.{Figures}

-- figures whose distance is no longer than a span can be, as that of valid samples is
abbrev pub are_short : Figures → Bool
are_short f = nat_le (unsigned_abs f.delay) (2 ^ 68) && nat_le (unsigned_abs f.dispersion) (2 ^ 68)

-- the root dispersion without the drift, and 0 where it might be too long
unfoldable pub steady_dispersion : Figures → ℤ
steady_dispersion f = if are_short f then (pos (f.root_disp.0 * 65536) +ℤ f.dispersion) +ℤ pos (root f.jitter2) else pos 0

-- the root distance without the drift
unfoldable pub steady_distance : Figures → ℤ
steady_distance f = if are_short f then ceil_div (int_max (pos least_dispersion) (root_delay_of f)) 2 +ℤ ((pos (f.root_disp.0 * 65536) +ℤ f.dispersion) +ℤ pos (root f.jitter2)) else pos 0

-- both are those of these figures
pub record IsReady (f : Figures) (dispersion distance : ℤ) : Type 0 where
  pub dispersion_is : dispersion ≡ steady_dispersion f
  pub distance_is : distance ≡ steady_distance f
  pub dispersion_small : unsigned_abs dispersion ≤ 2 ^ 69
  pub distance_small : unsigned_abs distance ≤ 3 * 2 ^ 68
