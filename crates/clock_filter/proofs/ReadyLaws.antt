-- What doesn't age of a distance, and the drift, are the distance.
use Rattle.std.proofs.Common.{◌≡◌, ℕ, zero, suc, ◌-◌, ◌*◌, ◌^◌, ◌≤◌, true, false, ℤ, pos, negsuc, ◌+ℤ◌, ◌≤ℤ◌, unsigned_abs, refl, ap, ◌∙◌, arith}
use Rattle.std.specs.Int.{int_max}
use Rattle.std.proofs.lemmas.Bool.{le-leb}
use Rattle.std.proofs.lemmas.Int.{ints, clamps}
use Rattle.tick_units.specs.Units.{ceil_div, least_dispersion, phi, root}
use Rattle.clock_filter.specs.Distance.{distance_of, root_delay_of, root_dispersion_of}
use Rattle.clock_filter.specs.Ready.{IsReady, are_short, steady_dispersion, steady_distance}
use Rattle.clock_filter.specs.declared.figures.Figures.{Figures}

pub short-by : (f : Figures) → unsigned_abs f.delay ≤ 2 ^ 68 → unsigned_abs f.dispersion ≤ 2 ^ 68 → are_short f ≡ true
short-by f delay dispersion = rw (le-leb (unsigned_abs f.delay) (2 ^ 68) delay, le-leb (unsigned_abs f.dispersion) (2 ^ 68) dispersion) refl

pub dispersion-short : (f : Figures) → are_short f ≡ true → steady_dispersion f ≡ (pos (f.root_disp.0 * 65536) +ℤ f.dispersion) +ℤ pos (root f.jitter2)
unfolding steady_dispersion
dispersion-short f short = rw short refl

pub distance-short : (f : Figures) → are_short f ≡ true → steady_distance f ≡ ceil_div (int_max (pos least_dispersion) (root_delay_of f)) 2 +ℤ ((pos (f.root_disp.0 * 65536) +ℤ f.dispersion) +ℤ pos (root f.jitter2))
unfolding steady_distance
distance-short f short = rw short refl

pub dispersion-long : (f : Figures) → are_short f ≡ false → steady_dispersion f ≡ pos 0
unfolding steady_dispersion
dispersion-long f long = rw long refl

pub distance-long : (f : Figures) → are_short f ≡ false → steady_distance f ≡ pos 0
unfolding steady_distance
distance-long f long = rw long refl

-- a drift that is added last
drift-last : (reported own jitter drift : ℤ) → ((reported +ℤ own) +ℤ jitter) +ℤ drift ≡ ((reported +ℤ own) +ℤ drift) +ℤ jitter
drift-last reported own jitter drift = omega (arith, ints)

drift-later : (half reported own jitter drift : ℤ) → (half +ℤ ((reported +ℤ own) +ℤ jitter)) +ℤ drift ≡ half +ℤ (((reported +ℤ own) +ℤ drift) +ℤ jitter)
drift-later half reported own jitter drift = omega (arith, ints)

pub dispersion-aged : (f : Figures) (now : ℕ) → unsigned_abs f.delay ≤ 2 ^ 68 → unsigned_abs f.dispersion ≤ 2 ^ 68 → steady_dispersion f +ℤ pos (phi (now - f.taken_at)) ≡ root_dispersion_of now f
dispersion-aged f now delay dispersion =
    ap (λ (z : ℤ). z +ℤ pos (phi (now - f.taken_at))) (dispersion-short f (short-by f delay dispersion))
    ∙ drift-last (pos (f.root_disp.0 * 65536)) f.dispersion (pos (root f.jitter2)) (pos (phi (now - f.taken_at)))

pub distance-aged : (f : Figures) (now : ℕ) → unsigned_abs f.delay ≤ 2 ^ 68 → unsigned_abs f.dispersion ≤ 2 ^ 68 → steady_distance f +ℤ pos (phi (now - f.taken_at)) ≡ distance_of now f
distance-aged f now delay dispersion =
    ap (λ (z : ℤ). z +ℤ pos (phi (now - f.taken_at))) (distance-short f (short-by f delay dispersion))
    ∙ drift-later (ceil_div (int_max (pos least_dispersion) (root_delay_of f)) 2) (pos (f.root_disp.0 * 65536)) f.dispersion (pos (root f.jitter2)) (pos (phi (now - f.taken_at)))

-- what is ready of the figures, and the drift
pub dispersion-ready : (a f : Figures) (dispersion distance drift sum : ℤ) (now : ℕ) → a ≡ f → IsReady a dispersion distance → unsigned_abs f.delay ≤ 2 ^ 68 → unsigned_abs f.dispersion ≤ 2 ^ 68
    → drift ≡ pos (phi (now - f.taken_at)) → sum ≡ dispersion +ℤ drift → sum ≡ root_dispersion_of now f
dispersion-ready a f dispersion distance drift sum now same ready short own aged is =
    is ∙ (λ i. (ready.dispersion_is ∙ ap steady_dispersion same) i +ℤ aged i) ∙ dispersion-aged f now short own

pub distance-ready : (a f : Figures) (dispersion distance drift sum : ℤ) (now : ℕ) → a ≡ f → IsReady a dispersion distance → unsigned_abs f.delay ≤ 2 ^ 68 → unsigned_abs f.dispersion ≤ 2 ^ 68
    → drift ≡ pos (phi (now - f.taken_at)) → sum ≡ distance +ℤ drift → sum ≡ distance_of now f
distance-ready a f dispersion distance drift sum now same ready short own aged is =
    is ∙ (λ i. (ready.distance_is ∙ ap steady_distance same) i +ℤ aged i) ∙ distance-aged f now short own

-- half of a delay that counts as at least 5 ms
half-of-two : (z : ℤ) → pos 2 ≤ℤ z → pos 1 ≤ℤ ceil_div z 2
half-of-two (pos zero) two = absurd (omega (arith, ints))
half-of-two (pos (suc a)) two = omega (arith, ints)
half-of-two (negsuc a) two = absurd (omega (arith, ints))

half-some : (z : ℤ) → pos 1 ≤ℤ ceil_div (int_max (pos least_dispersion) z) 2
half-some z = half-of-two (int_max (pos least_dispersion) z) (omega (arith, ints, clamps))

parts-least : (half : ℤ) (reported : ℕ) (own : ℤ) (drift jitter : ℕ) → pos 1 ≤ℤ half → pos 0 ≤ℤ own → pos 1 ≤ℤ (half +ℤ (((pos reported +ℤ own) +ℤ pos drift) +ℤ pos jitter))
parts-least half reported own drift jitter some least = omega (arith, ints)

-- so a distance is at least one unit
pub distance-least : (f : Figures) (now : ℕ) → pos 0 ≤ℤ f.dispersion → pos 1 ≤ℤ distance_of now f
distance-least f now least = parts-least (ceil_div (int_max (pos least_dispersion) (root_delay_of f)) 2) (f.root_disp.0 * 65536) f.dispersion (phi (now - f.taken_at)) (root f.jitter2) (half-some (root_delay_of f)) least

parts-dispersion : (reported : ℕ) (own : ℤ) (drift jitter : ℕ) → pos 0 ≤ℤ own → pos 0 ≤ℤ (((pos reported +ℤ own) +ℤ pos drift) +ℤ pos jitter)
parts-dispersion reported own drift jitter least = omega (arith, ints)

pub dispersion-least : (f : Figures) (now : ℕ) → pos 0 ≤ℤ f.dispersion → pos 0 ≤ℤ root_dispersion_of now f
dispersion-least f now least = parts-dispersion (f.root_disp.0 * 65536) f.dispersion (phi (now - f.taken_at)) (root f.jitter2) least
