-- Selection asks for no order of its candidates.
use Rattle.std.proofs.Common.{◌≡◌, ℕ, ◌+◌, ◌*◌, not, List, ℤ, refl, ap, ◌∙◌}
use Rattle.std.specs.Prelude.{Option, None, Some, ◌&&◌, cond, filter, int_lt, map, nat_le, nat_lt, slice_get}
use Rattle.std.specs.List.{filter_map, range_with_len}
use Rattle.std.specs.List.Sorted.{IsPermutation}
use Rattle.std.proofs.lemmas.List.Elements.{filter_agree}
use Rattle.tick_units.specs.Orders.{best}
use Rattle.select_core.specs.Points.{AreAlike}
use Rattle.select_core.specs.Selection.{chime_allowing, chime_between, chime_of, contains, high_of, is_held, is_within, low_of, lower, serves, upper}
use Rattle.select_core.specs.declared.chime.Candidate.{Candidate}
use Rattle.select_core.specs.declared.ends.Side.TheVariants.{Lower, Upper}
use Rattle.select_core.proofs.AlikeLaws.{alike-filter, alike-map, alike-permutation, best-alike, length-alike}

module _ (cs ds : List Candidate) (same : AreAlike cs ds) where
  held-alike : (allowed : ℕ) (x : ℤ) → is_held cs allowed x ≡ is_held ds allowed x
  held-alike allowed x = λ i. nat_le (length-alike cs ds same i) (same (contains x) i + allowed)

  low-alike : (allowed : ℕ) → low_of cs allowed ≡ low_of ds allowed
  low-alike allowed =
      ap (best int_lt) (filter_agree (is_held cs allowed) (is_held ds allowed) (held-alike allowed) (map lower cs))
      ∙ best-alike Lower (filter (is_held ds allowed) (map lower cs)) (filter (is_held ds allowed) (map lower ds)) (alike-filter (is_held ds allowed) (map lower cs) (map lower ds) (alike-map lower cs ds same))

  high-alike : (allowed : ℕ) → high_of cs allowed ≡ high_of ds allowed
  high-alike allowed =
      ap (best (λ x y. int_lt y x)) (filter_agree (is_held cs allowed) (is_held ds allowed) (held-alike allowed) (map upper cs))
      ∙ best-alike Upper (filter (is_held ds allowed) (map upper cs)) (filter (is_held ds allowed) (map upper ds)) (alike-filter (is_held ds allowed) (map upper cs) (map upper ds) (alike-map upper cs ds same))

  serves-alike : (allowed : ℕ) (low high : ℤ) → serves cs allowed low high ≡ serves ds allowed low high
  serves-alike allowed low high = λ i. nat_lt (2 * allowed) (length-alike cs ds same i) && int_lt low high && nat_le (same (λ c. not (is_within low high c.offset)) i) allowed

  between-alike : (allowed : ℕ) (low high : Option ℤ) → chime_between cs allowed low high ≡ chime_between ds allowed low high
  between-alike allowed None high = refl
  between-alike allowed (Some low) None = refl
  between-alike allowed (Some low) (Some high) = λ i. cond (serves-alike allowed low high i) (Some (record { low = low; high = high; allowed = allowed })) None

  allowing-alike : (allowed : ℕ) → chime_allowing cs allowed ≡ chime_allowing ds allowed
  allowing-alike allowed = between-alike allowed (low_of cs allowed) (high_of cs allowed) ∙ (λ i. chime_between ds allowed (low-alike allowed i) (high-alike allowed i))

  pub chime-alike : chime_of cs ≡ chime_of ds
  chime-alike = λ i. slice_get (filter_map (λ allowed. allowing-alike allowed i) (range_with_len 0 (length-alike cs ds same i))) 0

pub chime-permutation : (cs ds : List Candidate) → IsPermutation cs ds → chime_of cs ≡ chime_of ds
chime-permutation cs ds moved = chime-alike cs ds (alike-permutation cs ds moved)
