-- What holds of the figures that a filter has ready.
use Rattle.std.proofs.Common.{◌≡◌, ℕ, List, filter, sym, ◌∙◌, ap, subst}
use Rattle.std.specs.Prelude.{IfSome, Option, nat_le}
use Rattle.tick_units.specs.Samples.{IsValid}
use Rattle.clock_filter.specs.Bounds.{AreValid, IsMeasured, IsTimely}
use Rattle.clock_filter.specs.Figures.{figures_of}
use Rattle.clock_filter.specs.Held.{held, last_eight}
use Rattle.clock_filter.specs.Known.{IsKnown}
use Rattle.clock_filter.specs.declared.figures.Figures.{Figures}
use Rattle.clock_filter.specs.declared.taken.Taken.{Taken}
use Rattle.clock_filter.proofs.FigureLaws.{measured, timely}
use Rattle.clock_filter.proofs.HeldLaws.{from_cut, held-all}

pub known_timely : (cut : ℕ) (last : List Taken) (o : Option Figures) → IsKnown cut last o → IfSome o (IsTimely cut)
known_timely cut last o h = subst (λ (p : Option Figures). IfSome p (IsTimely cut)) (sym h.value) (timely cut _ (from_cut cut last))

pub known_measured : (cut : ℕ) (last samples : List Taken) (o : Option Figures) → IsKnown cut last o → last ≡ last_eight samples → AreValid samples → IfSome o IsMeasured
known_measured cut last samples o h eight valid =
    let held_is = ap (λ (xs : List Taken). figures_of (filter (λ x. nat_le cut x.at) xs)) eight in
    subst (λ (p : Option Figures). IfSome p IsMeasured) (sym (h.value ∙ held_is)) (measured (held cut samples) (held-all (λ x. IsValid x.sample) cut samples valid))
