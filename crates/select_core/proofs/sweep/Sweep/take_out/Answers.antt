-- What the search leaves open of `sweep::Sweep::take_out`.
use Rattle.std.proofs.Common.{◌<◌, ◌∷◌, ℤ, List, length, subst, sym}
use Rattle.std.specs.Prelude.{Contains}
use Rattle.select_core.specs.KeptSweep.{AreEnds, IsStanding}
use Rattle.select_core.specs.Points.{AreAlike}
use Rattle.select_core.specs.Selection.{lower, upper}
use Rattle.select_core.specs.declared.chime.Candidate.{Candidate}
use Rattle.select_core.proofs.StandingLaws.{ends-remove, has-end, standing-remove}
use Rattle.select_core.proofs.sweep.Sweep.take_out.Goals as goal

pub remove-requires-clause-there : goal.remove-requires-clause-there
remove-requires-clause-there c =
    let below = subst (λ (l : List Candidate). c.args.place < length l) (sym c.self.view_is) c.requires in
    subst (Contains c.self.inside.lowers) (sym c.lower.ensures) (has-end lower c.self.inside.standing.items c.self.inside.lowers c.args.place c.remove-c.result c.self.invariant.1.lowers below c.remove-c.ensures.value)

pub remove-requires-2-clause-there : goal.remove-requires-2-clause-there
remove-requires-2-clause-there c =
    let below = subst (λ (l : List Candidate). c.args.place < length l) (sym c.self.view_is) c.requires in
    subst (Contains c.self.inside.uppers) (sym c.upper.ensures) (has-end upper c.self.inside.standing.items c.self.inside.uppers c.args.place c.remove-c.result c.self.invariant.1.uppers below c.remove-c.ensures.value)

pub invariant_of-self : goal.invariant_of-self
invariant_of-self c =
    let items = c.self.inside.standing.items in
    let place = c.args.place in
    let out = c.remove-c.result in
    let is = c.remove-c.ensures.value in
    let below = subst (λ (l : List Candidate). place < length l) (sym c.self.view_is) c.requires in
    let low = subst (λ (x : ℤ). AreAlike c.self.inside.lowers (x ∷ c.remove.new.self)) c.lower.ensures c.remove.ensures in
    let high = subst (λ (x : ℤ). AreAlike c.self.inside.uppers (x ∷ c.remove-2.new.self)) c.upper.ensures c.remove-2.ensures in (
      subst IsStanding (sym c.remove-c.ensures.items) (standing-remove items place c.self.invariant.0 below),
      subst (λ (l : List Candidate). AreEnds l c.remove.new.self c.remove-2.new.self) (sym c.remove-c.ensures.items) (record {
        lowers = ends-remove lower items c.self.inside.lowers c.remove.new.self place out below is c.self.invariant.1.lowers low;
        uppers = ends-remove upper items c.self.inside.uppers c.remove-2.new.self place out below is c.self.invariant.1.uppers high;
      }),
    )
