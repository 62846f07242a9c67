-- What the search leaves open of `sweep::Sweep::exchange`.
use Rattle.std.proofs.Common.{◌≡◌, ◌<◌, ◌∙◌, ◌∷◌, ℤ, List, ap, arith, get_or, length, subst, sym}
use Rattle.std.specs.Prelude.{Contains}
use Rattle.select_core.specs.KeptSweep.{AreEnds, IsStanding}
use Rattle.select_core.specs.Points.{AreAlike}
use Rattle.select_core.specs.Selection.{lower, upper}
use Rattle.select_core.specs.declared.chime.Candidate.{Candidate}
use Rattle.select_core.proofs.StandingLaws.{ends-set, has-end, length-points, standing-set}
use Rattle.select_core.proofs.sweep.Sweep.exchange.Goals as goal

pub replace-requires-clause-few : goal.replace-requires-clause-few
replace-requires-clause-few c =
    let few = c.as_slice.ensures.fits in
    omega (arith, length-points lower c.self.inside.standing.items c.self.inside.lowers c.self.invariant.1.lowers, ap length c.as_slice.ensures.value)

pub replace-requires-clause-there : goal.replace-requires-clause-there
replace-requires-clause-there c =
    let items = c.self.inside.standing.items in
    let was = c.index-as_slice-place.result in
    let below = subst (λ (l : List Candidate). c.args.place < length l) (sym c.self.view_is) c.requires.place in
    let is = subst (λ (l : List Candidate). was ≡ get_or l c.args.place was) c.as_slice.ensures.value c.index-as_slice-place.is in
    subst (Contains c.self.inside.lowers) (sym c.lower-lower.ensures) (has-end lower items c.self.inside.lowers c.args.place was c.self.invariant.1.lowers below is)

pub replace-requires-2-clause-few : goal.replace-requires-2-clause-few
replace-requires-2-clause-few c =
    let few = c.as_slice.ensures.fits in
    omega (arith, length-points upper c.self.inside.standing.items c.self.inside.uppers c.self.invariant.1.uppers, ap length c.as_slice.ensures.value)

pub replace-requires-2-clause-there : goal.replace-requires-2-clause-there
replace-requires-2-clause-there c =
    let items = c.self.inside.standing.items in
    let was = c.index-as_slice-place-2.result in
    let below = subst (λ (l : List Candidate). c.args.place < length l) (sym c.self.view_is) c.requires.place in
    let is = subst (λ (l : List Candidate). was ≡ get_or l c.args.place was) c.as_slice-2.ensures.value c.index-as_slice-place-2.is in
    subst (Contains c.self.inside.uppers) (sym c.upper-upper.ensures) (has-end upper items c.self.inside.uppers c.args.place was c.self.invariant.1.uppers below is)

pub invariant_of-self : goal.invariant_of-self
invariant_of-self c =
    let items = c.self.inside.standing.items in
    let place = c.args.place in
    let first = c.index-as_slice-place.result in
    let second = c.index-as_slice-place-2.result in
    let new = c.args.c.now in
    let below = subst (λ (l : List Candidate). place < length l) (sym c.self.view_is) c.requires.place in
    let first_is = subst (λ (l : List Candidate). first ≡ get_or l place first) c.as_slice.ensures.value c.index-as_slice-place.is in
    let second_is = subst (λ (l : List Candidate). second ≡ get_or l place second) c.as_slice-2.ensures.value c.index-as_slice-place-2.is in
    let there = λ (d : Candidate). ap (λ (l : List Candidate). (get_or l place d).feed) c.self.view_is ∙ c.requires.feed d in
    let low = subst (λ (x : ℤ). AreAlike (x ∷ c.self.inside.lowers) (lower first ∷ c.replace.new.self)) c.lower.ensures (subst (λ (x : ℤ). AreAlike (c.lower.result ∷ c.self.inside.lowers) (x ∷ c.replace.new.self)) c.lower-lower.ensures c.replace.ensures) in
    let high = subst (λ (x : ℤ). AreAlike (x ∷ c.self.inside.uppers) (upper second ∷ c.replace-2.new.self)) c.upper.ensures (subst (λ (x : ℤ). AreAlike (c.upper.result ∷ c.self.inside.uppers) (x ∷ c.replace-2.new.self)) c.upper-upper.ensures c.replace-2.ensures) in (
      subst IsStanding (sym c.set_at.ensures) (standing-set items place new below there c.self.invariant.0 c.requires.measured),
      subst (λ (l : List Candidate). AreEnds l c.replace.new.self c.replace-2.new.self) (sym c.set_at.ensures) (record {
        lowers = ends-set lower items c.self.inside.lowers c.replace.new.self place first new below first_is c.self.invariant.1.lowers low;
        uppers = ends-set upper items c.self.inside.uppers c.replace-2.new.self place second new below second_is c.self.invariant.1.uppers high;
      }),
    )
