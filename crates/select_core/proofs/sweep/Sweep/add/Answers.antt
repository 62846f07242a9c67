-- What the search leaves open of `sweep::Sweep::add`.
use Rattle.std.proofs.Common.{◌∙◌, ◌∷◌, ℤ, List, ap, arith, length, map, subst, sym}
use Rattle.std.specs.Prelude.{insert}
use Rattle.select_core.specs.KeptSweep.{AreEnds, IsStanding}
use Rattle.select_core.specs.Points.{AreAlike}
use Rattle.select_core.specs.Selection.{lower, upper}
use Rattle.select_core.specs.declared.chime.Candidate.{Candidate}
use Rattle.select_core.proofs.StandingLaws.{ends-insert, length-points, standing-insert}
use Rattle.select_core.proofs.sweep.Sweep.add.Goals as goal

pub insert-requires-clause-room : goal.insert-requires-clause-room
insert-requires-clause-room c =
    let room = c.requires.room in
    omega (arith, length-points lower c.self.inside.standing.items c.self.inside.lowers c.self.invariant.1.lowers, ap length c.self.view_is)

pub insert-requires-2-clause-room : goal.insert-requires-2-clause-room
insert-requires-2-clause-room c =
    let room = c.requires.room in
    omega (arith, length-points upper c.self.inside.standing.items c.self.inside.uppers c.self.invariant.1.uppers, ap length c.self.view_is)

pub invariant_of-self : goal.invariant_of-self
invariant_of-self c =
    let cs = c.args.self.now in
    let place = c.args.place in
    let new = c.args.c in
    let put = c.insert-3.ensures.items ∙ ap (λ (l : List Candidate). insert l place new) c.self.view_is in
    let lowers = subst (λ (l : List Candidate). AreAlike c.self.inside.lowers (map lower l)) c.self.view_is c.self.invariant.1.lowers in
    let uppers = subst (λ (l : List Candidate). AreAlike c.self.inside.uppers (map upper l)) c.self.view_is c.self.invariant.1.uppers in
    let low = subst (λ (x : ℤ). AreAlike c.insert.new.self (x ∷ c.self.inside.lowers)) c.lower.ensures c.insert.ensures in
    let high = subst (λ (x : ℤ). AreAlike c.insert-2.new.self (x ∷ c.self.inside.uppers)) c.upper.ensures c.insert-2.ensures in (
      subst IsStanding (sym put) (standing-insert cs place new c.requires.within (subst IsStanding c.self.view_is c.self.invariant.0) c.requires.measured c.requires.before c.requires.after),
      subst (λ (l : List Candidate). AreEnds l c.insert.new.self c.insert-2.new.self) (sym put) (record {
        lowers = ends-insert lower cs c.self.inside.lowers c.insert.new.self place new lowers low;
        uppers = ends-insert upper cs c.self.inside.uppers c.insert-2.new.self place new uppers high;
      }),
    )
