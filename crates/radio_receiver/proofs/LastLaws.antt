-- The last of some reductions.
use Rattle.std.proofs.Common.{◌≡◌, ◌∙◌, ◌+◌, ◌==◌, false, List, [], ◌∷◌, ◌++◌, Option, Some, None, refl, ap, arith}
use Rattle.std.proofs.lemmas.Bool.Decides.{nat_tests}
use Rattle.std.proofs.lemmas.List.{append-nil}
use Rattle.std.specs.List.{last_or}
use Rattle.tick_units.specs.declared.marks.Reduction.{Reduction}
use Rattle.tick_units.specs.declared.marks.Mark.{Mark}
use Rattle.radio_receiver.specs.Histories.{is_blank, least_after, least_beyond}

last_push : (before : Option Reduction) (reductions : List Reduction) (r : Reduction) → last_or before (reductions ++ r ∷ []) ≡ Some r
last_push before [] r = refl
last_push before (x ∷ more) r = last_push (Some x) more r

pub least_push : (reductions : List Reduction) (r : Reduction) → least_after (reductions ++ r ∷ []) ≡ r.at + 1
least_push reductions r = ap least_beyond (last_push None reductions r)

pub nothing_more : (marks more : List Mark) → more ≡ marks ++ [] → more ≡ marks
nothing_more marks more e = e ∙ append-nil marks

some_received : (before : Reduction) (more : List Reduction) → (least_beyond (last_or (Some before) more) == 0) ≡ false
some_received before [] = grind (arith, nat_tests)
some_received before (x ∷ more) = some_received x more

pub blank_is : (reductions : List Reduction) → (least_after reductions == 0) ≡ is_blank reductions
blank_is [] = refl
blank_is (r ∷ more) = some_received r more
