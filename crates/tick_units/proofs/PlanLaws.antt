-- Each code plan is the one with its name, and stands in the list of all.
use Rattle.std.proofs.Common.{◌≡◌, Bool, true, false, List, [], ◌∷◌, Some, cond, find, refl, sym, ap, subst}
use Rattle.std.specs.Prelude.{is_some}
use Rattle.std.specs.List.{list_all}
use Rattle.std.specs.Str.{bytes_eq}
use Rattle.std.proofs.lemmas.Bool.{and_parts, true≢false}
use Rattle.std.proofs.lemmas.Option.{same_Some}
use Rattle.tick_units.specs.Plans.{plan_of, plans, word_of}
use Rattle.tick_units.specs.declared.marks.Plan.{Plan}
use Rattle.tick_units.specs.declared.marks.Plan.TheVariants.{Dcf, Msf, Wwvb}

pub named : (plan : Plan) → plan_of (word_of plan) ≡ Some plan
named Dcf = refl
named Msf = refl
named Wwvb = refl

-- what is found in a list passes each test that all of its items pass
found_passes : {X : Type 0} (wanted test : X → Bool) (xs : List X) (x : X) → find wanted xs ≡ Some x → list_all test xs ≡ true → test x ≡ true
found_passes wanted test [] x e all = absurd (true≢false (sym (ap is_some e)))
found_passes wanted test (y ∷ ys) x e all =
    let passed = and_parts (test y) (list_all test ys) all in
    by (wanted y) passed.0 (λ found. found_passes wanted test ys x found passed.1) e
  where
    by : (b : Bool) → test y ≡ true → (find wanted ys ≡ Some x → test x ≡ true) → cond b (Some y) (find wanted ys) ≡ Some x → test x ≡ true
    by true here later found = subst (λ z. test z ≡ true) (same_Some y x found) here
    by false here later found = later found

-- what holds of all plans of the list holds of each plan
pub each : (test : Plan → Bool) → list_all test plans ≡ true → (plan : Plan) → test plan ≡ true
each test all plan = found_passes (λ p. bytes_eq (word_of plan) (word_of p)) test plans plan (named plan) all
