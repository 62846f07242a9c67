-- The openings that a command has made, and those that an outside reports.
use Rattle.std.proofs.Common.{◌≡◌, Option, Some, None, List, [], ◌∷◌, ◌++◌, map, ap, sym, ◌∙◌}
use Rattle.std.specs.Prelude.{ℕ}
use Rattle.std.proofs.lemmas.List.{append_cancel_left}
use Rattle.outside_traits.specs.States.{SourceState, Adds}
use Rattle.outside_traits.specs.Openings.{Opening, OutsideState, State, Wanted, MakesOpenings, failed, log_visit, visited}
use Rattle.outside_traits.specs.Openings.State.{OfLog}
use Rattle.outside_traits.specs.Openings.Wanted.{LogOf}

-- what was added is what is reported after those that were there
pub same_more : (was now : Option (List Opening)) (before more reported : List Opening) → Adds was now more → was ≡ Some before → now ≡ Some (before ++ reported) → more ≡ reported
same_more was None before more reported adds were are = cc
same_more None (Some now) before more reported adds were are = absurd adds
same_more (Some was) (Some now) before more reported adds were are =
    let one : was ≡ before = cc in
    let two : now ≡ before ++ reported = cc in
    append_cancel_left before more reported (ap (λ (b : List Opening). b ++ more) (sym one) ∙ sym adds ∙ two)

log_states : (a b : SourceState) → ◌≡◌ {A = Option State} (Some (OfLog a)) (Some (OfLog b)) → a ≡ b
log_states a b e = cc

unopened : (state : State) → ◌≡◌ {A = Option State} None (Some state) → ⊥
unopened state e = cc

pub first_of : (a b : Opening) (prefix back : List Opening) → a ∷ prefix ≡ b ∷ back → a ≡ b
first_of a b prefix back e = cc

pub rest_of : (a b : Opening) (prefix back : List Opening) → a ∷ prefix ≡ b ∷ back → prefix ≡ back
rest_of a b prefix back e = cc

-- openings that are equal reported the same
pub same_states : (name : List ℕ) (a b c d : SourceState) → visited (log_visit name a b) ≡ visited (log_visit name c d) → (a ≡ c) × (b ≡ d)
same_states name a b c d e = (log_states a c (ap (λ (o : Opening). o.opened) e), log_states b d (ap (λ (o : Opening). o.back) e))

-- an opening that was answered is not one that failed
pub not_failed : (name other : List ℕ) (a b : SourceState) → failed (LogOf name) ≡ visited (log_visit other a b) → ⊥
not_failed name other a b e = unopened (OfLog a) (ap (λ (o : Opening). o.opened) e)

module _ (outside outside_now : OutsideState) (before : List Opening) (were : outside.openings ≡ Some before) where
  -- a command that needs one log
  module _ (name : List ℕ) (opened back : SourceState) (are : outside_now.openings ≡ Some (before ++ map visited (log_visit name opened back ∷ []))) where
    pub one_failed : MakesOpenings (LogOf name ∷ []) outside outside_now [] (Some (LogOf name)) → ⊥
    one_failed h = not_failed name name opened back (first_of _ _ [] [] (same_more outside.openings outside_now.openings before _ _ h.noted.noted were are))

    pub one_opened : (a b : SourceState) → MakesOpenings (LogOf name ∷ []) outside outside_now (log_visit name a b ∷ []) None → (a ≡ opened) × (b ≡ back)
    one_opened a b h = same_states name a b opened back (first_of _ _ [] [] (same_more outside.openings outside_now.openings before _ _ h.noted.noted were are))

  -- a command that needs two
  module _ (needed : List Wanted) (name next : List ℕ) (opened back next_opened next_back : SourceState)
      (are : outside_now.openings ≡ Some (before ++ map visited (log_visit name opened back ∷ log_visit next next_opened next_back ∷ []))) where
    pub two_failed_first : MakesOpenings needed outside outside_now [] (Some (LogOf name)) → ⊥
    two_failed_first h = not_failed name name opened back (first_of _ _ [] _ (same_more outside.openings outside_now.openings before _ _ h.noted.noted were are))

    pub two_only_first : (a b : SourceState) → MakesOpenings needed outside outside_now (log_visit name a b ∷ []) None → ⊥
    two_only_first a b h = (let e = rest_of _ _ [] _ (same_more outside.openings outside_now.openings before _ _ h.noted.noted were are) in cc)

    pub two_failed_next : (a b : SourceState) → MakesOpenings needed outside outside_now (log_visit name a b ∷ []) (Some (LogOf next)) → ⊥
    two_failed_next a b h = not_failed next next next_opened next_back (first_of _ _ [] [] (rest_of _ _ _ _ (same_more outside.openings outside_now.openings before _ _ h.noted.noted were are)))

    pub two_opened : (a b c d : SourceState) → MakesOpenings needed outside outside_now (log_visit name a b ∷ log_visit next c d ∷ []) None →
        ((a ≡ opened) × (b ≡ back)) × ((c ≡ next_opened) × (d ≡ next_back))
    two_opened a b c d h =
        let e = same_more outside.openings outside_now.openings before _ _ h.noted.noted were are in
        (same_states name a b opened back (first_of _ _ _ _ e), same_states next c d next_opened next_back (first_of _ _ [] [] (rest_of _ _ _ _ e)))
