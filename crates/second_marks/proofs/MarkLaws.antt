-- The marks of reductions, with one more reduction.
use Rattle.std.proofs.Common.{◌≡◌, Bool, true, false, cond, map, Option, Some, None, List, [], ◌∷◌, ◌++◌, refl, ap, sym, ◌∙◌, subst, append_assoc}
use Rattle.std.specs.Option.{option_to_list}
use Rattle.std.proofs.lemmas.Bool.{true≢false}
use Rattle.std.proofs.lemmas.List.{map_push, append-nil}
use Rattle.tick_units.specs.declared.marks.Mark.{Mark}
use Rattle.tick_units.specs.declared.marks.Reduction.{Reduction}
use Rattle.tick_units.specs.declared.marks.Plan.{Plan}
use Rattle.frame_rules.specs.Codes.{Code}
use Rattle.code_plans.specs.Codes.{code_of}
use Rattle.second_marks.specs.Held.{held_of, held_after, mark_before}
use Rattle.second_marks.specs.Marker.{HoldsBack}
use Rattle.second_marks.specs.Marks.{mark_by, joined_mark, joined_marks, marks_by, marks_of}
use Rattle.second_marks.specs.declared.held.Held.{Held}
use Rattle.second_marks.specs.declared.held.Held.TheVariants.{Alone, Joined}

-- two reductions, by whether they are parts
one_more : (parts : Bool) (mark : Mark) → cond parts [] (mark ∷ []) ≡ [] ++ option_to_list (cond parts None (Some mark))
one_more true mark = refl
one_more false mark = refl

pub joined_push : (code : Code) (reductions : List Reduction) (r : Reduction) →
    joined_marks code (reductions ++ r ∷ []) ≡ joined_marks code reductions ++ option_to_list (mark_before code (held_of code reductions) r)
joined_push code [] r = refl
joined_push code (x ∷ []) r = one_more (code.are_parts x r) (mark_by code x)
joined_push code (x ∷ y ∷ []) r =
    let more = joined_push code (y ∷ []) r in
    elim (code.are_parts x y) as (λ b. cond b (joined_mark x ∷ joined_marks code (r ∷ [])) (mark_by code x ∷ joined_marks code (y ∷ r ∷ []))
    ≡ cond b [] (mark_by code x ∷ []) ++ option_to_list (mark_before code (cond b (Joined x.at) (Alone y)) r)) [
      | true ↦ refl
      | false ↦ ap (λ marks. mark_by code x ∷ marks) more
    ]
joined_push code (x ∷ y ∷ z ∷ more) r =
    let joined = joined_push code (z ∷ more) r in
    let alone = joined_push code (y ∷ z ∷ more) r in
    elim (code.are_parts x y) as (λ b. cond b (joined_mark x ∷ joined_marks code (z ∷ (more ++ r ∷ []))) (mark_by code x ∷ joined_marks code (y ∷ z ∷ (more ++ r ∷ [])))
    ≡ cond b (joined_mark x ∷ joined_marks code (z ∷ more)) (mark_by code x ∷ joined_marks code (y ∷ z ∷ more)) ++ option_to_list (mark_before code (cond b (held_of code (z ∷ more)) (held_of code (y ∷ z ∷ more))) r)) [
      | true ↦ ap (λ marks. joined_mark x ∷ marks) joined
      | false ↦ ap (λ marks. mark_by code x ∷ marks) alone
    ]

pub held_push : (code : Code) (reductions : List Reduction) (r : Reduction) → held_of code (reductions ++ r ∷ []) ≡ held_after code (held_of code reductions) r
held_push code [] r = refl
held_push code (x ∷ []) r = refl
held_push code (x ∷ y ∷ []) r =
    elim (code.are_parts x y) as (λ b. cond b (held_of code (r ∷ [])) (held_of code (y ∷ r ∷ [])) ≡ held_after code (cond b (Joined x.at) (Alone y)) r) [ true ↦ refl | false ↦ refl ]
held_push code (x ∷ y ∷ z ∷ more) r =
    let joined = held_push code (z ∷ more) r in
    let alone = held_push code (y ∷ z ∷ more) r in
    elim (code.are_parts x y) as (λ b. cond b (held_of code (z ∷ (more ++ r ∷ []))) (held_of code (y ∷ z ∷ (more ++ r ∷ []))) ≡ held_after code (cond b (held_of code (z ∷ more)) (held_of code (y ∷ z ∷ more))) r) [
      | true ↦ joined
      | false ↦ alone
    ]

-- what is held back, with one more reduction
pub held_on : (code : Code) (old new : Held) (reductions : List Reduction) (r : Reduction) → new ≡ held_after code old r → HoldsBack code old reductions → HoldsBack code new (reductions ++ r ∷ [])
held_on code old new reductions r e held parts = e ∙ ap (λ (h : Held). held_after code h r) (held parts) ∙ sym (held_push code reductions r)

-- where a second has one reduction
pub none_held : (code : Code) (new : Held) (reductions : List Reduction) → code.has_parts ≡ false → HoldsBack code new reductions
none_held code new reductions alone parts = absurd (true≢false (sym parts ∙ alone))

-- no reductions have no marks
pub marks_none : (code : Code) → marks_by code [] ≡ []
marks_none code = elim code.has_parts as (λ b. cond b (joined_marks code []) (map (mark_by code) []) ≡ []) [ true ↦ refl | false ↦ refl ]

-- what one more reduction adds
pub mark_added : Code → List Reduction → Reduction → Option Mark
mark_added code reductions r = cond code.has_parts (mark_before code (held_of code reductions) r) (Some (mark_by code r))

marks_push_by : (code : Code) (parts : Bool) (reductions : List Reduction) (r : Reduction) →
    cond parts (joined_marks code (reductions ++ r ∷ [])) (map (mark_by code) (reductions ++ r ∷ []))
    ≡ cond parts (joined_marks code reductions) (map (mark_by code) reductions) ++ option_to_list (cond parts (mark_before code (held_of code reductions) r) (Some (mark_by code r)))
marks_push_by code true reductions r = joined_push code reductions r
marks_push_by code false reductions r = map_push (mark_by code) reductions r

pub marks_push : (code : Code) (reductions : List Reduction) (r : Reduction) → marks_by code (reductions ++ r ∷ []) ≡ marks_by code reductions ++ option_to_list (mark_added code reductions r)
unfolding mark_added
marks_push code reductions r = marks_push_by code code.has_parts reductions r

-- the mark that comes where each second has one reduction, and where one may have two
pub mark_alone : (code : Code) (mark : Mark) (reductions : List Reduction) (r : Reduction) → code.has_parts ≡ false → mark ≡ mark_by code r →
    marks_by code (reductions ++ r ∷ []) ≡ marks_by code reductions ++ mark ∷ []
unfolding mark_added
mark_alone code mark reductions r alone e =
    marks_push code reductions r
    ∙ ap (λ (b : Bool). marks_by code reductions ++ option_to_list (cond b (mark_before code (held_of code reductions) r) (Some (mark_by code r)))) alone
    ∙ ap (λ (m : Mark). marks_by code reductions ++ m ∷ []) (sym e)

pub mark_joined : (code : Code) (old : Held) (mark : Option Mark) (reductions : List Reduction) (r : Reduction) → code.has_parts ≡ true → mark ≡ mark_before code old r → HoldsBack code old reductions →
    marks_by code (reductions ++ r ∷ []) ≡ marks_by code reductions ++ option_to_list mark
unfolding mark_added
mark_joined code old mark reductions r parts e held =
    marks_push code reductions r
    ∙ ap (λ (b : Bool). marks_by code reductions ++ option_to_list (cond b (mark_before code (held_of code reductions) r) (Some (mark_by code r)))) parts
    ∙ ap (λ (o : Option Mark). marks_by code reductions ++ option_to_list o) (sym (e ∙ ap (λ (h : Held). mark_before code h r) (held parts)))

-- the marks of reductions are the first marks of any longer list of reductions
pub marks_grow : (code : Code) (reductions more : List Reduction) → (marks : List Mark) × (marks_by code (reductions ++ more) ≡ marks_by code reductions ++ marks)
marks_grow code reductions [] = ([], ap (marks_by code) (append-nil reductions) ∙ sym (append-nil (marks_by code reductions)))
marks_grow code reductions (r ∷ more) =
    let one = option_to_list (mark_added code reductions r) in
    let rest = marks_grow code (reductions ++ r ∷ []) more in (
      one ++ rest.0,
      ap (marks_by code) (sym (append_assoc reductions (r ∷ []) more)) ∙ rest.1 ∙ ap (λ (marks : List Mark). marks ++ rest.0) (marks_push code reductions r) ∙ append_assoc (marks_by code reductions) one rest.0,
    )

-- a plan that is listed, for a marker of its name
module _ (code : Code) (which plan : Plan) (listed : code ≡ code_of which) (is : which ≡ plan) where
  code_is : code ≡ code_of plan
  code_is = listed ∙ ap code_of is

  pub held_as : (old new : Held) (reductions : List Reduction) (r : Reduction) → (HoldsBack code old reductions → HoldsBack code new (reductions ++ r ∷ [])) →
      HoldsBack (code_of plan) old reductions → HoldsBack (code_of plan) new (reductions ++ r ∷ [])
  held_as old new reductions r on held = subst (λ c. HoldsBack c new (reductions ++ r ∷ [])) code_is (on (subst (λ c. HoldsBack c old reductions) (sym code_is) held))

  pub marks_as : (old : Held) (mark : Option Mark) (reductions : List Reduction) (r : Reduction) → (HoldsBack code old reductions → marks_by code (reductions ++ r ∷ []) ≡ marks_by code reductions ++ option_to_list mark) →
      HoldsBack (code_of plan) old reductions → marks_of plan (reductions ++ r ∷ []) ≡ marks_of plan reductions ++ option_to_list mark
  marks_as old mark reductions r on held = subst (λ c. marks_by c (reductions ++ r ∷ []) ≡ marks_by c reductions ++ option_to_list mark) code_is (on (subst (λ c. HoldsBack c old reductions) (sym code_is) held))
