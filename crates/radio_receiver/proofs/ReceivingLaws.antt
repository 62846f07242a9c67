-- The answers of a receiver of a code plan, with one more reduction.
use Rattle.std.proofs.Common.{◌≡◌, ◌∙◌, List, [], ◌∷◌, ◌++◌, ap, map, subst, sym}
use Rattle.std.proofs.lemmas.List.{append-nil}
use Rattle.tick_units.specs.declared.marks.Mark.{Mark}
use Rattle.tick_units.specs.declared.marks.Plan.{Plan}
use Rattle.tick_units.specs.declared.marks.Reduction.{Reduction}
use Rattle.tick_units.specs.declared.verdicts.Heard.{Heard}
use Rattle.frame_rules.specs.Codes.{Code}
use Rattle.code_plans.specs.Codes.{code_of}
use Rattle.second_marks.specs.Marks.{marks_by}
use Rattle.minute_pair.specs.Answers.{answers_by}
use Rattle.minute_pair.specs.Segments.{Segment, segments_by}
use Rattle.radio_receiver.specs.Histories.{History, answers_of, sent, with_reduction}

module _ (code : Code) (which : Plan) (h : History) (r : Reduction) (listed : code ≡ code_of which) (plan_is : h.plan ≡ which) where
  abbrev of_marks : List Mark → List Heard
  of_marks marks = map (sent h.delay) (answers_by code (segments_by code marks))

  -- in the words of the definition, whose plan has a name
  of_reductions : (reductions : List Reduction) → map (sent h.delay) (answers_by (code_of h.plan) (segments_by (code_of h.plan) (marks_by (code_of h.plan) reductions))) ≡ of_marks (marks_by code reductions)
  of_reductions reductions = ap (λ (c : Code). map (sent h.delay) (answers_by c (segments_by c (marks_by c reductions)))) (sym (listed ∙ ap code_of (sym plan_is)))

  -- marks that come with a reduction bring these answers
  pub answers_more : (more : List Mark) (heard : List Heard) → marks_by code (h.reductions ++ r ∷ []) ≡ marks_by code h.reductions ++ more
      → of_marks (marks_by code h.reductions ++ more) ≡ of_marks (marks_by code h.reductions) ++ heard
      → answers_of (with_reduction h r) ≡ answers_of h ++ heard
  answers_more more heard marks answered =
      of_reductions (h.reductions ++ r ∷ []) ∙ ap of_marks marks ∙ answered ∙ ap (λ (l : List Heard). l ++ heard) (sym (of_reductions h.reductions))

  -- no mark comes, or one that closes no segment
  pub answers_same : (more : List Mark) → marks_by code (h.reductions ++ r ∷ []) ≡ marks_by code h.reductions ++ more
      → segments_by code (marks_by code h.reductions ++ more) ≡ segments_by code (marks_by code h.reductions)
      → answers_of (with_reduction h r) ≡ answers_of h ++ []
  answers_same more marks same = answers_more more [] marks (ap (λ (ss : List Segment). map (sent h.delay) (answers_by code ss)) same ∙ sym (append-nil (of_marks (marks_by code h.reductions))))
