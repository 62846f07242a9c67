-- What the proof of `receivers::PlanReceiverReceiver::hear` needs.
use Rattle.std.proofs.Common.{◌≡◌, ◌∙◌, ◌+◌, ℕ, [], ◌∷◌, ◌++◌, ap, map, refl, subst, sym}
use Rattle.std.specs.Option.{option_to_list}
use Rattle.second_marks.specs.Marker.{HoldsBack}
use Rattle.second_marks.specs.Marks.{marks_by}
use Rattle.second_marks.specs.declared.held.Held.{Held}
use Rattle.minute_pair.specs.Answers.{answers_by}
use Rattle.minute_pair.specs.Pairing.{HasPairedBy}
use Rattle.minute_pair.specs.Segments.{segments_by}
use Rattle.radio_receiver.specs.Histories.{sent}
use Rattle.radio_receiver.proofs.LastLaws.{least_push, nothing_more}
use Rattle.radio_receiver.proofs.ReceivingLaws.{answers_more, answers_same}
use Rattle.radio_receiver.proofs.receivers.PlanReceiverReceiver.hear.Goals as goal

pub returns-in_default-clause-heard : goal.returns-in_default-clause-heard
returns-in_default-clause-heard g c h received =
    let code = g.C.CodePlan.code in
    let same = nothing_more (marks_by code h.reductions) _ (c.in_default.ensures.marks h.reductions received.held) in
    record {
      plan_is = received.plan_is;
      held = c.mark_next.ensures.held h.reductions received.held;
      paired = subst (HasPairedBy code c.args.self.now.pairing) (sym same) received.paired;
      delay = received.delay;
      least = ap (λ n. n + 1) c.get.ensures.value ∙ sym (least_push h.reductions c.args.reduction);
    }

pub returns-in_default-clause-answered : goal.returns-in_default-clause-answered
returns-in_default-clause-answered g c h received =
    let code = g.C.CodePlan.code in
    let marks = c.in_default.ensures.marks h.reductions received.held in
    answers_same code g.C.CodePlan.which h c.args.reduction g.met.C.Listed.listed received.plan_is [] marks
    (ap (segments_by code) (nothing_more (marks_by code h.reductions) _ refl))

pub returns-then-adds-clause-heard : goal.returns-then-adds-clause-heard
returns-then-adds-clause-heard g c h received =
    let code = g.C.CodePlan.code in
    let marks = c.in-Some.ensures.marks h.reductions received.held in
    record {
      plan_is = received.plan_is;
      held = c.mark_next.ensures.held h.reductions received.held;
      paired = subst (HasPairedBy code c.adds.new.self) (sym marks) (c.if-adds.ensures.added (marks_by code h.reductions) received.paired refl);
      delay = received.delay;
      least = ap (λ n. n + 1) c.get.ensures.value ∙ sym (least_push h.reductions c.args.reduction);
    }

pub returns-then-adds-clause-answered : goal.returns-then-adds-clause-answered
returns-then-adds-clause-answered g c h received =
    let code = g.C.CodePlan.code in
    answers_same code g.C.CodePlan.which h c.args.reduction g.met.C.Listed.listed received.plan_is (c.in-Some.mark ∷ [])
    (c.in-Some.ensures.marks h.reductions received.held) (c.if-adds.ensures.same (marks_by code h.reductions) received.paired refl)

pub returns-clause-heard : goal.returns-clause-heard
returns-clause-heard g c h received =
    let code = g.C.CodePlan.code in
    let before = marks_by code h.reductions in
    let marks = c.in-Some.ensures.marks h.reductions received.held in
    let begins = c.if-adds.ensures.begins before received.paired refl in
    let paired = subst (λ p. HasPairedBy code p before) (sym (c.if-adds.ensures.left refl)) received.paired in
    record {
      plan_is = received.plan_is;
      held = subst (λ (b : Held). HoldsBack code b (h.reductions ++ c.args.reduction ∷ [])) (sym c.turn.ensures.held) (c.mark_next.ensures.held h.reductions received.held);
      paired = subst (HasPairedBy code c.turn.new.self.pairing) (sym marks) (c.turn.ensures.paired before paired begins);
      delay = c.turn.ensures.delay ∙ received.delay;
      least = c.turn.ensures.least ∙ ap (λ n. n + 1) c.get.ensures.value ∙ sym (least_push h.reductions c.args.reduction);
    }

pub returns-clause-answered : goal.returns-clause-answered
returns-clause-answered g c h received =
    let code = g.C.CodePlan.code in
    let before = marks_by code h.reductions in
    let after = before ++ c.in-Some.mark ∷ [] in
    let begins = c.if-adds.ensures.begins before received.paired refl in
    let paired = subst (λ p. HasPairedBy code p before) (sym (c.if-adds.ensures.left refl)) received.paired in
    answers_more code g.C.CodePlan.which h c.args.reduction g.met.C.Listed.listed received.plan_is (c.in-Some.mark ∷ []) (option_to_list c.turn.new.self.answer)
    (c.in-Some.ensures.marks h.reductions received.held)
    (subst (λ (d : ℕ). map (sent d) (answers_by code (segments_by code after)) ≡ map (sent d) (answers_by code (segments_by code before)) ++ option_to_list c.turn.new.self.answer) received.delay (c.turn.ensures.answered before paired begins))
