-- What the proof of `minutes::PairingOf::turn` needs.
use Rattle.std.proofs.Common.{ℕ, None, [], ◌∷◌, ◌++◌, ap, refl, sym, ◌∙◌}
use Rattle.std.specs.List.{last_or}
use Rattle.minute_pair.specs.Answers.{answers_by}
use Rattle.minute_pair.specs.Pairing.{answer_by, before_of}
use Rattle.minute_pair.specs.Segments.{Segment, segments_by}
use Rattle.minute_pair.specs.declared.answers.Before.{Before}
use Rattle.minute_pair.specs.declared.answers.Closed.{Closed}
use Rattle.minute_pair.proofs.KeptLaws.{heard_begun, same_opened, segments_closed}
use Rattle.minute_pair.proofs.PairingLaws.{answers_closed, answers_same, before_closed, judged_is}
use Rattle.minute_pair.proofs.minutes.PairingOf.turn.Goals as goal

pub returns-then-not-self-clause-heard : goal.returns-then-not-self-clause-heard
returns-then-not-self-clause-heard g c = λ marks h begins.
    let code = g.C.CodePlan.code in
    let mark = c.args.mark.now in
    let same = same_opened c.args.self.now code mark marks begins c.if-not-self.true h.kept in
    record {
      kept = heard_begun c.args.self.now _ code mark marks begins h.kept c.begin.ensures.frame c.begin.ensures.opened;
      before = c.begin.ensures.before ∙ h.before ∙ ap (λ segments. before_of code (last_or None segments)) (sym same);
    }

pub returns-then-not-self-clause-answered : goal.returns-then-not-self-clause-answered
returns-then-not-self-clause-answered g c = λ marks h begins.
    let code = g.C.CodePlan.code in
    answers_same code (segments_by code marks) _ (same_opened c.args.self.now code c.args.mark.now marks begins c.if-not-self.true h.kept)

pub returns-clause-heard : goal.returns-clause-heard
returns-clause-heard g c = λ marks h begins.
    let code = g.C.CodePlan.code in
    let mark = c.args.mark.now in
    let segment : Segment = record { marks = h.kept.current; close = mark.at } in
    let closed : Closed = record { close = mark.at; judged = c.judge.result; has_leap = c.has_leap_second.result } in
    let says = judged_is code segment c.judge.result (c.judge.ensures.ok h.kept.current h.kept.read) (c.judge.ensures.err h.kept.current h.kept.read) in
    let grows = segments_closed c.args.self.now code mark marks begins c.if-not-self.false h.kept in
    record {
      kept = heard_begun c.args.self.now _ code mark marks begins h.kept c.begin-2.ensures.frame c.begin-2.ensures.opened;
      before = c.before_by-before.ensures ∙ before_closed code (segments_by code marks) _ segment closed grows refl says;
    }

pub returns-clause-answered : goal.returns-clause-answered
returns-clause-answered g c = λ marks h begins.
    let code = g.C.CodePlan.code in
    let mark = c.args.mark.now in
    let segment : Segment = record { marks = h.kept.current; close = mark.at } in
    let closed : Closed = record { close = mark.at; judged = c.judge.result; has_leap = c.has_leap_second.result } in
    let says = judged_is code segment c.judge.result (c.judge.ensures.ok h.kept.current h.kept.read) (c.judge.ensures.err h.kept.current h.kept.read) in
    let grows = segments_closed c.args.self.now code mark marks begins c.if-not-self.false h.kept in
    answers_closed code (segments_by code marks) _ segment closed c.answer-kind.result grows refl says (c.has_leap_second.ensures h.kept.current h.kept.read)
    (c.answer-kind.ensures.kind ∙ ap (λ (before : Before). answer_by before closed) h.before)
