-- What the search leaves open of `leaps::Leaps::step`.
use Rattle.std.proofs.Common.{ℕ, max, ap, ◌∙◌}
use Rattle.system_fold.specs.Leaps.{verdict_in}
use Rattle.system_fold.specs.KeptFold.{or_older}
use Rattle.system_fold.specs.declared.leaps.Leaps.{Leaps}
use Rattle.system_fold.proofs.LeapLaws.{stands_push}
use Rattle.system_fold.proofs.leaps.Leaps.step.Goals as goal

pub returns-clause-leaps : goal.returns-clause-leaps
returns-clause-leaps c = λ journal h.
    let v = c.note_verdict.ensures in
    let w = c.note_word.ensures in
    stands_push c.args.self.now _ c.args.e.now journal c.requires (record {
      now = c.later-self.ensures.value ∙ ap (λ (s : Leaps). max s.latest c.args.e.now.at) v ∙ ap (λ (s : Leaps). max s.latest c.args.e.now.at) w;
      verdict = ap (λ (s : Leaps). s.verdict) v ∙ ap (λ (s : Leaps). or_older (verdict_in c.args.e.now.at c.args.e.now.what) s.verdict) w;
      words = ap (λ (s : Leaps). s.words) v ∙ ap (λ (s : Leaps). s.words) w;
      cut = c.max-self.ensures ∙ ap (λ (s : Leaps). max s.cut c.last_passed.result) v ∙ ap (λ (s : Leaps). max s.cut c.last_passed.result) w ∙ ap (λ (n : ℕ). max c.args.self.now.cut n) (c.last_passed.ensures ∙ c.announcing.ensures.passed _ _);
    }) h
