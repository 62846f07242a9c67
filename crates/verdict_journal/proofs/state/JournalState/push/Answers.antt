-- What the search leaves open of `JournalState::push`.
use Rattle.std.proofs.Common.{◌≡◌, ℕ, ◌+◌, ◌<◌, List, [], ◌∷◌, ◌++◌, length, rules, sym, ap, ◌∙◌, subst, arith, length-append}
use Rattle.std.specs.Prelude.{vec_capacity}
use Rattle.journal_entry.specs.Valid.{IsValid}
use Rattle.page_cell.specs.Passes.{key_of}
use Rattle.system_fold.proofs.StandingLaws.{feeds-length}
use Rattle.system_fold.specs.KeptFold.{StandsForJournal}
use Rattle.system_fold.specs.Settings.{SettingsFields}
use Rattle.system_fold.specs.declared.feed.Feed.{Feed}
use Rattle.verdict_journal.proofs.NumberLaws.{numbered-push}
use Rattle.verdict_journal.specs.Journals.{numbered_of}
use Rattle.verdict_journal.proofs.state.JournalState.push.Goals as goal

pub step-requires-clause-valid : goal.step-requires-clause-valid
step-requires-clause-valid g c =
    let b = c.self.inside.baton in
    let feeds = ap (λ (fs : List Feed). length fs) c.self.invariant.0.folded.feeds ∙ feeds-length (key_of b.view) b.view.list ∙ ap (λ (s : SettingsFields). length s.sources) c.self.invariant.2 in
    subst (λ (n : ℕ). IsValid n c.args.e) (sym feeds) c.requires.valid

pub invariant_of-self-2 : goal.invariant_of-self-2
invariant_of-self-2 g c =
    let i = c.self.invariant.0 in
    let s = key_of c.self.inside.baton.view in
    let old = c.self.inside.baton.view.list in
    let e = c.args.e in
    let p = c.publish-length in
    let lines : c.push_reserved.new.self.items ≡ c.self.inside.lines.items ++ record { length = p.result; rate = c.page-page.result.rate; entry = e } ∷ [] = search rules in
    let folded : StandsForJournal c.step.new.self s (old ++ e ∷ []) = c.step.ensures s old i.folded in
    let page = c.page-page.ensures s (old ++ e ∷ []) folded in
    let longer = length-append old (e ∷ []) in
    let all = ap length p.ensures.list in
    let number : p.result ≡ length old + 1 = omega (arith, p.ensures.length, all, longer) in
    let below : c.len.result < c.self.inside.limit = search rules in
    let many : c.len.result ≡ length c.self.inside.lines.items = search rules in
    let more = ap length lines in
    let room : vec_capacity c.push_reserved.new.self ≡ vec_capacity c.self.inside.lines = search rules in (
      record {
        lines_are = lines
            ∙ (λ k. i.lines_are k ++ record { length = number k; rate = (page k).rate; entry = e } ∷ [])
            ∙ sym (numbered-push s old e)
            ∙ (λ k. numbered_of (sym p.ensures.settings k) (sym p.ensures.list k));
        count = omega (arith, more, all, longer, i.count, length-append c.self.inside.lines.items (record { length = p.result; rate = c.page-page.result.rate; entry = e } ∷ []));
        folded = subst (λ (z : SettingsFields). StandsForJournal c.step.new.self z p.new.b.view.list) (sym p.ensures.settings) (subst (StandsForJournal c.step.new.self s) (sym p.ensures.list) folded);
        within = omega (arith, below, many, all, longer, i.count);
        most = i.most;
        room = omega (arith, room, i.room);
      },
      p.ensures.cell.0 ∙ c.self.invariant.1,
      p.ensures.settings ∙ c.self.invariant.2,
      c.self.invariant.3,
    )
