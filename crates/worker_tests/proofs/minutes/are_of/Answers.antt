-- What the search leaves open of `minutes::are_of`.
use Rattle.std.proofs.Common.{◌≡◌, ◌++◌, ◌∷◌, [], ℕ, ◌+◌, ◌≤◌, ◌∙◌, List, ap, subst, sym, length, arith, length-append}
use Rattle.system_fold.proofs.StandingLaws.{feeds-length}
use Rattle.system_fold.specs.declared.feed.Feed.{Feed}
use Rattle.worker_tests.proofs.minutes.are_of.Goals as goal

pub step-requires-clause-valid : goal.step-requires-clause-valid
step-requires-clause-valid c =
    let i = c.loop-number.invariant in
    let feeds = ap (λ (fs : List Feed). length fs) i.stands.feeds ∙ feeds-length c.args.settings.now i.list in
    let e = c.in-Some-minute.ensures in
    let own = e.0 in
    let some = c.requires.some in
    record { feed = omega (arith, feeds, own, some); what = e.1 }

pub loop-number-preserved : goal.loop-number-preserved
loop-number-preserved c =
    let i = c.loop-number.invariant in
    let few = i.few in
    record {
      list = i.list ++ c.in-Some-minute.entry ∷ [];
      stands = c.step.ensures c.args.settings.now i.list i.stands;
      few = omega (arith, few, length-append i.list (c.in-Some-minute.entry ∷ []));
    }
