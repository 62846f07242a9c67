-- What the search leaves open of `page_words::synced`.
use Rattle.std.proofs.Common.{◌≡◌, ◌%◌, ◌^◌, ◌<◌, rules, true, Some, sym, subst, ap, ◌∙◌, arith, to_z, of_z}
use Rattle.std.specs.Int.{w32}
use Rattle.std.proofs.lemmas.Int.{ints}
use Rattle.clock_page.specs.Page.{AreWords}
use Rattle.clock_page.proofs.PageLaws.{high-below, state-below, synced-page, rate-is, rate-within, spelled-are_words}
use Rattle.clock_page.proofs.page_words.synced.Goals as goal

pub returns-then-state-ge-STATES-clause-every : goal.returns-then-state-ge-STATES-clause-every
returns-then-state-ge-STATES-clause-every c = λ p h. absurd (omega (arith, state-below c.args.w.now p h))

pub returns-in_err-offset-clause-every : goal.returns-in_err-offset-clause-every
returns-in_err-offset-clause-every c = λ p h. absurd (omega (arith, high-below c.args.w.now p h, c.in_err-offset.ensures.none))

pub returns-in_err-rate-clause-every : goal.returns-in_err-rate-clause-every
returns-in_err-rate-clause-every c = λ p h. let none = c.in_err-rate.ensures.none in absurd (omega (arith, rate-within c.args.w.now p h none.0, none.1))

pub returns-clause-page : goal.returns-clause-page
returns-clause-page c =
    let w = c.args.w.now in
    let state = c.high-state.ensures.value in
    let anchor = c.requires.anchor in
    let known = c.in_ok-rate.ensures.some in
    let same : to_z w32 (of_z w32 c.in_ok-rate.rate) ≡ c.in_ok-rate.rate = let least = known.0.least in let most = known.0.most in omega (arith, ints) in
    let spells = spelled-are_words w c.in_ok-rate.rate (record {
      long = search rules;
      entries = c.whole.ensures.fits;
      synced = c.requires.state;
      stratum = omega arith;
      low = c.in_ok-offset.ensures.low;
      anchor = omega arith;
      until = c.whole-2.ensures.fits;
      root_delay = subst (λ n. n < 2 ^ 32) c.high.ensures.value c.high.ensures.fits;
      reftime = c.whole-3.ensures.fits;
      leap_at = c.whole-4.ensures.fits;
      high = c.in_ok-offset.ensures.high;
      bound = known.0;
      slewed = known.1;
    }) in
    subst (AreWords w) (sym (λ i. record {
      length = c.whole.ensures.value i;
      sync = true;
      stratum = state i % 256;
      refid = c.low.ensures i;
      offset = c.in_ok-offset.ensures.some i;
      anchor = anchor i;
      until = c.whole-2.ensures.value i;
      root_delay = record { 0 = c.high.ensures.value i };
      root_disp = record { 0 = c.low-2.ensures i };
      reftime = record { 0 = c.whole-3.ensures.value i };
      leap_at = c.whole-4.ensures.value i;
      rate = same i;
    })) spells

pub returns-clause-every : goal.returns-clause-every
returns-clause-every c =
    let w = c.args.w.now in
    let state = c.high-state.ensures.value in
    let anchor = c.requires.anchor in
    let known = c.in_ok-rate.ensures.some in
    let same : to_z w32 (of_z w32 c.in_ok-rate.rate) ≡ c.in_ok-rate.rate = let least = known.0.least in let most = known.0.most in omega (arith, ints) in
    λ p h. ap Some ((λ i. record {
      length = c.whole.ensures.value i;
      sync = true;
      stratum = state i % 256;
      refid = c.low.ensures i;
      offset = c.in_ok-offset.ensures.some i;
      anchor = anchor i;
      until = c.whole-2.ensures.value i;
      root_delay = record { 0 = c.high.ensures.value i };
      root_disp = record { 0 = c.low-2.ensures i };
      reftime = record { 0 = c.whole-3.ensures.value i };
      leap_at = c.whole-4.ensures.value i;
      rate = (same ∙ rate-is w p c.in_ok-rate.rate h known.0 known.1) i;
    }) ∙ sym (synced-page w p h c.requires.state))
