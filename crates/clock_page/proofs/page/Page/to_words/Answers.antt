-- What the search leaves open of `page::Page::to_words`.
use Rattle.std.proofs.Common.{◌≡◌, ◌+◌, ◌*◌, ◌/◌, ◌^◌, ◌<ℤ◌, pos, [], ◌∷◌, ap, ◌∙◌, subst, arith, unsigned_abs, to_z, of_z}
use Rattle.std.specs.Int.{from_bool, w32}
use Rattle.std.proofs.lemmas.Int.{ints}
use Rattle.tick_units.specs.Units.{floor_div}
use Rattle.clock_page.specs.Page.{IsPage, word_of, words}
use Rattle.clock_page.proofs.PageLaws.{high_word}
use Rattle.clock_page.proofs.page.Page.to_words.Goals as goal

pub returns-clause-page : goal.returns-clause-page
returns-clause-page c =
    let offset : c.self.inside.offset <ℤ pos (2 ^ 70) = omega (arith, ints) in
    subst IsPage c.self.view_is (record {
      sound = c.self.invariant;
      length = c.whole.ensures.fits;
      stratum = c.state.ensures.stratum;
      refid = c.pair.ensures.low;
      offset = offset;
      anchor = omega arith;
      until = c.whole-2.ensures.fits;
      root_delay = c.pair-2.ensures.high;
      root_disp = c.pair-2.ensures.low;
      reftime = c.whole-3.ensures.fits;
      leap_at = c.whole-4.ensures.fits;
    })

pub returns-clause-words : goal.returns-clause-words
unfolding words
returns-clause-words c =
    let p = c.self.inside in
    let state : c.pair.result ≡ from_bool p.sync * 2 ^ 40 + p.stratum * 2 ^ 32 + p.refid = omega arith in
    let high : c.unsigned_abs.result / 2 ^ 64 ≡ unsigned_abs (floor_div p.offset (2 ^ 64)) = ap (λ n. n / 2 ^ 64) c.unsigned_abs.ensures.value ∙ high_word p.offset c.self.invariant.offset in
    let rate : to_z w32 (of_z w32 p.rate) ≡ p.rate = let least = c.self.invariant.rate.least in let most = c.self.invariant.rate.most in omega (arith, ints) in
    let ninth : c.word_of.result ≡ word_of p.rate = c.word_of.ensures ∙ ap word_of rate in
    (λ i. c.whole.ensures.value i ∷ state i ∷ c.stamp_of.ensures i ∷ c.get.ensures.value i ∷ c.whole-2.ensures.value i ∷ c.pair-2.ensures.value i ∷ c.whole-3.ensures.value i ∷ c.whole-4.ensures.value i ∷ high i ∷ ninth i ∷ []) ∙ ap words c.self.view_is
