-- What the search leaves open of `page::Page::of_words`.
use Rattle.std.proofs.Common.{arith}
use Rattle.clock_page.proofs.PageLaws.{anchor-below}
use Rattle.clock_page.proofs.page.Page.of_words.Goals as goal

pub returns-in_err-anchor-clause-every : goal.returns-in_err-anchor-clause-every
returns-in_err-anchor-clause-every c = λ p h. absurd (omega (arith, anchor-below c.args.w p h, c.in_err-anchor.ensures.none))
