use Rattle.std.proofs.Common.{[], subst}
use Rattle.clock_page.specs.Page.{AreWords}
use Rattle.page_cell.proofs.Places.{reading-whole}
use Rattle.page_cell.proofs.Turns.{starts}
use Rattle.page_cell.proofs.opening.first_pass.Goals as goal

pub of_words-requires : goal.of_words-requires
of_words-requires c =
    let e = c.first_words.ensures in
    let p = c.page.ensures c.args.s.now [] c.new.ensures in
    let are : AreWords c.to_words-ten.result c.page.result = record { page = c.to_words-ten.ensures.page; words = c.to_words-ten.ensures.words } in
    starts c.args.s.now c.first_words.result c.to_words-ten.result e.0 e.1 (reading-whole c.args.s.now [] c.to_words-ten.result (subst (AreWords c.to_words-ten.result) p are)) e.2
