-- What the search leaves open of `page_words::blank`.
use Rattle.std.proofs.Common.{slice_index, sym, ap, ◌∙◌}
use Rattle.clock_page.specs.Page.{unsynchronised}
use Rattle.clock_page.proofs.PageLaws.{unsynced-page}
use Rattle.clock_page.proofs.page_words.blank.Goals as goal

pub returns : goal.returns
returns c = λ p h.
    let w = c.args.w.now in
    c.unsynchronised.ensures ∙ ap (unsynchronised (slice_index w 0)) c.requires.anchor ∙ sym (unsynced-page w p h c.requires.state)
