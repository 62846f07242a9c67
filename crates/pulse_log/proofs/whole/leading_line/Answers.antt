-- What the proof of `whole::leading_line` needs.
use Rattle.std.proofs.Common.{ℕ, [], ◌∷◌, ◌++◌, decimal, ap, sym, ◌∙◌}
use Rattle.pulse_log.proofs.WholeLaws.{line_is}
use Rattle.pulse_log.proofs.whole.leading_line.Goals as goal

pub returns-clause-text : goal.returns-clause-text
returns-clause-text c =
    let start = c.in_ok-start.start in
    let width = c.in_ok-width.width in
    let space = c.in-Some-eq32.ensures.lookup.3 in
    let feed = c.in-Some-eq10.ensures.lookup.3 in
    line_is c.args.bytes.now c.split_at.result.1.now start.count width.count start.found width.found c.split_at.ensures.back
    c.in_ok-start.ensures.text space.0 (sym (space.1 0) ∙ c.in-Some-eq32.field-0-test)
    c.in_ok-width.ensures.text feed.0 (sym (feed.1 0) ∙ c.in-Some-eq10.field-0-test)
    ∙ ap (λ (n : ℕ). (decimal n ++ 32 ∷ decimal width.found) ++ 10 ∷ []) (sym c.in_ok-at.ensures.some.0)
