-- What the search leaves open of `read::read_pulse`.
use Rattle.std.proofs.Common.{◌≡◌, [], ◌∷◌, Some, decimal, refl}
use Rattle.script_line.proofs.FieldLaws.{no_fields, left_over}
use Rattle.script_line.specs.declared.line.ScriptLine.TheVariants.{Pulse}
use Rattle.script_line.proofs.read.read_pulse.Goals as goal

pub returns-in_err-feed-clause-every : goal.returns-in_err-feed-clause-every
returns-in_err-feed-clause-every c = λ feed reduction h.
    let feed_is = c.next_feed.ensures.every feed (decimal reduction.at ∷ decimal reduction.width ∷ []) h.valid.0 h.fields in
    let none = c.in_err-feed.was in
    cc

pub returns-in_err-at-clause-every : goal.returns-in_err-at-clause-every
returns-in_err-at-clause-every c = λ feed reduction h.
    let feed_is = c.next_feed.ensures.every feed (decimal reduction.at ∷ decimal reduction.width ∷ []) h.valid.0 h.fields in
    let at_is = c.next_moment.ensures.every reduction.at (decimal reduction.width ∷ []) h.valid.1.at feed_is.1 in
    let none = c.in_err-at.was in
    cc

pub returns-in_err-width-clause-every : goal.returns-in_err-width-clause-every
returns-in_err-width-clause-every c = λ feed reduction h.
    let feed_is = c.next_feed.ensures.every feed (decimal reduction.at ∷ decimal reduction.width ∷ []) h.valid.0 h.fields in
    let at_is = c.next_moment.ensures.every reduction.at (decimal reduction.width ∷ []) h.valid.1.at feed_is.1 in
    let width_is = c.next_width.ensures.every reduction.width [] h.valid.1.least h.valid.1.most at_is.1 in
    let none = c.in_err-width.was in
    cc

pub returns-then-is_empty-clause-line : goal.returns-then-is_empty-clause-line
returns-then-is_empty-clause-line c =
    let feed = c.in_ok-feed.ensures.number in
    let at = c.in_ok-at.ensures.moment in
    let width = c.in_ok-width.ensures.width in
    let none = no_fields c.next_width.new.self c.is_empty.result c.is_empty.ensures c.if-is_empty.true in
    (record { valid = (feed.0, record { at = at.0; least = width.0; most = width.1 }); fields = feed.1 (decimal c.in_ok-at.at ∷ decimal c.in_ok-width.width ∷ []) (at.1 (decimal c.in_ok-width.width ∷ []) (width.2 [] none)) }, refl)

pub returns-then-is_empty-clause-every : goal.returns-then-is_empty-clause-every
returns-then-is_empty-clause-every c = λ feed reduction h.
    let feed_is = c.next_feed.ensures.every feed (decimal reduction.at ∷ decimal reduction.width ∷ []) h.valid.0 h.fields in
    let at_is = c.next_moment.ensures.every reduction.at (decimal reduction.width ∷ []) h.valid.1.at feed_is.1 in
    let width_is = c.next_width.ensures.every reduction.width [] h.valid.1.least h.valid.1.most at_is.1 in
    let feed_same : c.in_ok-feed.feed ≡ feed = cc (feed_is.0, c.in_ok-feed.was) in
    let at_same : c.in_ok-at.at ≡ reduction.at = cc (at_is.0, c.in_ok-at.was) in
    let width_same : c.in_ok-width.width ≡ reduction.width = cc (width_is.0, c.in_ok-width.was) in
    λ i. Some (Pulse (feed_same i) (record { at = at_same i; width = width_same i }))

pub returns-else-is_empty-clause-every : goal.returns-else-is_empty-clause-every
returns-else-is_empty-clause-every c = λ feed reduction h.
    let feed_is = c.next_feed.ensures.every feed (decimal reduction.at ∷ decimal reduction.width ∷ []) h.valid.0 h.fields in
    let at_is = c.next_moment.ensures.every reduction.at (decimal reduction.width ∷ []) h.valid.1.at feed_is.1 in
    let width_is = c.next_width.ensures.every reduction.width [] h.valid.1.least h.valid.1.most at_is.1 in
    absurd (left_over c.next_width.new.self c.is_empty.result c.is_empty.ensures c.if-is_empty.false width_is.1)
