-- What the search leaves open of `read::read_leap`.
use Rattle.std.proofs.Common.{◌≡◌, [], ◌∷◌, Some, decimal, refl}
use Rattle.script_line.proofs.FieldLaws.{no_fields, left_over}
use Rattle.script_line.specs.declared.line.ScriptLine.TheVariants.{Leap}
use Rattle.script_line.proofs.read.read_leap.Goals as goal

pub returns-in_err-feed-clause-every : goal.returns-in_err-feed-clause-every
returns-in_err-feed-clause-every c = λ feed at leap_at h.
    let feed_is = c.next_feed.ensures.every feed (decimal at ∷ decimal leap_at ∷ []) h.valid.0 h.fields in
    let none = c.in_err-feed.was in
    cc

pub returns-in_err-at-clause-every : goal.returns-in_err-at-clause-every
returns-in_err-at-clause-every c = λ feed at leap_at h.
    let feed_is = c.next_feed.ensures.every feed (decimal at ∷ decimal leap_at ∷ []) h.valid.0 h.fields in
    let at_is = c.next_moment.ensures.every at (decimal leap_at ∷ []) h.valid.1 feed_is.1 in
    let none = c.in_err-at.was in
    cc

pub returns-in_err-leap_at-clause-every : goal.returns-in_err-leap_at-clause-every
returns-in_err-leap_at-clause-every c = λ feed at leap_at h.
    let feed_is = c.next_feed.ensures.every feed (decimal at ∷ decimal leap_at ∷ []) h.valid.0 h.fields in
    let at_is = c.next_moment.ensures.every at (decimal leap_at ∷ []) h.valid.1 feed_is.1 in
    let leap_is = c.next_second.ensures.every leap_at [] h.valid.2 at_is.1 in
    let none = c.in_err-leap_at.was in
    cc

pub returns-then-is_empty-clause-line : goal.returns-then-is_empty-clause-line
returns-then-is_empty-clause-line c =
    let feed = c.in_ok-feed.ensures.number in
    let at = c.in_ok-at.ensures.moment in
    let leap = c.in_ok-leap_at.ensures.second in
    let none = no_fields c.next_second.new.self c.is_empty.result c.is_empty.ensures c.if-is_empty.true in
    (record { valid = (feed.0, at.0, leap.0); fields = feed.1 (decimal c.in_ok-at.at ∷ decimal c.in_ok-leap_at.leap_at ∷ []) (at.1 (decimal c.in_ok-leap_at.leap_at ∷ []) (leap.1 [] none)) }, refl)

pub returns-then-is_empty-clause-every : goal.returns-then-is_empty-clause-every
returns-then-is_empty-clause-every c = λ feed at leap_at h.
    let feed_is = c.next_feed.ensures.every feed (decimal at ∷ decimal leap_at ∷ []) h.valid.0 h.fields in
    let at_is = c.next_moment.ensures.every at (decimal leap_at ∷ []) h.valid.1 feed_is.1 in
    let leap_is = c.next_second.ensures.every leap_at [] h.valid.2 at_is.1 in
    let feed_same : c.in_ok-feed.feed ≡ feed = cc (feed_is.0, c.in_ok-feed.was) in
    let at_same : c.in_ok-at.at ≡ at = cc (at_is.0, c.in_ok-at.was) in
    let leap_same : c.in_ok-leap_at.leap_at ≡ leap_at = cc (leap_is.0, c.in_ok-leap_at.was) in
    λ i. Some (Leap (feed_same i) (at_same i) (leap_same i))

pub returns-else-is_empty-clause-every : goal.returns-else-is_empty-clause-every
returns-else-is_empty-clause-every c = λ feed at leap_at h.
    let feed_is = c.next_feed.ensures.every feed (decimal at ∷ decimal leap_at ∷ []) h.valid.0 h.fields in
    let at_is = c.next_moment.ensures.every at (decimal leap_at ∷ []) h.valid.1 feed_is.1 in
    let leap_is = c.next_second.ensures.every leap_at [] h.valid.2 at_is.1 in
    absurd (left_over c.next_second.new.self c.is_empty.result c.is_empty.ensures c.if-is_empty.false leap_is.1)
