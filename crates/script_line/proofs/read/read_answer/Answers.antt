-- What the search leaves open of `read::read_answer`.
use Rattle.std.proofs.Common.{◌≡◌, [], ◌∷◌, Some, decimal, refl}
use Rattle.hex.specs.Hex.{encode_lower}
use Rattle.script_line.specs.declared.line.ScriptLine.TheVariants.{Answer}
use Rattle.script_line.proofs.read.read_answer.Goals as goal

pub returns-in_err-feed-clause-every : goal.returns-in_err-feed-clause-every
returns-in_err-feed-clause-every c = λ feed at bytes h.
    let feed_is = c.next_feed.ensures.every feed (decimal at ∷ encode_lower bytes ∷ []) h.valid.0 h.fields in
    let none = c.in_err-feed.was in
    cc

pub returns-in_err-at-clause-every : goal.returns-in_err-at-clause-every
returns-in_err-at-clause-every c = λ feed at bytes h.
    let feed_is = c.next_feed.ensures.every feed (decimal at ∷ encode_lower bytes ∷ []) h.valid.0 h.fields in
    let at_is = c.next_moment.ensures.every at (encode_lower bytes ∷ []) h.valid.1 feed_is.1 in
    let none = c.in_err-at.was in
    cc

pub returns-in_err-datagram-clause-every : goal.returns-in_err-datagram-clause-every
returns-in_err-datagram-clause-every c = λ feed at bytes h.
    let feed_is = c.next_feed.ensures.every feed (decimal at ∷ encode_lower bytes ∷ []) h.valid.0 h.fields in
    let at_is = c.next_moment.ensures.every at (encode_lower bytes ∷ []) h.valid.1 feed_is.1 in
    let datagram_is = c.datagram.ensures.every bytes h.valid.2 at_is.1 in
    let none = c.in_err-datagram.was in
    cc

pub returns-clause-line : goal.returns-clause-line
returns-clause-line c =
    let feed = c.in_ok-feed.ensures.number in
    let at = c.in_ok-at.ensures.moment in
    let datagram = c.in_ok-datagram.ensures.datagram in
    (record { valid = (feed.0, at.0, datagram.0); fields = feed.1 (decimal c.in_ok-at.at ∷ encode_lower c.in_ok-datagram.datagram ∷ []) (at.1 (encode_lower c.in_ok-datagram.datagram ∷ []) datagram.1) }, refl)

pub returns-clause-every : goal.returns-clause-every
returns-clause-every c = λ feed at bytes h.
    let feed_is = c.next_feed.ensures.every feed (decimal at ∷ encode_lower bytes ∷ []) h.valid.0 h.fields in
    let at_is = c.next_moment.ensures.every at (encode_lower bytes ∷ []) h.valid.1 feed_is.1 in
    let datagram_is = c.datagram.ensures.every bytes h.valid.2 at_is.1 in
    let feed_same : c.in_ok-feed.feed ≡ feed = cc (feed_is.0, c.in_ok-feed.was) in
    let at_same : c.in_ok-at.at ≡ at = cc (at_is.0, c.in_ok-at.was) in
    let datagram_same : c.in_ok-datagram.datagram ≡ bytes = cc (datagram_is, c.in_ok-datagram.was) in
    λ i. Some (Answer (feed_same i) (at_same i) (datagram_same i))
