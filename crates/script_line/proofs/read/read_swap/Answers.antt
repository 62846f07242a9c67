-- What the search leaves open of `read::read_swap`.
use Rattle.std.proofs.Common.{◌≡◌, [], Some, refl}
use Rattle.script_line.proofs.FieldLaws.{no_fields, left_over}
use Rattle.script_line.specs.declared.line.ScriptLine.TheVariants.{Swap}
use Rattle.script_line.proofs.read.read_swap.Goals as goal

pub returns-in_err-feed-clause-every : goal.returns-in_err-feed-clause-every
returns-in_err-feed-clause-every c = λ feed h.
    let feed_is = c.next_feed.ensures.every feed [] h.valid h.fields in
    let none = c.in_err-feed.was in
    cc

pub returns-then-is_empty-clause-line : goal.returns-then-is_empty-clause-line
returns-then-is_empty-clause-line c =
    let feed = c.in_ok-feed.ensures.number in
    let none = no_fields c.next_feed.new.self c.is_empty.result c.is_empty.ensures c.if-is_empty.true in
    (record { valid = feed.0; fields = feed.1 [] none }, refl)

pub returns-then-is_empty-clause-every : goal.returns-then-is_empty-clause-every
returns-then-is_empty-clause-every c = λ feed h.
    let feed_is = c.next_feed.ensures.every feed [] h.valid h.fields in
    let feed_same : c.in_ok-feed.feed ≡ feed = cc (feed_is.0, c.in_ok-feed.was) in
    λ i. Some (Swap (feed_same i))

pub returns-else-is_empty-clause-every : goal.returns-else-is_empty-clause-every
returns-else-is_empty-clause-every c = λ feed h.
    let feed_is = c.next_feed.ensures.every feed [] h.valid h.fields in
    absurd (left_over c.next_feed.new.self c.is_empty.result c.is_empty.ensures c.if-is_empty.false feed_is.1)
