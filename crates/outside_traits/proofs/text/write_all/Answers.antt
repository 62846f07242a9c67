-- What the search leaves open of `write_all`.
use Rattle.std.proofs.Common.{◌++◌, take, drop, ap, sym, ◌∙◌, append_assoc}
use Rattle.std.proofs.lemmas.List.{take-append-drop}
use Rattle.outside_traits.proofs.WritingLaws.{writes_more}
use Rattle.outside_traits.proofs.text.write_all.Goals as goal

pub rest-preserved : goal.rest-preserved
rest-preserved g c =
    let before = c.rest.invariant in
    let count = c.in_ok-count.count in
    let rest = c.rest.rest.now in
    (before.0 ++ take count rest, rw c.split_at.ensures.back (before.1 ∙ ap (λ t. before.0 ++ t) (sym (take-append-drop count rest)) ∙ sym (append_assoc before.0 (take count rest) (drop count rest))), writes_more _ _ _ before.0 (take count rest) before.2 (c.in_ok-count.ensures.bytes, c.in_ok-count.ensures.cause.kept))
