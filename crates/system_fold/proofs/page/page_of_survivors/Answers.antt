-- What the search leaves open of `page::page_of_survivors`.
use Rattle.std.proofs.Common.{◌≡◌, ◌∙◌, sym, ap, pos, ◌^◌, ◌-◌, List}
use Rattle.std.specs.Prelude.{Some, option_map, slice_get}
use Rattle.cluster_core.specs.declared.survivor.Survivor.{Survivor}
use Rattle.system_fold.specs.Fields.{fresh_of}
use Rattle.system_fold.specs.Selecting.{sources_at}
use Rattle.system_fold.proofs.PageLaws.{peer-fit, length-between, long-least, long-most, none-left, page-empty, page-left}
use Rattle.system_fold.proofs.page.page_of_survivors.Goals as goal

pub page_from-requires-clause-peer : goal.page_from-requires-clause-peer
page_from-requires-clause-peer c =
    let first : Some c.in-Some.peer.now ≡ slice_get (sources_at c.args.fit.now c.args.survivors.now) 0 =
    ap (option_map (λ s. s.now)) (sym c.in-Some.is) ∙ c.left_of-left.ensures.peer ∙ ap (λ (xs : List Survivor). slice_get (sources_at c.args.fit.now xs) 0) c.as_slice.ensures.value in
    peer-fit c.args.inputs.now.moment c.args.fit.now c.args.survivors.now c.in-Some.peer.now c.requires.fit first

pub page_from-requires-clause-offset : goal.page_from-requires-clause-offset
page_from-requires-clause-offset c = length-between c.combine.result (c.combine.ensures.least (pos 0) (long-least c.args.survivors.now c.requires.long)) (c.combine.ensures.most (pos (2 ^ 66 - 1)) (long-most c.args.survivors.now c.requires.long))

pub returns-in-Some : goal.returns-in-Some
returns-in-Some c =
    let first : Some c.in-Some.peer.now ≡ slice_get (sources_at c.args.fit.now c.args.survivors.now) 0 =
    ap (option_map (λ s. s.now)) (sym c.in-Some.is) ∙ c.left_of-left.ensures.peer ∙ ap (λ (xs : List Survivor). slice_get (sources_at c.args.fit.now xs) 0) c.as_slice.ensures.value in
    page-left c.args.inputs.now (sources_at c.args.fit.now c.args.survivors.now) c.in-Some.peer.now c.left_of-left.result.fresh c.combine.result _ c.page_from.result first
    (c.left_of-left.ensures.fresh ∙ ap (λ (xs : List Survivor). fresh_of (sources_at c.args.fit.now xs)) c.as_slice.ensures.value) c.combine.ensures.mean c.page_from.ensures

pub returns-in-None : goal.returns-in-None
returns-in-None c =
    c.unsynchronised.ensures
    ∙ sym (page-empty _ _ _ (none-left (sources_at c.args.fit.now c.args.survivors.now) (
    ap (option_map (λ s. s.now)) (sym c.in-None.is) ∙ c.left_of-left.ensures.peer ∙ ap (λ (xs : List Survivor). slice_get (sources_at c.args.fit.now xs) 0) c.as_slice.ensures.value
    )))
