-- What the search leaves open of `selecting::left_of`.
use Rattle.std.proofs.Common.{◌++◌, ◌∙◌, [], ap, sym, List, take}
use Rattle.std.specs.Prelude.{Option, slice_get}
use Rattle.std.specs.List.{cons_option}
use Rattle.system_fold.specs.Fields.{fresh_of}
use Rattle.system_fold.specs.Selecting.{sources_at}
use Rattle.system_fold.specs.declared.source.Source.{Source}
use Rattle.system_fold.proofs.PageLaws.{sources-more}
use Rattle.system_fold.proofs.selecting.left_of.Goals as goal

pub loop-survivor-preserved : goal.loop-survivor-preserved
loop-survivor-preserved c =
    let fit = c.args.fit.now in
    let prefix = sources_at fit (take c.loop-survivor.survivor-index c.args.survivors.now) in
    let more = ap (λ (o : Option Source). prefix ++ cons_option o []) c.source_of-source.ensures ∙ sym (sources-more fit c.args.survivors.now c.loop-survivor.survivor-index c.survivor-item.result c.loop-survivor-test.true c.survivor-item.is) in
    record {
      peer = c.first_of.ensures prefix c.loop-survivor.invariant.peer ∙ ap (λ (xs : List Source). slice_get xs 0) more;
      fresh = c.fresher.ensures prefix c.loop-survivor.invariant.fresh ∙ ap fresh_of more;
    }
