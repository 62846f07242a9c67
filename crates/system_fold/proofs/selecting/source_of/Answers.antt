-- What the search leaves open of `selecting::source_of`.
use Rattle.std.proofs.Common.{◌∙◌, ap, sym}
use Rattle.std.specs.Prelude.{Some}
use Rattle.system_fold.specs.declared.source.Source.{Source}
use Rattle.system_fold.proofs.UpwardLaws.{found-at}
use Rattle.system_fold.proofs.selecting.source_of.Goals as goal

pub returns-then-source-feed : goal.returns-then-source-feed
returns-then-source-feed c =
    let fit = c.args.fit.now in
    let s = c.index-fit-place.result in
    ap (λ (t : Source). Some t) c.index-fit-place.is
    ∙ sym (found-at fit c.args.feed c.args.feed s c.requires c.if-place-fit.true (ap (λ (t : Source). t.feed) (sym c.index-fit-place.is) ∙ c.if-source-feed.true))
