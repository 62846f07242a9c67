-- What the search leaves open of `serve::cause::with_next`.
use Rattle.std.proofs.Common.{[], ◌∷◌, ◌++◌, Option, sym, subst}
use Rattle.std.specs.Option.{option_to_list}
use Rattle.station_report.specs.Crewing.{HasLeast}
use Rattle.station_report.specs.Headline.{IsFirstOfLeast}
use Rattle.command_ends.specs.declared.ending.Ending.{Ending}
use Rattle.station_report.proofs.CauseLaws.{least_of_two}
use Rattle.station_report.proofs.cause.with_next.Goals as goal

pub returns-in-Some-Some : goal.returns-in-Some-Some
returns-in-Some-Some c = λ all h.
    let start = subst (λ (o : Option Ending). HasLeast all o) c.in-Some-Some.is-0 h in
    subst (λ (o : Option Ending). IsFirstOfLeast (all ++ option_to_list o) c.least.result) (sym c.in-Some-Some.is-1)
    (subst (λ (e : Ending). IsFirstOfLeast (all ++ c.in-Some-Some.next ∷ []) e) (sym c.least.ensures) (least_of_two all c.in-Some-Some.first c.in-Some-Some.next start))
