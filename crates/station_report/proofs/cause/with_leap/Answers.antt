-- What the search leaves open of `serve::cause::with_leap`.
use Rattle.std.proofs.Common.{◌∙◌, ◌++◌, Option, sym, ap, subst}
use Rattle.std.specs.Option.{option_to_list}
use Rattle.std.proofs.lemmas.List.{append-nil}
use Rattle.feed_workers.specs.declared.work.LogWork.{LogWork}
use Rattle.station_report.specs.Crewing.{HasLeast}
use Rattle.station_report.specs.Headline.{each_cause, log_cause}
use Rattle.station_report.proofs.cause.with_leap.Goals as goal

pub returns-in-Some : goal.returns-in-Some
returns-in-Some c = λ all h.
    subst (λ (o : Option LogWork). HasLeast (all ++ each_cause (λ place (w : LogWork). log_cause place w.end) c.args.feed (option_to_list o)) c.with_next.result) (sym c.in-Some.is)
    (subst (λ l. HasLeast (all ++ l) c.with_next.result) (ap option_to_list c.cause.ensures ∙ sym (append-nil _)) (c.with_next.ensures all h))
