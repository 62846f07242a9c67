-- What the search leaves open of `day::make_logs`.
use Rattle.drill_day.proofs.DayLaws.{day_is}
use Rattle.drill_day.proofs.day.make_logs.Goals as goal

pub returns-clause-due : goal.returns-clause-due
returns-clause-due g c = λ feed plan. day_is feed plan c.args.seed
