-- What the search leaves open of `leaps::names_no_leap`.
use Rattle.std.proofs.Common.{rules, IsTrue, ◌↔◌}
use Rattle.drill_day.specs.Orders.{NamesNoLeap}
use Rattle.drill_day.proofs.OrderLaws.{page-kept}
use Rattle.drill_day.proofs.leaps.names_no_leap.Goals as goal

pub returns-clause-page : goal.returns-clause-page
returns-clause-page c =
    let names : IsTrue c.all.result ↔ NamesNoLeap c.args.journal.now = search rules in
    λ named settings other keeps. page-kept settings c.args.journal.now other (names.0 named) keeps
