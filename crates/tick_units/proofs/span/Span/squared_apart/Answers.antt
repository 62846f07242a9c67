-- What the proof of `span::Span::squared_apart` needs.
use Rattle.std.proofs.Common.{rules, ◌≤◌}
use Rattle.std.proofs.lemmas.Nat.{mul-le}
use Rattle.tick_units.proofs.span.Span.squared_apart.Goals as goal

-- src/span.rt:75:5
pub returns-clause-small : goal.returns-clause-small
returns-clause-small c = let most : c.min-apart.result ≤ 1099511627776 = search rules in mul-le c.min-apart.result c.min-apart.result 1099511627776 1099511627776 most most
