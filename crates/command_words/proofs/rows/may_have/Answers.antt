-- What the search leaves open of `rows::may_have`.
use Rattle.std.proofs.Common.{rules}
use Rattle.command_words.proofs.RowLaws.{may_have_some}
use Rattle.command_words.proofs.rows.may_have.Goals as goal

pub returns-then-is_in : goal.returns-then-is_in
returns-then-is_in c = search (rules, may_have_some c.args.row.now c.args.name.now c.args.value c.in-Some.text c.in-Some.is)

pub returns-else-is_in : goal.returns-else-is_in
returns-else-is_in c = search (rules, may_have_some c.args.row.now c.args.name.now c.args.value c.in-Some.text c.in-Some.is)
