-- What the search leaves open of `rows::command`.
use Rattle.std.proofs.Common.{rules, ◌≡◌, Some, option_map, codes}
use Rattle.clap.specs.Words.{found_of, rows_of}
use Rattle.command_words.specs.Commands.{asked, name_of}
use Rattle.command_words.specs.Matches.{Fit}
use Rattle.command_words.proofs.AskedLaws.{of_decode, of_drill, of_migrate, of_replay, of_serve}
use Rattle.command_words.proofs.rows.command.Goals as goal

pub returns-in-decode-clause-every : goal.returns-in-decode-clause-every
returns-in-decode-clause-every c = λ a are.
    let named : name_of a ≡ codes "decode" = search rules in
    of_decode (λ a. Fit (rows_of (found_of c.args.matches.now)) a → option_map asked c.decode.result ≡ Some a) a named c.decode.ensures.every are.fit

pub returns-in-replay-clause-every : goal.returns-in-replay-clause-every
returns-in-replay-clause-every c = λ a are.
    let named : name_of a ≡ codes "replay" = search rules in
    of_replay (λ a. Fit (rows_of (found_of c.args.matches.now)) a → option_map asked c.replay.result ≡ Some a) a named c.replay.ensures.every are.fit

pub returns-in-serve-clause-every : goal.returns-in-serve-clause-every
returns-in-serve-clause-every c = λ a are.
    let named : name_of a ≡ codes "serve" = search rules in
    of_serve (λ a. Fit (rows_of (found_of c.args.matches.now)) a → option_map asked c.serve.result ≡ Some a) a named c.serve.ensures.every are.fit

pub returns-in-migrate-clause-every : goal.returns-in-migrate-clause-every
returns-in-migrate-clause-every c = λ a are.
    let named : name_of a ≡ codes "migrate" = search rules in
    of_migrate (λ a. Fit (rows_of (found_of c.args.matches.now)) a → option_map asked c.migrate.result ≡ Some a) a named c.migrate.ensures.every are.fit

pub returns-in-drill-clause-every : goal.returns-in-drill-clause-every
returns-in-drill-clause-every c = λ a are.
    let named : name_of a ≡ codes "drill" = search rules in
    of_drill (λ a. Fit (rows_of (found_of c.args.matches.now)) a → option_map asked c.drill.result ≡ Some a) a named c.drill.ensures.every are.fit
