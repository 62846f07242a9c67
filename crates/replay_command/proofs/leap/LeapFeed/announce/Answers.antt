-- What the search leaves open of `leap::LeapFeed::announce`.
use Rattle.std.proofs.Common.{◌≡◌, Some, refl, arith, rules}
use Rattle.replay_command.proofs.LeapLaws.{reports}
use Rattle.replay_command.proofs.leap.LeapFeed.announce.Goals as goal

pub returns-clause-reported : goal.returns-clause-reported
returns-clause-reported c station lines h =
    let own : c.args.self.now.number ≡ Some c.args.feed = search rules in
    let reported = reports c.args.self.now (record { number = c.args.self.now.number; last = c.args.at }) station lines c.args.feed c.args.at c.args.leap_at own (omega arith) refl refl h in
    (reported.0, record { played = reported.1; due_is = refl })
