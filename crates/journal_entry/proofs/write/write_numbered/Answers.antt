-- What the search leaves open of `write::write_numbered`.
use Rattle.std.proofs.Common.{◌≡◌, drop, rules}
use Rattle.journal_entry.proofs.WritingLaws.{adds_both}
use Rattle.journal_entry.proofs.write.write_numbered.Goals as goal

pub returns-clause-rest : goal.returns-clause-rest
returns-clause-rest c =
    let begin = c.new-text.result in
    let length = adds_both begin c.add.new.self c.number.new.self _ _ c.add.ensures c.number.ensures.text in
    let rate = adds_both begin c.number.new.self c.rate.new.self _ _ length c.rate.ensures.text in
    let feed = adds_both begin c.rate.new.self c.number-2.new.self _ _ rate c.number-2.ensures.text in
    let prefix = adds_both begin c.number-2.new.self c.moment.new.self _ _ feed c.moment.ensures.text in
    let all = adds_both begin c.moment.new.self c.write_what.new.text _ _ prefix c.write_what.ensures.text.adds in
    let rest : drop c.len.result c.write_what.new.text.out.now ≡ drop c.len.result c.args.out.now = cc (all.rest, c.new-text.ensures.same, c.len.ensures) in
    search (rules, rest)
