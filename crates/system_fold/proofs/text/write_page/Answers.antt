-- What the search leaves open of `text::write_page`.
use Rattle.std.proofs.Common.{◌≡◌, drop, rules}
use Rattle.journal_entry.proofs.WritingLaws.{adds_both}
use Rattle.system_fold.proofs.text.write_page.Goals as goal

pub returns-clause-rest : goal.returns-clause-rest
returns-clause-rest c =
    let all = adds_both c.new-text.result c.add.new.self c.write_fields.new.text _ _ c.add.ensures c.write_fields.ensures.text.adds in
    let rest : drop c.len.result c.write_fields.new.text.out.now ≡ drop c.len.result c.args.out.now = cc (all.rest, c.new-text.ensures.same, c.len.ensures) in
    search (rules, rest)
