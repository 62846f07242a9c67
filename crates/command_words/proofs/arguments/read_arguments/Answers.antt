-- What the search leaves open of `arguments::read_arguments`.
use Rattle.std.proofs.Common.{◌∙◌, Err, None, ap, map}
use Rattle.command_words.specs.Faults.{Reading, part, read_after}
use Rattle.command_words.proofs.ReadLaws.{all_read, none_waits, one_waits, same_fault}
use Rattle.command_words.proofs.arguments.read_arguments.Goals as goal

pub returns-in-Option-clause-bad : goal.returns-in-Option-clause-bad
returns-in-Option-clause-bad c = λ f same.
    let all : Reading = read_after None (map (λ t. t.now) c.args.texts.now) in
    let ended = all_read (map part c.loop-text.read.items) c.loop-text.before c.args.texts.now c.loop-text.text-index all c.loop-text-test.false c.loop-text.invariant in
    one_waits (map part c.loop-text.read.items) c.loop-text.before c.in-Option.option all c.in-Option.is ended ∙ ap Err (same_fault _ f same)

pub returns-clause-read : goal.returns-clause-read
returns-clause-read c =
    let all : Reading = read_after None (map (λ t. t.now) c.args.texts.now) in
    none_waits (map part c.loop-text.read.items) c.loop-text.before all c.in-Nothing.is
    (all_read (map part c.loop-text.read.items) c.loop-text.before c.args.texts.now c.loop-text.text-index all c.loop-text-test.false c.loop-text.invariant)
