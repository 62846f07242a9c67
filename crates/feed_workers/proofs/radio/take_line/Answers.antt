-- What the search leaves open of `radio::take_line`.
use Rattle.std.proofs.Common.{Ok, ap, ◌∙◌}
use Rattle.page_cell.specs.Passes.{claim_of}
use Rattle.feed_workers.proofs.LogLaws.{received_nothing, received_entry, received_bad}
use Rattle.feed_workers.proofs.radio.take_line.Goals as goal

pub returns-in-Ok-None-clause-heard : goal.returns-in-Ok-None-clause-heard
returns-in-Ok-None-clause-heard g c = λ tuning begun before h.
    received_nothing _ c.args.decoder.now c.next_entry-count.new.self tuning _ before _ h c.next_entry-count.result.found
    (c.next_entry-count.ensures.taken begun.number tuning.plan tuning.delay before h.decoded) (c.in-Ok-None.is ∙ ap Ok c.in-Ok-None.field-0-is)

pub returns-in-Ok-Some-clause-heard : goal.returns-in-Ok-Some-clause-heard
returns-in-Ok-Some-clause-heard g c = λ tuning begun before h.
    received_entry _ c.args.decoder.now c.next_entry-count.new.self tuning _ before _ h c.next_entry-count.result.found c.in-Ok-Some.entry (claim_of c.enter.new.pass.view) c.enter.new.full
    (c.next_entry-count.ensures.taken begun.number tuning.plan tuning.delay before h.decoded) (c.in-Ok-Some.is ∙ ap Ok c.in-Ok-Some.field-0-is) (c.enter.ensures.kept begun)

pub returns-in-Err-clause-heard : goal.returns-in-Err-clause-heard
returns-in-Err-clause-heard g c = λ tuning begun before h.
    received_bad _ c.args.decoder.now c.next_entry-count.new.self tuning _ before _ h c.next_entry-count.result.found c.in-Err.bad
    (c.next_entry-count.ensures.taken begun.number tuning.plan tuning.delay before h.decoded) c.in-Err.is
