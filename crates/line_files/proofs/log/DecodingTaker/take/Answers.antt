-- What the search leaves open of `log::DecodingTaker::take`.
use Rattle.line_files.proofs.LogTakingLaws.{decoded_on}
use Rattle.line_files.proofs.log.DecodingTaker.take.Goals as goal

pub returns-clause-holds : goal.returns-clause-holds
returns-clause-holds g c = λ plan before text h.
    decoded_on _ c.args.self.now _ plan before _ text c.give_found.new.line h c.next_entry-step.result.found c.give_found.result (c.next_entry-step.ensures.taken 0 plan 0 before h.decoded) c.give_found.ensures.gives c.give_found.ensures.counted
