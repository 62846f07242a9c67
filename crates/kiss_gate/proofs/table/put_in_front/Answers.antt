-- What the proof of `table::put_in_front` needs.
use Rattle.std.proofs.Common.{◌∙◌, ap}
use Rattle.lru.specs.LruCache.{lru_cache}
use Rattle.kiss_gate.proofs.TableLaws.{put-in_front}
use Rattle.kiss_gate.proofs.table.put_in_front.Goals as goal

pub returns-in-Ok-clause-stored : goal.returns-in-Ok-clause-stored
returns-in-Ok-clause-stored c = λ _.
    let valid = c.len-within.ensures.valid in
    c.in-Ok.ensures.entries ∙ ap (λ es. lru_cache es c.args.clients.now.cap) (put-in_front c.args.clients.now c.args.ip c.args.at valid.1 valid.2)
