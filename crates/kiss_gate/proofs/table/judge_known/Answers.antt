-- What the proof of `table::judge_known` needs.
use Rattle.std.proofs.Common.{◌∙◌, ap, Some}
use Rattle.lru.specs.LruCache.{lru_cache}
use Rattle.kiss_gate.specs.Clients.{in_front}
use Rattle.kiss_gate.proofs.TableLaws.{set-in_front, all-kept, stays, renews}
use Rattle.kiss_gate.proofs.table.judge_known.Goals as goal

pub returns-in-Some-clause-soon : goal.returns-in-Some-clause-soon
returns-in-Some-clause-soon c = λ rate.
    let a = c.args in
    let es = a.clients.now.entries in
    let last = c.in-Some.last.now in
    let found = c.in-Some.ensures.value in
    let same = stays a.gap a.at last c.renew.new.last c.renew.result c.renew.ensures.code c.renew.ensures.moment rate in
    ap (λ l. lru_cache l a.clients.now.cap)
    (set-in_front a.ip last c.renew.new.last es found ∙ ap (λ at. in_front a.ip (Some at) es) same ∙ ap (λ o. in_front a.ip o es) found)

pub returns-in-Some-clause-passed : goal.returns-in-Some-clause-passed
returns-in-Some-clause-passed c = λ pass.
    let a = c.args in
    let es = a.clients.now.entries in
    let last = c.in-Some.last.now in
    let found = c.in-Some.ensures.value in
    let new = renews a.gap a.at last c.renew.new.last c.renew.result c.renew.ensures.code c.renew.ensures.moment pass in
    ap (λ l. lru_cache l a.clients.now.cap)
    (set-in_front a.ip last c.renew.new.last es found
    ∙ ap (λ at. in_front a.ip (Some at) es) new
    ∙ all-kept a.ip last a.at a.clients.now.cap es c.len-few.ensures.valid.1 found)
