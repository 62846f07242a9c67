-- What the search leaves open of `radios::Radios+BoxedReceiver::hear`.
use Rattle.std.proofs.Common.{◌≡◌, ◌≤◌, length, refl, subst, arith}
use Rattle.std.proofs.lemmas.Option.{slice_get_read}
use Rattle.replay_command.proofs.RadioLaws.{receives, receives-not}
use Rattle.replay_command.proofs.radios.Radios+BoxedReceiver.hear.Goals as goal

pub returns-then-get-index-clause-heard : goal.returns-then-get-index-clause-heard
returns-then-get-index-clause-heard g c station lines h =
    let radios = c.args.self.now.fitted in
    let at = slice_get_read radios.items (length radios.items) c.args.feed c.index.result.now refl (omega (arith, radios.ok.0)) c.index.ensures in
    receives-not _ c.args.self.now station lines c.args.feed c.args.reduction c.index.result.now at (omega arith) h

pub returns-clause-heard : goal.returns-clause-heard
returns-clause-heard g c station lines h =
    let radios = c.args.self.now.fitted in
    let at = slice_get_read radios.items (length radios.items) c.args.feed c.index_mut.result.now refl (omega (arith, radios.ok.0)) c.index_mut.ensures.value in
    let before = slice_get_read radios.items (length radios.items) c.args.feed c.index.result.now refl (omega (arith, radios.ok.0)) c.index.ensures in
    let same : c.index.result.now ≡ c.index_mut.result.now = cc in
    let timely : c.index_mut.result.now.least ≤ c.args.reduction.at = subst (λ r. r.least ≤ c.args.reduction.at) same (omega arith) in
    receives _ c.args.self.now _ station lines c.args.feed c.args.reduction c.index_mut.result.now c.hear-heard.new.self c.hear-heard.result c.entry_received.result
    at timely
    c.hear-heard.ensures.plan c.hear-heard.ensures.delay c.hear-heard.ensures.least c.hear-heard.ensures.heard c.hear-heard.ensures.answered
    refl refl c.entry_received.ensures.value h
