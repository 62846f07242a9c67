-- What the search leaves open of `read::read_request`.
use Rattle.std.proofs.Common.{◌≡◌, ◌<◌, ◌≤◌, ◌^◌, [], ◌∷◌, Some, decimal, refl, arith}
use Rattle.hex.specs.Hex.{encode_lower}
use Rattle.script_line.specs.declared.line.ScriptLine.TheVariants.{Request}
use Rattle.script_line.proofs.read.read_request.Goals as goal

pub returns-in_err-connection-clause-every : goal.returns-in_err-connection-clause-every
returns-in_err-connection-clause-every c = λ connection arrived sent bytes h.
    let connection_is = c.next_connection.ensures.every connection (decimal arrived ∷ decimal sent ∷ encode_lower bytes ∷ []) h.valid.0 h.fields in
    let none = c.in_err-connection.was in
    cc

pub returns-in_err-arrived-clause-every : goal.returns-in_err-arrived-clause-every
returns-in_err-arrived-clause-every c = λ connection arrived sent bytes h.
    let order = h.valid.1.order in
    let below = h.valid.1.below in
    let early : arrived < 2 ^ 50 = omega arith in
    let connection_is = c.next_connection.ensures.every connection (decimal arrived ∷ decimal sent ∷ encode_lower bytes ∷ []) h.valid.0 h.fields in
    let arrived_is = c.next_moment.ensures.every arrived (decimal sent ∷ encode_lower bytes ∷ []) early connection_is.1 in
    let none = c.in_err-arrived.was in
    cc

pub returns-in_err-sent-clause-every : goal.returns-in_err-sent-clause-every
returns-in_err-sent-clause-every c = λ connection arrived sent bytes h.
    let order = h.valid.1.order in
    let below = h.valid.1.below in
    let early : arrived < 2 ^ 50 = omega arith in
    let connection_is = c.next_connection.ensures.every connection (decimal arrived ∷ decimal sent ∷ encode_lower bytes ∷ []) h.valid.0 h.fields in
    let arrived_is = c.next_moment.ensures.every arrived (decimal sent ∷ encode_lower bytes ∷ []) early connection_is.1 in
    let sent_is = c.next_moment-2.ensures.every sent (encode_lower bytes ∷ []) h.valid.1.below arrived_is.1 in
    let none = c.in_err-sent.was in
    cc

pub returns-then-get-clause-every : goal.returns-then-get-clause-every
returns-then-get-clause-every c = λ connection arrived sent bytes h.
    let order = h.valid.1.order in
    let below = h.valid.1.below in
    let early : arrived < 2 ^ 50 = omega arith in
    let connection_is = c.next_connection.ensures.every connection (decimal arrived ∷ decimal sent ∷ encode_lower bytes ∷ []) h.valid.0 h.fields in
    let arrived_is = c.next_moment.ensures.every arrived (decimal sent ∷ encode_lower bytes ∷ []) early connection_is.1 in
    let sent_is = c.next_moment-2.ensures.every sent (encode_lower bytes ∷ []) h.valid.1.below arrived_is.1 in
    let arrived_same : c.in_ok-arrived.arrived ≡ arrived = cc (arrived_is.0, c.in_ok-arrived.was) in
    let sent_same : c.in_ok-sent.sent ≡ sent = cc (sent_is.0, c.in_ok-sent.was) in
    let first = c.get.ensures.value in
    let second = c.get-2.ensures.value in
    let late = c.if-get.true in
    absurd (omega arith)

pub returns-in_err-datagram-clause-every : goal.returns-in_err-datagram-clause-every
returns-in_err-datagram-clause-every c = λ connection arrived sent bytes h.
    let order = h.valid.1.order in
    let below = h.valid.1.below in
    let early : arrived < 2 ^ 50 = omega arith in
    let connection_is = c.next_connection.ensures.every connection (decimal arrived ∷ decimal sent ∷ encode_lower bytes ∷ []) h.valid.0 h.fields in
    let arrived_is = c.next_moment.ensures.every arrived (decimal sent ∷ encode_lower bytes ∷ []) early connection_is.1 in
    let sent_is = c.next_moment-2.ensures.every sent (encode_lower bytes ∷ []) h.valid.1.below arrived_is.1 in
    let datagram_is = c.datagram.ensures.every bytes h.valid.2 sent_is.1 in
    let none = c.in_err-datagram.was in
    cc

pub returns-clause-line : goal.returns-clause-line
returns-clause-line c =
    let connection = c.in_ok-connection.ensures.number in
    let arrived = c.in_ok-arrived.ensures.moment in
    let sent = c.in_ok-sent.ensures.moment in
    let datagram = c.in_ok-datagram.ensures.datagram in
    let first = c.get.ensures.value in
    let second = c.get-2.ensures.value in
    let late = c.if-get.false in
    let ordered : c.in_ok-arrived.arrived ≤ c.in_ok-sent.sent = omega arith in
    (record { valid = (connection.0, record { order = ordered; below = sent.0 }, datagram.0); fields = connection.1 (decimal c.in_ok-arrived.arrived ∷ decimal c.in_ok-sent.sent ∷ encode_lower c.in_ok-datagram.datagram ∷ []) (arrived.1 (decimal c.in_ok-sent.sent ∷ encode_lower c.in_ok-datagram.datagram ∷ []) (sent.1 (encode_lower c.in_ok-datagram.datagram ∷ []) datagram.1)) }, refl)

pub returns-clause-every : goal.returns-clause-every
returns-clause-every c = λ connection arrived sent bytes h.
    let order = h.valid.1.order in
    let below = h.valid.1.below in
    let early : arrived < 2 ^ 50 = omega arith in
    let connection_is = c.next_connection.ensures.every connection (decimal arrived ∷ decimal sent ∷ encode_lower bytes ∷ []) h.valid.0 h.fields in
    let arrived_is = c.next_moment.ensures.every arrived (decimal sent ∷ encode_lower bytes ∷ []) early connection_is.1 in
    let sent_is = c.next_moment-2.ensures.every sent (encode_lower bytes ∷ []) h.valid.1.below arrived_is.1 in
    let datagram_is = c.datagram.ensures.every bytes h.valid.2 sent_is.1 in
    let connection_same : c.in_ok-connection.connection ≡ connection = cc (connection_is.0, c.in_ok-connection.was) in
    let arrived_same : c.in_ok-arrived.arrived ≡ arrived = cc (arrived_is.0, c.in_ok-arrived.was) in
    let sent_same : c.in_ok-sent.sent ≡ sent = cc (sent_is.0, c.in_ok-sent.was) in
    let datagram_same : c.in_ok-datagram.datagram ≡ bytes = cc (datagram_is, c.in_ok-datagram.was) in
    λ i. Some (Request (connection_same i) (arrived_same i) (sent_same i) (datagram_same i))
