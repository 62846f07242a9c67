-- What a poller's rounds are for its server. After its request a whole round has hearings alone, so it is one request; and a worker that
-- made all its polls sent as many requests. No function rests on these laws. They are for the reader, who sees by them what `hearing` of
-- `IsWhole` is for.
use Rattle.std.proofs.Common.{◌≡◌, ℕ, List, [], ◌∷◌, ◌++◌, length, true, refl, sym, ap, ◌∙◌, arith}
use Rattle.std.specs.Prelude.{All}
use Rattle.std.specs.List.{sum_by}
use Rattle.std.proofs.lemmas.Bool.{true≢false}
use Rattle.std.proofs.lemmas.List.Elements.{All-nil, All-cons, All-push, All-head, All-tail}
use Rattle.std.proofs.lemmas.List.Sums.{sum_by-append, sum_by-cons}
use Rattle.outside_traits.specs.States.{NetEvent}
use Rattle.outside_traits.specs.States.NetEvent.{Came, Silent, Ended, Timed, Went}
use Rattle.outside_traits.specs.declared.outside.Address.{Address}
use Rattle.feed_workers.specs.Polling.{EndsPolls}
use Rattle.feed_workers.specs.Polls.{Round, events_of, events_in, asking, is_hearing, GoOn, IsWhole, AreWhole}
use Rattle.feed_workers.specs.declared.work.PollEnd.TheVariants.{Rounds}

abbrev IsHearing : NetEvent → Type 0
IsHearing event = is_hearing event ≡ true

-- a request was sent
abbrev pub sent_by : NetEvent → ℕ
sent_by (Came from at bytes) = 0
sent_by Silent = 0
sent_by Ended = 0
sent_by (Timed moment) = 0
sent_by (Went to bytes) = 1

all_received : (server : Address) (before events : List NetEvent) → GoOn server before events → All IsHearing events
all_received server before [] go = All-nil IsHearing
all_received server before (event ∷ events) go = All-cons IsHearing event events go.0 (all_received server (before ++ event ∷ []) events go.2)

-- after its request a whole round has hearings alone
pub whole_is_received : (server : Address) (before : List NetEvent) (round : Round) → IsWhole server before round → All IsHearing (round.earlier ++ round.last ∷ [])
whole_is_received server before round whole =
    All-push IsHearing round.earlier round.last (all_received server (before ++ asking server round.moment) round.earlier whole.goes) whole.hearing

none_sent : (event : NetEvent) → is_hearing event ≡ true → sent_by event ≡ 0
none_sent (Came from at bytes) is = refl
none_sent Silent is = refl
none_sent Ended is = refl
none_sent (Timed moment) is = refl
none_sent (Went to bytes) is = absurd (true≢false (sym is))

none_in : (events : List NetEvent) → All IsHearing events → sum_by sent_by events ≡ 0
none_in [] all = refl
none_in (event ∷ events) all =
    let both = sum_by-cons sent_by event events in
    let first = none_sent event (All-head IsHearing event events all) in
    let rest = none_in events (All-tail IsHearing event events all) in
    omega (arith, both, first, rest)

-- a whole round sends one request
pub one_request : (server : Address) (before : List NetEvent) (round : Round) → IsWhole server before round → sum_by sent_by (events_of server round) ≡ 1
one_request server before round whole =
    let heard = round.earlier ++ round.last ∷ [] in
    let asked : sum_by sent_by (asking server round.moment) ≡ 1 = refl in
    let none = none_in heard (whole_is_received server before round whole) in
    let both = sum_by-append sent_by (asking server round.moment) heard in
    omega (arith, asked, none, both)

-- and as many whole rounds as many
pub requests_in : (server : Address) (before : List NetEvent) (rounds : List Round) → AreWhole server before rounds → sum_by sent_by (events_in server rounds) ≡ length rounds
requests_in server before [] are = refl
requests_in server before (round ∷ rounds) are =
    let both = sum_by-append sent_by (events_of server round) (events_in server rounds) in
    let one = one_request server before round are.0 in
    let rest = requests_in server (before ++ events_of server round) rounds are.1 in
    omega (arith, both, one, rest)

-- a worker that made all its polls sent as many requests
pub requests_of_polls : (server : Address) (polls faults faults_now : ℕ) (events : List NetEvent) → EndsPolls server polls faults faults_now events Rounds →
    sum_by sent_by events ≡ polls
requests_of_polls server polls faults faults_now events ends =
    ap (sum_by sent_by) ends.1 ∙ requests_in server [] ends.0 ends.2 ∙ ends.3
