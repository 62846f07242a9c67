-- What the search leaves open of `servers::Servers::place_of`.
use Rattle.std.proofs.Common.{◌≡◌, ◌+◌, ◌≤◌, ◌∙◌, length, refl, ap, subst, arith}
use Rattle.std.proofs.lemmas.Option.{slice_get_read}
use Rattle.replay_command.proofs.ServerLaws.{polls, polls-late}
use Rattle.replay_command.proofs.servers.Servers.place_of.Goals as goal

pub returns-then-get-clause-valid : goal.returns-then-get-clause-valid
returns-then-get-clause-valid c station lines h =
    let servers = c.args.self.now.servers in
    let here = slice_get_read servers.items (length servers.items) c.in-Some.place c.index.result.now refl (omega (arith, servers.ok.0)) c.index.ensures in
    (polls-late c.args.self.now station lines c.args.feed c.in-Some.place c.args.at c.index.result.now (omega arith) here (omega arith) h, tt)

pub returns-clause-valid : goal.returns-clause-valid
returns-clause-valid c station lines h =
    let servers = c.args.self.now.servers in
    let here = slice_get_read servers.items (length servers.items) c.in-Some.place c.index.result.now refl (omega (arith, servers.ok.0)) c.index.ensures in
    let e : c.args.feed ≡ c.args.self.now.first + c.in-Some.place = omega arith in
    (polls c.args.self.now station lines c.args.feed c.in-Some.place c.args.at c.index.result.now e here (omega arith) h, e ∙ ap (λ n. n + c.in-Some.place) h.first_is)

pub returns-clause-timely : goal.returns-clause-timely
returns-clause-timely c server e =
    let servers = c.args.self.now.servers in
    let here = slice_get_read servers.items (length servers.items) c.in-Some.place c.index.result.now refl (omega (arith, servers.ok.0)) c.index.ensures in
    let same : c.index.result.now ≡ server = cc in
    subst (λ s. s.last ≤ c.args.at) same (omega arith)
