-- What the search leaves open of `servers::Servers::add_all`.
use Rattle.std.proofs.Common.{◌≡◌, ◌∙◌, ◌+◌, [], Some, sym, ap, subst, arith, rules}
use Rattle.std.specs.List.{slice_get}
use Rattle.std.specs.Option.{option_map}
use Rattle.station_values.specs.KeptStation.{server_fields}
use Rattle.poll_core.specs.Polling.{HasPolled}
use Rattle.replay_command.specs.KeptPlayer.{HasPolling, first_servers}
use Rattle.station_gear.proofs.ListLaws.{some-at}
use Rattle.replay_command.proofs.NewLaws.{all-servers, polling-none, polling-push}
use Rattle.replay_command.proofs.servers.Servers.add_all.Goals as goal

pub unwrap-row-requires : goal.unwrap-row-requires
unwrap-row-requires c = some-at server_fields c.server.result c.args.station.now.servers c.loop-place.place c.server.ensures (omega arith)

pub loop-place-init : goal.loop-place-init
loop-place-init c =
    let none : c.reserve.new.self.items ≡ [] = c.reserve.ensures.items ∙ c.requires.none in
    (subst (λ ss. HasPolling ss (first_servers 0 c.args.station.now) []) (sym none) (polling-none c.args.station.now), search rules, search rules, search rules, search rules, search rules)

pub loop-place-preserved : goal.loop-place-preserved
loop-place-preserved c =
    let some : c.server.result ≡ Some c.unwrap-row.result = search rules in
    let at : slice_get c.args.station.now.servers c.loop-place.place ≡ Some (server_fields c.unwrap-row.result) = sym c.server.ensures ∙ ap (option_map server_fields) some in (
      subst (λ ss. HasPolling ss (first_servers (c.loop-place.place + 1) c.args.station.now) []) (sym c.push_reserved.ensures.items)
          (polling-push c.loop-place.self.servers.items c.args.station.now c.loop-place.place c.new-in-loop-place.result (server_fields c.unwrap-row.result) at c.new-in-loop-place.ensures.address (subst (λ q. HasPolled q c.unwrap-row.result.address []) (sym c.new-in-loop-place.ensures.poll) c.new-poll.ensures.polled) (c.new-in-loop-place.ensures.last ∙ c.loop-place.invariant.5) c.loop-place.invariant.0),
      c.loop-place.invariant.1,
      c.loop-place.invariant.2,
      search rules,
      c.loop-place.invariant.4,
      c.loop-place.invariant.5,
    )

pub returns : goal.returns
returns c = record {
  first_is = c.loop-place.invariant.4;
  polling = all-servers c.loop-place.self.servers.items c.args.station.now c.loop-place.place (omega (arith, c.loop-place.invariant.2)) c.loop-place.invariant.0;
}
