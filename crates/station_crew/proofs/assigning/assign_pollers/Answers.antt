-- What the search leaves open of `assigning::assign_pollers`.
use Rattle.std.proofs.Common.{rules, ◌≡◌, ◌∙◌, ◌<◌, [], ◌∷◌, ◌++◌, length, map, take, sym, ap}
use Rattle.std.specs.Prelude.{Some, slice_get, vec_len}
use Rattle.std.proofs.lemmas.List.{map-append, nil_from_length}
use Rattle.station_values.specs.Station.{ServerFields}
use Rattle.feed_workers.proofs.ListLaws.{first_removed, moved, take_one_more, reported_whole}
use Rattle.station_crew.specs.Collecting.{poll_pass, server_link, server_of}
use Rattle.station_crew.proofs.assigning.assign_pollers.Goals as goal

pub loop-preserved : goal.loop-preserved
loop-preserved g c =
    let servers = c.args.station.now.servers in
    let n = vec_len c.loop.jobs in
    let i = c.loop.invariant in
    let lt : n < length servers = search rules in
    let some : 0 < length c.loop.links.items = search rules in
    let more : 0 < length c.loop.feeds.items = search rules in
    let pushed = c.push_reserved.ensures.items in
    let taken = first_removed c.loop.links.items c.remove-link.result c.remove-link.ensures.value some ∙ ap (λ l. c.remove-link.result ∷ l) (sym c.remove-link.ensures.items) in
    let passed = first_removed c.loop.feeds.items c.remove-pass.result c.remove-pass.ensures.value more ∙ ap (λ l. c.remove-pass.result ∷ l) (sym c.remove-pass.ensures.items) in
    let asks = c.new.ensures.asks in
    let same : ◌≡◌ {A = ServerFields} (record { address = c.new.result.server; polls = c.new.result.polls }) (record { address = c.server_at-polls.result.address; polls = c.server_at-polls.result.polls }) = λ k. record { address = asks.0 k; polls = asks.1 k } in
    let at : slice_get servers n ≡ Some (record { address = c.server_at-polls.result.address; polls = c.server_at-polls.result.polls }) = search rules in
    record {
      links = moved server_link c.loop.jobs.items c.push_reserved.new.self.items _ _ _ _ _ pushed taken c.new.ensures.is.0 i.links;
      servers = ap (λ l. map server_of l) c.push_reserved.ensures.items ∙ map-append server_of c.loop.jobs.items _ ∙ ap (λ s. map server_of c.loop.jobs.items ++ s ∷ []) same
          ∙ take_one_more servers (map server_of c.loop.jobs.items) n _ lt at c.loop.invariant.servers ∙ ap (λ k. take k servers) (sym c.push_reserved.ensures.len);
      passes = moved poll_pass c.loop.jobs.items c.push_reserved.new.self.items _ _ _ _ _ pushed passed c.new.ensures.is.1 i.passes;
      left = search rules;
      whole = search rules;
      enough = search rules;
      room = search rules;
      links_room = c.remove-link.ensures.capacity ∙ i.links_room;
      feeds_room = c.remove-pass.ensures.capacity ∙ i.feeds_room;
    }

pub returns-clause-emptied : goal.returns-clause-emptied
returns-clause-emptied g c = nil_from_length _ (search rules)

pub returns-clause-servers : goal.returns-clause-servers
returns-clause-servers g c = c.loop.invariant.servers ∙ reported_whole c.args.station.now.servers (vec_len c.loop.jobs) (search rules)
