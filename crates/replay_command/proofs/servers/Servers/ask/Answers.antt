-- What the search leaves open of `servers::Servers::ask`.
use Rattle.std.proofs.Common.{length, refl, arith}
use Rattle.std.proofs.lemmas.Option.{slice_get_read}
use Rattle.replay_command.proofs.ServerLaws.{asks}
use Rattle.replay_command.proofs.servers.Servers.ask.Goals as goal

pub returns-clause-asked : goal.returns-clause-asked
returns-clause-asked c station lines h =
    let servers = c.args.self.now.servers in
    let here = slice_get_read servers.items (length servers.items) c.in_ok-place.place c.index_mut.result.now refl (omega (arith, servers.ok.0, c.in_ok-place.ensures.within)) c.index_mut.ensures.value in (
      (c.in_ok-place.ensures.valid station lines h).0,
      asks c.args.self.now _ station lines c.args.feed c.in_ok-place.place c.args.at c.index_mut.result.now c.ask.new.self c.in_ok-place.ensures.place here
          c.ask.ensures.address c.ask.ensures.last c.ask.ensures.polled refl refl h,
    )
