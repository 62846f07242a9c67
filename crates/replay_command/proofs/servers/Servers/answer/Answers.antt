-- What the search leaves open of `servers::Servers::answer`.
use Rattle.std.proofs.Common.{length, refl, arith}
use Rattle.std.proofs.lemmas.Option.{slice_get_read}
use Rattle.replay_command.proofs.ServerLaws.{answers}
use Rattle.replay_command.proofs.servers.Servers.answer.Goals as goal

pub returns-clause-answered : goal.returns-clause-answered
returns-clause-answered c station lines h =
    let servers = c.args.self.now.servers in
    let here = slice_get_read servers.items (length servers.items) c.in_ok-place.place c.index_mut.result.now refl (omega (arith, servers.ok.0, c.in_ok-place.ensures.within)) c.index_mut.ensures.value in (
      (c.in_ok-place.ensures.valid station lines h).0,
      answers c.args.self.now _ station lines c.args.feed c.in_ok-place.place c.args.at c.args.datagram.now c.index_mut.result.now c.answer-what.new.self c.answer-what.result c.in_ok-place.ensures.place here
          c.answer-what.ensures.address c.answer-what.ensures.last c.answer-what.ensures.polled c.answer-what.ensures.judged refl refl h,
    )
