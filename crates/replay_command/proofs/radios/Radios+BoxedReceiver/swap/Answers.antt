-- What the search leaves open of `radios::Radios+BoxedReceiver::swap`.
use Rattle.std.proofs.Common.{◌≡◌, length, refl, subst, ap, arith}
use Rattle.std.proofs.lemmas.Option.{slice_get_read}
use Rattle.station_gear.specs.Racks.{HasPicked}
use Rattle.replay_command.proofs.RadioLaws.{swaps, swaps-not}
use Rattle.replay_command.proofs.radios.Radios+BoxedReceiver.swap.Goals as goal

pub returns-in_default-clause-swapped : goal.returns-in_default-clause-swapped
returns-in_default-clause-swapped g c station lines h =
    let radios = c.args.self.now.fitted in
    let at = slice_get_read radios.items (length radios.items) c.args.feed c.index.result.now refl (omega (arith, radios.ok.0)) c.index.ensures in
    swaps-not _ c.args.self.now _ station lines c.args.feed c.index.result.now at c.in_default.ensures.none refl (ap (λ v. v.items) c.in_default.ensures.unchanged) h

pub returns-clause-swapped : goal.returns-clause-swapped
returns-clause-swapped g c station lines h =
    let radios = c.args.self.now.fitted in
    let before = slice_get_read radios.items (length radios.items) c.args.feed c.index.result.now refl (omega (arith, radios.ok.0)) c.index.ensures in
    let at = slice_get_read radios.items (length radios.items) c.args.feed c.index_mut.result.now refl (omega (arith, radios.ok.0)) c.index_mut.ensures.value in
    let same : c.index.result.now ≡ c.index_mut.result.now = cc in
    let taken = subst (λ r. HasPicked (λ b h. (goal.Receiver-dyn g (b.vtable, b.value)).stands_for b.value h) c.args.self.now.left.items c.take_of.new.spares.items r.plan c.in-Some.receiver) same c.in-Some.ensures.taken in
    swaps _ c.args.self.now _ station lines c.args.feed c.index_mut.result.now c.swap.new.self c.take_of.new.spares.items c.in-Some.receiver
    at taken c.swap.ensures.plan c.swap.ensures.delay c.swap.ensures.least c.swap.ensures.fitted refl refl h
