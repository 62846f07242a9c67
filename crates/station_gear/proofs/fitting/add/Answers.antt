-- What the search leaves open of `fitting::add`.
use Rattle.std.proofs.Common.{◌≡◌, Some, IfSome, subst, sym, rules}
use Rattle.radio_receiver.specs.Histories.{with_delay}
use Rattle.station_gear.specs.Racks.{HasPicked}
use Rattle.station_gear.proofs.FittingLaws.{adds}
use Rattle.station_gear.proofs.fitting.add.Goals as goal

pub returns-clause-added : goal.returns-clause-added
returns-clause-added g c radios fields plan delay h =
    let some : c.take_of.result ≡ Some c.unwrap-receiver.result = search rules in
    let taken = subst (λ o. IfSome o (λ r. HasPicked (λ b h. (goal.Receiver-dyn g (b.vtable, b.value)).stands_for b.value h) c.args.spares.now.items c.take_of.new.spares.items c.args.plan r)) some c.take_of.ensures.taken in
    let own = subst (λ p. HasPicked (λ b h. (goal.Receiver-dyn g (b.vtable, b.value)).stands_for b.value h) c.args.spares.now.items c.take_of.new.spares.items p c.unwrap-receiver.result) (sym plan) taken in
    adds _ c.args.receivers.now.items _ c.args.spares.now.items c.take_of.new.spares.items radios fields c.unwrap-receiver.result c.fit.result own
    (λ h has. subst (λ d. (goal.Receiver-dyn g (c.fit.result.vtable, c.fit.result.value)).stands_for c.fit.result.value (with_delay h d)) (sym delay) (c.fit.ensures.fitted h has))
    (search rules) h
