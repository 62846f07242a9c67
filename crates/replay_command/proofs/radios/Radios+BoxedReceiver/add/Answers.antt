-- What the search leaves open of `radios::Radios+BoxedReceiver::add`.
use Rattle.std.proofs.Common.{◌≡◌, ◌∙◌, ◌++◌, ◌∷◌, [], Some, IfSome, refl, subst, sym, rules}
use Rattle.radio_receiver.specs.Histories.{with_delay}
use Rattle.station_gear.specs.Racks.{HasPicked}
use Rattle.replay_command.proofs.NewLaws.{adds}
use Rattle.replay_command.proofs.radios.Radios+BoxedReceiver.add.Goals as goal

pub returns-clause-added : goal.returns-clause-added
returns-clause-added g c station fields plan delay h =
    let some : c.take_of.result ≡ Some c.unwrap-receiver.result = search rules in
    let taken = subst (λ o. IfSome o (λ r. HasPicked (λ b h. (goal.Receiver-dyn g (b.vtable, b.value)).stands_for b.value h) c.args.self.now.left.items c.take_of.new.spares.items c.args.plan r)) some c.take_of.ensures.taken in
    let own = subst (λ p. HasPicked (λ b h. (goal.Receiver-dyn g (b.vtable, b.value)).stands_for b.value h) c.args.self.now.left.items c.take_of.new.spares.items p c.unwrap-receiver.result) (sym plan) taken in
    let now : c.push.new.self.items ≡ c.args.self.now.fitted.items ++ c.new.result ∷ [] = search rules in
    adds _ c.args.self.now _ station fields c.new.result c.take_of.new.spares.items c.unwrap-receiver.result own
    (c.new.ensures.plan ∙ sym plan) (c.new.ensures.delay ∙ sym delay) c.new.ensures.least
    (λ h has. subst (λ d. (goal.Receiver-dyn g (c.new.result.receiver.vtable, c.new.result.receiver.value)).stands_for c.new.result.receiver.value (with_delay h d)) (sym delay) (c.new.ensures.fitted h has))
    now refl h
