-- As many receivers of each plan are in the rack as rounds have ended.
use Rattle.station_gear.specs.Made.{HasOfEach}
use Rattle.radio_ntpd.proofs.run_arguments.OwnLists.{own-1}
use Rattle.radio_ntpd.proofs.run_arguments.Given as goal

abbrev pub invariant-loop : goal.invariant-loop
invariant-loop g l = HasOfEach (λ b h. (own-1.entry b.vtable).1.stands_for b.value h) (λ _. l.counter) l.rack.items
