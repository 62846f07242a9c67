-- As many receivers of each plan are in the rack as rounds have ended.
use Rattle.station_gear.specs.Made.{HasOfEach}
use Rattle.engine_tests.proofs.rack_tests.run_noting.OwnLists.{own-1}
use Rattle.engine_tests.proofs.rack_tests.run_noting.Given as goal

abbrev pub invariant-loop : goal.invariant-loop
invariant-loop g l = HasOfEach (λ b h. (own-1.entry b.vtable).1.stands_for b.value h) (λ _. l.counter) l.rack.items
