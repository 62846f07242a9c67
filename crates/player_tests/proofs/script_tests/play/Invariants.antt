-- As many receivers of each plan are in the rack as rounds have ended.
use Rattle.station_gear.specs.Made.{HasOfEach}
use Rattle.player_tests.proofs.script_tests.play.OwnLists.{own-1}
use Rattle.player_tests.proofs.script_tests.play.Given as goal

abbrev pub invariant-loop : goal.invariant-loop
invariant-loop l = HasOfEach (λ b h. (own-1.entry b.vtable).1.stands_for b.value h) (λ _. l.counter) l.rack.items
