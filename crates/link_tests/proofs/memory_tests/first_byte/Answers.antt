-- What the search leaves open of `memory_tests::first_byte`.
use Rattle.outside_traits.proofs.OpeningLaws.{out_after}
use Rattle.link_tests.proofs.memory_tests.first_byte.Goals as goal

pub give_back_log-requires : goal.give_back_log-requires
give_back_log-requires c = out_after _ _ _ _ _ _ c.in_ok-log.ensures.opened c.in_ok-log.ensures.number c.read_three-count.ensures
