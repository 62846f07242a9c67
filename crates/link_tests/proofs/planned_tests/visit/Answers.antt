-- What the search leaves open of `planned_tests::visit`.
use Rattle.outside_traits.proofs.OpeningLaws.{out_after}
use Rattle.link_tests.proofs.planned_tests.visit.Goals as goal

pub give_back_link-requires : goal.give_back_link-requires
give_back_link-requires c = out_after _ _ _ _ _ _ c.in_ok-net.ensures.opened c.in_ok-net.ensures.number c.hear-heard.ensures.number
