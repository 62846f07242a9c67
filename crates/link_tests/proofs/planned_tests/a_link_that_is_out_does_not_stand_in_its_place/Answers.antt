-- What the search leaves open of `planned_tests::a_link_that_is_out_does_not_stand_in_its_place`.
use Rattle.std.proofs.Common.{refl}
use Rattle.outside_traits.proofs.OpeningLaws.{out_after}
use Rattle.link_tests.proofs.planned_tests.a_link_that_is_out_does_not_stand_in_its_place.Goals as goal

pub give_back_link-requires : goal.give_back_link-requires
give_back_link-requires g c = out_after _ _ _ _ _ _ c.in_ok-net.ensures.opened c.in_ok-net.ensures.number refl
