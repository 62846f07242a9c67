-- What the search leaves open of `stations::serve`: the receiver that is boxed is blank, since its `new` says so.
use Rattle.std.proofs.Common.{◌≡◌, ◌∙◌, refl, sym, subst, inl, inr, rules}
use denote.Param.Object.{read_made}
use Rattle.tick_units.specs.declared.marks.Plan.TheVariants.{Dcf}
use Rattle.radio_receiver.specs.Histories.{History, blank_of}
use Rattle.crew_tests.proofs.stations.serve.OwnLists.{own-1}
use Rattle.crew_tests.proofs.stations.serve.Goals as goal

pub serve_with-requires-clause-stands : goal.serve_with-requires-clause-stands
serve_with-requires-clause-stands g c κs within =
    let same = read_made own-1 _ (inl tt) refl (History → Type 0) (λ j y h. j.1.stands_for y h) _ _ _ c.into_dyn_box.ensures.1 in
    subst (λ (P : History → Type 0). P (blank_of Dcf)) (sym same) (subst (λ v. (own-1.entry (inl tt)).1.stands_for v (blank_of Dcf)) (sym c.in_ok-receiver.ensures.ok) c.new.ensures.stands)
