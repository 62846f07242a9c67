-- Calls of a socket that are made again.
use Rattle.std.proofs.Common.{Option, List, [], ◌∷◌, ◌++◌, Bool, true, IsTrue, ◌≡◌, ◌&&◌, refl, ap, sym, ◌∙◌}
use Rattle.std.proofs.lemmas.List.Folds.{list_all-append}
use Rattle.std.specs.List.{list_all}
use Rattle.outside_traits.specs.States.{Adds}
use Rattle.host_links.specs.Sockets.{Passed, Repeats}
use Rattle.outside_traits.proofs.StateLaws.{Adds-none, Adds-more}

pub no_call : (test : Passed → Bool) (a : Option (List Passed)) → Repeats test a a
no_call test a = record { calls = []; all = refl; added = Adds-none a }

pub one_more : (test : Passed → Bool) (a b c : Option (List Passed)) (call : Passed) → Repeats test a b → test call ≡ true → Adds b c (call ∷ []) → Repeats test a c
one_more test a b c call calls passes added = record {
  calls = calls.calls ++ call ∷ [];
  all = list_all-append test calls.calls (call ∷ []) ∙ ap (λ t. t && list_all test (call ∷ [])) calls.all ∙ ap (λ t. t && true) passes;
  added = Adds-more a b c calls.calls (call ∷ []) calls.added added;
}
