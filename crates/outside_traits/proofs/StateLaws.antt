-- What is reported, over several calls.
use Rattle.std.proofs.Common.{ℕ, Option, Some, None, List, [], ◌++◌, refl, ap, sym, ◌∙◌, append_assoc}
use Rattle.std.proofs.lemmas.List.{append-nil}
use Rattle.outside_traits.specs.States.{Takes, Adds}

pub Adds-none : {T : Type 0} (held : Option (List T)) → Adds held held []
Adds-none None = tt
Adds-none (Some bytes) = sym (append-nil bytes)

pub Adds-more : {T : Type 0} (a b c : Option (List T)) (x y : List T) → Adds a b x → Adds b c y → Adds a c (x ++ y)
Adds-more a b None x y h k = tt
Adds-more a None (Some c) x y h k = absurd k
Adds-more None (Some b) (Some c) x y h k = absurd h
Adds-more (Some a) (Some b) (Some c) x y h k = k ∙ ap (λ bytes. bytes ++ y) h ∙ append_assoc a x y

pub Takes-none : (left : Option (List ℕ)) → Takes left left []
Takes-none None = tt
Takes-none (Some bytes) = refl

pub Takes-more : (a b c : Option (List ℕ)) (x y : List ℕ) → Takes a b x → Takes b c y → Takes a c (x ++ y)
Takes-more a b None x y h k = tt
Takes-more a None (Some c) x y h k = absurd k
Takes-more None (Some b) (Some c) x y h k = absurd h
Takes-more (Some a) (Some b) (Some c) x y h k = h ∙ ap (λ bytes. x ++ bytes) k ∙ sym (append_assoc x y c)
