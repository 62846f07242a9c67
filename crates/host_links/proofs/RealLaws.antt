-- A call that is made again, after calls that were interrupted and changed nothing.
use Rattle.std.proofs.Common.{ℕ, Option, Some, None, List, ◌++◌, refl, sym, ◌∙◌, ap}
use Rattle.std.specs.Io.KnownBytes.{Keeps, Consumes, Appends}

pub keeps_on : (a b c : Option (List ℕ)) → Keeps a b → Keeps b c → Keeps a c
keeps_on None b c h k = tt
keeps_on (Some a) None c h k = absurd h
keeps_on (Some a) (Some b) None h k = absurd k
keeps_on (Some a) (Some b) (Some c) h k = k ∙ h

pub keeps_same : (a : Option (List ℕ)) → Keeps a a
keeps_same None = tt
keeps_same (Some a) = refl

pub consumes_on : (a b c : Option (List ℕ)) (bytes : List ℕ) → Keeps a b → Consumes b c bytes → Consumes a c bytes
consumes_on None b c bytes h k = tt
consumes_on (Some a) None c bytes h k = absurd h
consumes_on (Some a) (Some b) None bytes h k = absurd k
consumes_on (Some a) (Some b) (Some c) bytes h k = sym h ∙ k

pub appends_on : (a b c : Option (List ℕ)) (bytes : List ℕ) → Keeps a b → Appends b c bytes → Appends a c bytes
appends_on None b c bytes h k = tt
appends_on (Some a) None c bytes h k = absurd h
appends_on (Some a) (Some b) None bytes h k = absurd k
appends_on (Some a) (Some b) (Some c) bytes h k = k ∙ ap (λ l. l ++ bytes) h
