-- The fault of an option that is given once.
use Rattle.std.proofs.Common.{◌≡◌, true, false, List, [], ◌∷◌, Some, None, refl, bytes_eq}
use Rattle.std.specs.List.{list_any}
use Rattle.command_words.specs.CommandLine.{Text}
use Rattle.command_words.specs.Faults.{Part, Shape, foreign, is_good, option_fault, out_of_range, texts_with}

pub of_others : (parts : List Part) (c : Shape) (name text : Text) → texts_with (Some name) parts ≡ text ∷ [] → list_any (bytes_eq name) c.row ≡ false
    → option_fault parts c name ≡ Some (foreign c.name name)
of_others parts c name text e h = rw (e, h) refl

pub right : (parts : List Part) (c : Shape) (name text : Text) → texts_with (Some name) parts ≡ text ∷ [] → list_any (bytes_eq name) c.row ≡ true
    → is_good name text ≡ true → option_fault parts c name ≡ None
right parts c name text e h good = rw (e, h, good) refl

pub beyond : (parts : List Part) (c : Shape) (name text : Text) → texts_with (Some name) parts ≡ text ∷ [] → list_any (bytes_eq name) c.row ≡ true
    → is_good name text ≡ false → option_fault parts c name ≡ Some (out_of_range name)
beyond parts c name text e h bad = rw (e, h, bad) refl
