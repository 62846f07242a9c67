-- The rows of options, as lists of texts.
use Rattle.std.proofs.Common.{◌≡◌, refl, ◌&&◌, List, Option, Some, map, bytes_eq, sym, Bor}
use Rattle.std.specs.List.{list_any}
use Rattle.clap.proofs.WalkLemmas.{list_any-map}
use Rattle.command_words.specs.CommandLine.{Text, is_value}
use Rattle.command_words.specs.Matches.{may_have, text_of}

pub may_have_some : (row : List (Bor Text)) (name : Text) (value : Option (Bor Text)) (text : Bor Text) → value ≡ Some text
    → may_have (map (λ w. w.now) row) name (text_of value) ≡ (list_any (λ w. bytes_eq name w.now) row && is_value text.now)
may_have_some row name value text e = rw (e, sym (list_any-map (bytes_eq name) (λ (w : Bor Text). w.now) row)) refl
