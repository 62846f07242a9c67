-- How clap's walk reads the words, step by step, for the command of this crate.
use Rattle.std.proofs.Common.{◌≡◌, ◌∙◌, Bool, true, false, List, [], ◌∷◌, map, refl, ap, fold}
use Rattle.std.proofs.lemmas.Bool.{or_right}
use Rattle.std.specs.Prelude.{if◌then◌else◌, ⊤}
use Rattle.clap.specs.Walk.{Row, Rule, Walk, has_row, walked, walk_from, nothing_held, settled, finished, with_default}
use Rattle.clap.specs.Simple.{Shape, built, filled, with_index}
use Rattle.clap.specs.Words.{matches_of, fault_of}
use Rattle.clap.specs.Kinds.{Kinds, or_else}
use Rattle.clap.specs.Faults.{check_fault, defaults_fault, settle_fault, turn_fault, walk_fault}
use Rattle.clap.proofs.FaultLemmas.{leaf_fault}
use Rattle.command_words.specs.CommandLine.{Text}
use Rattle.command_words.specs.Matches.{app, command_rule, option_names, option_rule}

abbrev pub top : Shape
top = (built app).top

abbrev pub rules : List Rule
rules = top.rules

abbrev pub opt : Text → Rule
opt name = filled (option_rule name)

abbrev pub word_rule : Rule
word_rule = with_index 1 (filled command_rule)

-- the faults of the rest of a parse, and the rows at its end
abbrev pub total : Walk → List Text → Kinds
total w [] = settle_fault rules false w.held
total w (x ∷ xs) = or_else (turn_fault top [] w x) (total (walked rules [] w x) xs)

abbrev pub final : Walk → List Text → List Row
final w ws = (settled rules (fold (walked rules []) w ws).held).rows

or_else-assoc : (a b c : Kinds) → or_else (or_else a b) c ≡ or_else a (or_else b c)
or_else-assoc [] b c = refl
or_else-assoc (x ∷ xs) b c = refl

or_else-nil : (a : Kinds) → or_else a [] ≡ a
or_else-nil [] = refl
or_else-nil (x ∷ xs) = refl

-- no rule has a default
abbrev no_defaults : List Rule → Type 0
no_defaults [] = ⊤
no_defaults (a ∷ rest) = (a.defaults ≡ []) × no_defaults rest

same_default : (b : Bool) (rows : List Row) → (if b then rows else rows) ≡ rows
same_default true rows = refl
same_default false rows = refl

no_default : (rows : List Row) (a : Rule) → a.defaults ≡ [] → with_default rows a ≡ rows
no_default rows a none = rw none (same_default (has_row a.id rows) rows)

defaults_none : (rows : List Row) (rs : List Rule) → no_defaults rs → defaults_fault rows rs ≡ []
unfolding defaults_fault
defaults_none rows [] none = refl
defaults_none rows (a ∷ rs) none =
    rw (none.0, or_right (has_row a.id rows) true refl, same_default (has_row a.id rows) rows) (defaults_none rows rs none.1)

finished_none : (rows : List Row) (rs : List Rule) → no_defaults rs → fold with_default rows rs ≡ rows
finished_none rows [] none = refl
finished_none rows (a ∷ rs) none = rw (no_default rows a none.0) (finished_none rows rs none.1)

options_none : (names : List Text) → no_defaults (map opt names)
options_none [] = tt
options_none (name ∷ more) = (refl, options_none more)

ours : no_defaults rules
ours = (refl, options_none option_names)

total_from : (w : Walk) (ws : List Text)
    → or_else (walk_fault top [] w ws) (or_else [] (or_else (settle_fault rules false (fold (walked rules []) w ws).held)
    (or_else (defaults_fault (settled rules (fold (walked rules []) w ws).held).rows rules) (check_fault top (finished rules (fold (walked rules []) w ws).held) false)))) ≡ total w ws
unfolding walk_fault
total_from w [] = rw (defaults_none (settled rules w.held).rows rules ours) (or_else-nil (settle_fault rules false w.held))
total_from w (x ∷ xs) = or_else-assoc (turn_fault top [] w x) _ _ ∙ ap (or_else (turn_fault top [] w x)) (total_from (walked rules [] w x) xs)

pub fault_is : (ws : List Text) → fault_of app ws ≡ total (walk_from nothing_held) ws
fault_is ws = leaf_fault (built app) nothing_held ws refl ∙ total_from (walk_from nothing_held) ws

pub matches_are : (ws : List Text) → matches_of app ws ≡ final (walk_from nothing_held) ws
matches_are ws = finished_none _ rules ours
