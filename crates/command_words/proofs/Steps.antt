-- What one word does to the walk, for the command of this crate.
use Rattle.std.proofs.Common.{◌≡◌, ◌∙◌, ℕ, Bool, true, false, ◌&&◌, List, [], ◌∷◌, ◌++◌, Option, Some, None, refl, sym, ap, inl, inr, bytes_eq, slice_get, length, is_some}
use Rattle.std.proofs.lemmas.Bool.{or_parts, true≢false, and_right}
use Rattle.std.specs.Prelude.{◌⊎◌}
use Rattle.std.specs.Str.{chars}
use Rattle.clap.specs.Walk.{Held, Row, Rule, Waiting, Walk, at_row, idle, option, positional, has_row, more_values, plain, plain_word, long_or_other, used, walked, settled_rows, subcommand_met, is_pending}
use Rattle.clap.specs.Simple.{new_rule}
use Rattle.clap.specs.Kinds.{Kinds, or_else}
use Rattle.clap.specs.Faults.{flag_word_fault, flags_fault, settle_fault, turn_fault, use_fault}
use Rattle.clap.specs.Lexer.{long_of, short_of}
use Rattle.clap.specs.declared.error.kind.ErrorKind.{ErrorKind}
use Rattle.clap.specs.declared.error.kind.ErrorKind.TheVariants as kind
use Rattle.clap.specs.declared.parser.matches.ValueSource.TheVariants.{CommandLine}
use Rattle.clap.specs.declared.builder.ArgAction.TheVariants.{Set}
use Rattle.clap.specs.declared.builder.value_parser.ValueParser.TheVariants as vp
use Rattle.clap.proofs.FaultLemmas.{fault_ends}
use Rattle.clap.proofs.WalkLemmas.{bundle_ends}
use Rattle.command_words.specs.CommandLine.{Text}
use Rattle.command_words.proofs.Names.{IsOption, itself, unknown}
use Rattle.command_words.proofs.Parts.{names_option, row, word_id}
use Rattle.command_words.proofs.Walks.{opt, rules, top, word_rule}

-- an option or the command word, as clap's walk sees it
abbrev pub shaped : Text → Option Text → Option ℕ → Rule
shaped id long index = record (new_rule id) {
  long = long;
  index = index;
  action = Some Set;
  range = Some (record { start_inclusive = 1; end_inclusive = 1 });
  parser = Some vp.String;
}

same_opt : (name : Text) → opt name ≡ shaped name (Some name) None
same_opt name = refl

same_word : word_rule ≡ shaped (word_id) None (Some 1)
same_word = refl

pub use_once : (id : Text) (long : Option Text) (index : Option ℕ) (v : Text) (rows : List Row) → has_row id rows ≡ false
    → use_fault false (shaped id long index) (v ∷ []) rows ≡ []
use_once id long index v rows e = rw e refl

pub use_twice : (id : Text) (long : Option Text) (index : Option ℕ) (v : Text) (rows : List Row) → has_row id rows ≡ true
    → use_fault false (shaped id long index) (v ∷ []) rows ≡ kind.ArgumentConflict ∷ []
use_twice id long index v rows e = rw e refl

pub use_none : (id : Text) (long : Option Text) (index : Option ℕ) (rows : List Row)
    → use_fault false (shaped id long index) [] rows ≡ kind.InvalidValue ∷ []
use_none id long index rows = refl

++-nil : {X : Type 0} (xs : List X) → xs ++ [] ≡ xs
++-nil [] = refl
++-nil (x ∷ xs) = ap (λ t. x ∷ t) (++-nil xs)

at_missing : (id : Text) (change : Row → List Row) (missing rows : List Row) → has_row id rows ≡ false → at_row id change missing rows ≡ rows ++ missing
at_missing id change missing [] e = refl
at_missing id change missing (r ∷ rows) e =
    let parts = or_parts (bytes_eq r.id id) (has_row id rows) e in
    rw (parts.0) (ap (λ t. r ∷ t) (at_missing id change missing rows parts.1))

pub used_once : (id : Text) (long : Option Text) (index : Option ℕ) (v : Text) (rows : List Row) → has_row id rows ≡ false
    → used (shaped id long index) (v ∷ []) rows ≡ rows ++ row id v ∷ []
used_once id long index v rows e =
    let same : at_row id (λ _. []) [] rows ≡ rows = at_missing id (λ _. []) [] rows e ∙ ++-nil rows in
    rw same (at_missing id (more_values CommandLine (v ∷ [])) (row id v ∷ []) rows e)

or_else-nil : (a : Kinds) → or_else a [] ≡ a
or_else-nil [] = refl
or_else-nil (x ∷ xs) = refl

-- ---- the turns

abbrev pub held : List Row → Option (Text × List Text) → Held
held rows pend = record { rows = rows; pending = pend; skip = 0 }

abbrev pub place : Bool → ℕ
place true = 2
place false = 1

abbrev pub state : List Row → Option (Text × List Text) → Waiting → Bool → Bool → Walk
state rows pend waiting full trailing =
    record { held = held rows pend; waiting = waiting; position = place full; is_trailing = trailing; stopped = None }

-- the faults of a turn, and where the walk stands after it
pub record Turns (w : Walk) (word : Text) (ks : Kinds) (after : Walk) : Type 0 where
  pub fault : turn_fault top [] w word ≡ ks
  pub goes : walked rules [] w word ≡ after

abbrev pub mark : Text
mark = 45 ∷ 45 ∷ []

no_subcommand : (waiting : Waiting) (word : Text) → subcommand_met [] waiting word ≡ None
no_subcommand idle word = refl
no_subcommand (option id) word = refl
no_subcommand positional word = refl

pub turn_mark : (rows : List Row) (pend : Option (Text × List Text)) (waiting : Waiting) (full : Bool) (word : Text) → bytes_eq word mark ≡ true
    → Turns (state rows pend waiting full false) word [] (state rows pend waiting full true)
unfolding walked
turn_mark rows pend waiting full word e =
    let none = no_subcommand waiting word in
    record { fault = rw (none, e) refl; goes = rw (none, e) refl }

-- `--name=value`
pub turn_joined : (rows : List Row) (pend : Option (Text × List Text)) (full : Bool) (word name value : Text) → bytes_eq word mark ≡ false
    → long_of word ≡ Some (name, Some value) → IsOption name → settle_fault rules false (held rows pend) ≡ []
    → Turns (state rows pend idle full false) word (use_fault false (opt name) (value ∷ []) (settled_rows rules pend rows))
    (state (used (opt name) (value ∷ []) (settled_rows rules pend rows)) None idle full false)
unfolding walked
turn_joined rows pend full word name value e l k ok =
    record { fault = rw (e, l, k.long, ok) (or_else-nil _); goes = rw (e, l, k.long) refl }

-- `--name`
pub turn_option : (rows : List Row) (pend : Option (Text × List Text)) (full : Bool) (word name : Text) → bytes_eq word mark ≡ false
    → long_of word ≡ Some (name, None) → IsOption name → settle_fault rules false (held rows pend) ≡ []
    → Turns (state rows pend idle full false) word [] (state (settled_rows rules pend rows) (Some (name, [])) (option name) full false)
unfolding walked
turn_option rows pend full word name e l k ok =
    record { fault = rw (e, l, k.long, ok) refl; goes = rw (e, l, k.long) refl }

-- an option after what does not settle
pub turn_unsettled : (rows : List Row) (pend : Option (Text × List Text)) (waiting : Waiting) (full : Bool) (word name : Text) (v : Option Text) (k : ErrorKind)
    → bytes_eq word mark ≡ false → long_of word ≡ Some (name, v) → IsOption name → settle_fault rules false (held rows pend) ≡ k ∷ []
    → turn_fault top [] (state rows pend waiting full false) word ≡ k ∷ []
turn_unsettled rows pend waiting full word name None k e l o bad =
    let none = no_subcommand waiting word in
    rw (none, e, l, o.long, bad) refl
turn_unsettled rows pend waiting full word name (Some v) k e l o bad =
    let none = no_subcommand waiting word in
    rw (none, e, l, o.long, bad) refl

-- a name that the command lacks
pub turn_unknown : (rows : List Row) (pend : Option (Text × List Text)) (waiting : Waiting) (full : Bool) (word name : Text) (v : Option Text) → bytes_eq word mark ≡ false
    → long_of word ≡ Some (name, v) → names_option name ≡ false
    → turn_fault top [] (state rows pend waiting full false) word ≡ kind.UnknownArgument ∷ []
turn_unknown rows pend waiting full word name v e l k =
    let none = no_subcommand waiting word in
    rw (none, e, l, unknown name k) refl

-- a word that is no flag
pub record IsPlainWord (word : Text) : Type 0 where
  pub long : long_of word ≡ None
  pub short : (short_of word ≡ None) ⊎ ((flags : Text) × (short_of word ≡ Some flags) × (None ≡ slice_get (chars flags) 0))

-- a word of short flags
pub record IsShortWord (word : Text) : Type 0 where
  pub long : long_of word ≡ None
  pub flags : Text
  pub short : short_of word ≡ Some flags
  pub first : ℕ
  pub is : slice_get (chars flags) 0 ≡ Some first

flags_unknown : (flags : Text) (first : ℕ) (h : Held) → slice_get (chars flags) 0 ≡ Some first
    → flags_fault rules false (length flags) flags 0 h ≡ kind.UnknownArgument ∷ []
unfolding flags_fault chars
flags_unknown [] first h is = absurd (true≢false (sym (ap is_some is)))
flags_unknown (x ∷ xs) first h is = rw is refl

pub turn_short : (rows : List Row) (pend : Option (Text × List Text)) (waiting : Waiting) (full : Bool) (word : Text) → bytes_eq word mark ≡ false
    → IsShortWord word → turn_fault top [] (state rows pend waiting full false) word ≡ kind.UnknownArgument ∷ []
turn_short rows pend waiting full word e s =
    let none = no_subcommand waiting word in
    rw (none, e, s.long, s.short, flags_unknown s.flags s.first (held rows pend) s.is) refl

plain_fault : (word : Text) (rows : List Row) (pend : Option (Text × List Text)) → IsPlainWord word
    → flag_word_fault rules false (long_of word) word (held rows pend) ≡ []
plain_fault word rows pend p =
    elim p.short [
      | inl none ↦ rw (p.long, none) refl
      | inr some ↦ rw (p.long, some.1) (sym (fault_ends rules false (length some.0) some.0 0 (held rows pend) some.2))
    ]

plain_other : (word : Text) (waiting : Waiting) (rows : List Row) (pend : Option (Text × List Text)) → IsPlainWord word
    → long_or_other rules waiting word (long_of word) (held rows pend) ≡ plain_word rules waiting word (held rows pend)
plain_other word waiting rows pend p =
    elim p.short [
      | inl none ↦ rw (p.long, none) refl
      | inr some ↦ rw (p.long, some.1, sym (bundle_ends rules (length some.0) some.0 0 plain (held rows pend) some.2)) refl
    ]

-- the value of an option
pub turn_value : (rows : List Row) (full : Bool) (name word : Text) → bytes_eq word mark ≡ false → IsPlainWord word → IsOption name
    → Turns (state rows (Some (name, [])) (option name) full false) word [] (state rows (Some (name, word ∷ [])) idle full false)
unfolding walked
turn_value rows full name word e p k =
    let fault = plain_fault word rows (Some (name, [])) p in
    let other = plain_other word (option name) rows (Some (name, [])) p in
    record { fault = rw (e, fault, other) refl; goes = rw (e, other, k.id, itself name) refl }

-- the command word
pub turn_word : (rows : List Row) (pend : Option (Text × List Text)) (word : Text) → bytes_eq word mark ≡ false → IsPlainWord word
    → Turns (state rows pend idle false false) word (settle_fault rules false (held rows pend))
    (state (settled_rows rules pend rows) (Some (word_id, word ∷ [])) idle true false)
unfolding walked
turn_word rows pend word e p =
    let no : (b : Bool) → (b && false) ≡ false = λ b. and_right b false refl in
    let fault = plain_fault word rows pend p in
    let other = plain_other word idle rows pend p in
    record { fault = rw (e, fault, other, no (is_pending word_rule pend)) refl; goes = rw (e, other, no (is_pending word_rule pend)) refl }

-- a second command word
pub turn_second : (rows : List Row) (pend : Option (Text × List Text)) (word : Text) → bytes_eq word mark ≡ false → IsPlainWord word
    → turn_fault top [] (state rows pend idle true false) word ≡ kind.UnknownArgument ∷ []
turn_second rows pend word e p =
    let fault = plain_fault word rows pend p in
    let other = plain_other word idle rows pend p in
    rw (e, fault, other) refl

-- ---- which of these a word is

pub data Sort (word : Text) : Type 0 where
  long_word : (name : Text) → (v : Option Text) → long_of word ≡ Some (name, v) → Sort word
  short_word : IsShortWord word → Sort word
  bare_word : IsPlainWord word → Sort word

by_first : (word flags : Text) → long_of word ≡ None → short_of word ≡ Some flags → (first : Option ℕ) → slice_get (chars flags) 0 ≡ first → Sort word
by_first word flags l s None e = bare_word (record { long = l; short = inr (flags, s, sym e) })
by_first word flags l s (Some x) e = short_word (record { long = l; flags = flags; short = s; first = x; is = e })

by_short : (word : Text) → long_of word ≡ None → (short : Option Text) → short_of word ≡ short → Sort word
by_short word l None s = bare_word (record { long = l; short = inl s })
by_short word l (Some flags) s = by_first word flags l s (slice_get (chars flags) 0) refl

by_long : (word : Text) → (long : Option (Text × Option Text)) → long_of word ≡ long → Sort word
by_long word None l = by_short word l (short_of word) refl
by_long word (Some p) l = long_word p.0 p.1 l

pub sort : (word : Text) → Sort word
sort word = by_long word (long_of word) refl

-- the same after `--`
pub trailing_word : (rows : List Row) (pend : Option (Text × List Text)) (waiting : Waiting) (word : Text)
    → Turns (state rows pend waiting false true) word (settle_fault rules false (held rows pend))
    (state (settled_rows rules pend rows) (Some (word_id, word ∷ [])) idle true true)
unfolding walked
trailing_word rows pend waiting word =
    let no : (b : Bool) → (b && false) ≡ false = λ b. and_right b false refl in
    record { fault = rw (no (is_pending word_rule pend)) refl; goes = rw (no (is_pending word_rule pend)) refl }

pub trailing_second : (rows : List Row) (pend : Option (Text × List Text)) (waiting : Waiting) (word : Text)
    → turn_fault top [] (state rows pend waiting true true) word ≡ kind.UnknownArgument ∷ []
trailing_second rows pend waiting word = refl
