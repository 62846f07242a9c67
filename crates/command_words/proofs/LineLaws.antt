-- The words of a line have the parts of the line, and words that have parts are a line's.
use Rattle.std.proofs.Common.{◌≡◌, ◌∙◌, Bool, true, false, List, [], ◌∷◌, ◌++◌, map, drop, Option, Some, None, refl, sym, ap, subst, inl, inr, bytes_eq, is_some}
use Rattle.std.proofs.lemmas.Bool.{and_parts, cases_Bool, true≢false}
use Rattle.std.proofs.lemmas.Option.{same_Some}
use Rattle.std.specs.Prelude.{filter_map, unwrap_or}
use Rattle.std.specs.List.{flat_map, list_all}
use Rattle.clap.specs.Lexer.{long_of}
use Rattle.command_words.specs.CommandLine.{Line, Piece, Text, apart, command_word_of, command_words, is_value, joined, option_of, options, word, words_after, words_of, words_of_piece}
use Rattle.command_words.proofs.LexerLaws.{apart_not_mark, is_name, joined_not_mark, long_apart, long_joined, value_not_long, value_not_mark, word_for, word_is}
use Rattle.command_words.proofs.Meets.{split_part}
use Rattle.command_words.proofs.Names.{same_text}
use Rattle.command_words.proofs.PartLaws.{parts_by, parts_end, parts_mark, parts_missing, parts_value}
use Rattle.command_words.proofs.Parts.{Part, given_in, part_of, parts_after, trailing_part, with_part, words_in}
use Rattle.command_words.proofs.Steps.{mark}

abbrev pub part_of_piece : Piece → Part
part_of_piece (word text) = (None, text)
part_of_piece (apart given) = (Some given.name, given.value)
part_of_piece (joined given) = (Some given.name, given.value)

abbrev pub parts_from : List Piece → Option (List Text) → List Part
parts_from [] operands = map trailing_part (unwrap_or operands [])
parts_from (p ∷ pieces) operands = part_of_piece p ∷ parts_from pieces operands

abbrev pub parts_of : Line → List Part
parts_of line = parts_from line.pieces line.operands

-- ---- the options and the command words of a line are those of its parts

no_options : (words : List Text) → given_in (map trailing_part words) ≡ []
no_options [] = refl
no_options (w ∷ words) = no_options words

all_words : (words : List Text) → words_in (map trailing_part words) ≡ words
all_words [] = refl
all_words (w ∷ words) = ap (λ ws. w ∷ ws) (all_words words)

given_from : (pieces : List Piece) (operands : Option (List Text)) → given_in (parts_from pieces operands) ≡ filter_map option_of pieces
given_from [] operands = no_options (unwrap_or operands [])
given_from (word text ∷ pieces) operands = given_from pieces operands
given_from (apart given ∷ pieces) operands = ap (λ gs. given ∷ gs) (given_from pieces operands)
given_from (joined given ∷ pieces) operands = ap (λ gs. given ∷ gs) (given_from pieces operands)

words_from : (pieces : List Piece) (operands : Option (List Text)) → words_in (parts_from pieces operands) ≡ filter_map command_word_of pieces ++ unwrap_or operands []
words_from [] operands = all_words (unwrap_or operands [])
words_from (word text ∷ pieces) operands = ap (λ ws. text ∷ ws) (words_from pieces operands)
words_from (apart given ∷ pieces) operands = words_from pieces operands
words_from (joined given ∷ pieces) operands = words_from pieces operands

pub given_of : (line : Line) → given_in (parts_of line) ≡ options line
given_of line = given_from line.pieces line.operands

pub command_of : (line : Line) → words_in (parts_of line) ≡ command_words line
command_of line = words_from line.pieces line.operands

-- ---- words that have parts are a line's

pub record HasLine (words : List Text) (ps : List Part) : Type 0 where
  pub line : Line
  pub spelt : words ≡ words_of line
  pub parts : parts_of line ≡ ps

abbrev Lined : List Text → Type 0
Lined words = (ps : List Part) → parts_after None words ≡ Some ps → HasLine words ps

abbrev Later : List Text → Type 0
Later words = (next : Text) (more : List Text) → words ≡ next ∷ more → Lined more

add_word : (text : Text) (words : List Text) (ps qs : List Part) → ps ≡ (None, text) ∷ qs → HasLine words qs → HasLine (text ∷ words) ps
add_word text words ps qs e h = record {
  line = record { pieces = word text ∷ h.line.pieces; operands = h.line.operands };
  spelt = ap (λ ws. text ∷ ws) h.spelt;
  parts = ap (λ rest. (None, text) ∷ rest) h.parts ∙ sym e;
}

add_apart : (text name value : Text) (words : List Text) (ps qs : List Part) → text ≡ word_for name None → ps ≡ (Some name, value) ∷ qs → HasLine words qs
    → HasLine (text ∷ value ∷ words) ps
add_apart text name value words ps qs is e h = record {
  line = record { pieces = apart (record { name = name; value = value }) ∷ h.line.pieces; operands = h.line.operands };
  spelt = ap (λ t. t ∷ value ∷ words) is ∙ ap (λ ws. word_for name None ∷ value ∷ ws) h.spelt;
  parts = ap (λ rest. (Some name, value) ∷ rest) h.parts ∙ sym e;
}

add_joined : (text name value : Text) (words : List Text) (ps qs : List Part) → text ≡ word_for name (Some value) → ps ≡ (Some name, value) ∷ qs → HasLine words qs
    → HasLine (text ∷ words) ps
add_joined text name value words ps qs is e h = record {
  line = record { pieces = joined (record { name = name; value = value }) ∷ h.line.pieces; operands = h.line.operands };
  spelt = ap (λ t. t ∷ words) is ∙ ap (λ ws. word_for name (Some value) ∷ ws) h.spelt;
  parts = ap (λ rest. (Some name, value) ∷ rest) h.parts ∙ sym e;
}

after_mark : (text : Text) (words : List Text) (ps : List Part) → bytes_eq text mark ≡ true → parts_after None (text ∷ words) ≡ Some ps → HasLine (text ∷ words) ps
after_mark text words ps e are = record {
  line = record { pieces = []; operands = Some words };
  spelt = ap (λ t. t ∷ words) (same_text text mark e);
  parts = same_Some _ _ (sym (parts_mark text words e) ∙ are);
}

opened : (text name : Text) (words : List Text) (ps : List Part) → text ≡ word_for name None → Later words → parts_after (Some name) words ≡ Some ps
    → HasLine (text ∷ words) ps
opened text name [] ps is later are = absurd (true≢false (sym (sym (ap is_some (parts_missing name)) ∙ ap is_some are)))
opened text name (value ∷ words) ps is later are =
    let s = split_part (Some name) value (parts_after None words) ps (sym (parts_value name value words) ∙ are) in
    add_apart text name value words ps s.0 is s.2 (later value words refl s.0 s.1)

by_long : (text : Text) (words : List Text) (ps : List Part) (long : Option (Text × Option Text)) → long_of text ≡ long → Lined words → Later words
    → part_of long text (λ name. parts_after name words) ≡ Some ps → HasLine (text ∷ words) ps
by_long text words ps None l here later are = (let s = split_part None text (parts_after None words) ps are in add_word text words ps s.0 s.2 (here s.0 s.1))
by_long text words ps (Some (name, None)) l here later are = opened text name words ps (word_is text name None l) later are
by_long text words ps (Some (name, Some value)) l here later are =
    let s = split_part (Some name) value (parts_after None words) ps are in
    add_joined text name value words ps s.0 (word_is text name (Some value) l) s.2 (here s.0 s.1)

word_lined : (text : Text) (words : List Text) → Lined words → Later words → Lined (text ∷ words)
word_lined text words here later ps are =
    elim (cases_Bool (bytes_eq text mark)) [
      | inl e ↦ after_mark text words ps e are
      | inr e ↦ by_long text words ps (long_of text) refl here later (sym (parts_by text words (long_of text) e refl) ∙ are)
    ]

nothing_lined : Lined []
nothing_lined ps are = record { line = record { pieces = []; operands = None }; spelt = refl; parts = same_Some _ _ (sym parts_end ∙ are) }

none_later : Later []
none_later next more e = absurd (true≢false (sym (ap has_any e)))
  where
    has_any : List Text → Bool
    has_any [] = false
    has_any (x ∷ xs) = true

pub lined : (words : List Text) → Lined words
lined [] = nothing_lined
lined (text ∷ []) = word_lined text [] nothing_lined none_later
lined (text ∷ next ∷ more) = word_lined text (next ∷ more) (lined (next ∷ more)) (λ n m e. subst Lined (ap (drop 1) e) (lined more))

-- ---- the words of a line have its parts

abbrev pub is_sound : Part → Bool
is_sound (None, text) = is_value text
is_sound (Some name, value) = is_name name

parts_past : (operands : Option (List Text)) → parts_after None (words_after operands) ≡ Some (map trailing_part (unwrap_or operands []))
parts_past None = parts_end
parts_past (Some words) = parts_mark mark words refl

parts_of_words : (pieces : List Piece) (operands : Option (List Text)) → list_all (λ p. is_sound (part_of_piece p)) pieces ≡ true
    → parts_after None (flat_map words_of_piece pieces ++ words_after operands) ≡ Some (parts_from pieces operands)
parts_of_words [] operands h = parts_past operands
parts_of_words (word text ∷ pieces) operands h =
    let sound = and_parts (is_value text) _ h in
    parts_by text (flat_map words_of_piece pieces ++ words_after operands) None (value_not_mark text sound.0) (value_not_long text sound.0)
    ∙ ap (with_part None text) (parts_of_words pieces operands sound.1)
parts_of_words (apart given ∷ pieces) operands h =
    let sound = and_parts (is_name given.name) _ h in
    let more : List Text = flat_map words_of_piece pieces ++ words_after operands in
    parts_by (45 ∷ 45 ∷ given.name) (given.value ∷ more) (Some (given.name, None)) (apart_not_mark given.name sound.0) (long_apart given.name sound.0)
    ∙ parts_value given.name given.value more ∙ ap (with_part (Some given.name) given.value) (parts_of_words pieces operands sound.1)
parts_of_words (joined given ∷ pieces) operands h =
    let sound = and_parts (is_name given.name) _ h in
    let more : List Text = flat_map words_of_piece pieces ++ words_after operands in
    parts_by (45 ∷ 45 ∷ (given.name ++ 61 ∷ given.value)) more (Some (given.name, Some given.value)) (joined_not_mark given.name given.value) (long_joined given.name given.value sound.0)
    ∙ ap (with_part (Some given.name) given.value) (parts_of_words pieces operands sound.1)

-- the pieces before are sound where the parts are
prefix : (pieces : List Piece) (operands : Option (List Text)) → list_all is_sound (parts_from pieces operands) ≡ true → list_all (λ p. is_sound (part_of_piece p)) pieces ≡ true
prefix [] operands h = refl
prefix (p ∷ pieces) operands h =
    let sound = and_parts (is_sound (part_of_piece p)) (list_all is_sound (parts_from pieces operands)) h in
    rw sound.0 (prefix pieces operands sound.1)

pub parts_spelt : (line : Line) → list_all is_sound (parts_of line) ≡ true → parts_after None (words_of line) ≡ Some (parts_of line)
parts_spelt line h = parts_of_words line.pieces line.operands (prefix line.pieces line.operands h)
