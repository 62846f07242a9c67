-- Parts of a valid line fit.
use Rattle.std.proofs.Common.{◌≡◌, ◌∙◌, true, false, List, [], ◌∷◌, ◌++◌, Some, None, refl, sym, ap, subst, inl, inr, bytes_eq, is_some}
use Rattle.std.proofs.lemmas.Bool.{cases_Bool, or_cases, and_parts, true≢false}
use Rattle.std.specs.List.{list_all, list_any}
use Rattle.clap.specs.Walk.{Row, has_row}
use Rattle.command_words.specs.CommandLine.{IsOnce, Text, is_value, value_of}
use Rattle.command_words.specs.Commands.{is_of}
use Rattle.command_words.specs.Matches.{option_names}
use Rattle.command_words.proofs.LexerLaws.{is_name}
use Rattle.command_words.proofs.LineLaws.{is_sound}
use Rattle.command_words.proofs.Meets.{has_row-push}
use Rattle.command_words.proofs.Names.{itself, known, of_each, of_row, same_text}
use Rattle.command_words.proofs.Parts.{Part, are_values, fits, given_in, names_option, row, word_id, words_in}
use Rattle.command_words.proofs.Values.{are_known}

-- at most one command word is to come, and none after one
abbrev pub Single : List Row → List Text → Type 0
Single rows [] = Unit {0}
Single rows (word ∷ more) = (has_row word_id rows ≡ false) × (is_value word ≡ true) × (more ≡ [])

-- parts that may stand after rows, with options of a row that is known
pub record Stand (of : List Text) (rows : List Row) (ps : List Part) : Type 0 where
  pub of_known : list_all names_option of ≡ true
  pub once : IsOnce (given_in ps)
  pub valid : list_all (is_of of) (given_in ps) ≡ true
  pub new : (name : Text) → names_option name ≡ true → has_row name rows ≡ true → value_of name (given_in ps) ≡ None
  pub single : Single rows (words_in ps)

pub record AreGood (rows : List Row) (ps : List Part) : Type 0 where
  pub fit : fits rows ps ≡ true
  pub values : are_values ps ≡ true
  pub known : are_known ps ≡ true
  pub sound : list_all is_sound ps ≡ true

single_later : (rows : List Row) (r : Row) (words : List Text) → bytes_eq r.id word_id ≡ false → Single rows words → Single (rows ++ r ∷ []) words
single_later rows r [] other s = tt
single_later rows r (word ∷ more) other s = (has_row-push word_id rows r ∙ rw (s.0, other) refl, s.1, s.2)

single_none : (rows : List Row) (words : List Text) → words ≡ [] → Single rows words
single_none rows words e = subst (Single rows) (sym e) tt

good_word : (rows : List Row) (text : Text) (ps : List Part) → has_row word_id rows ≡ false → is_value text ≡ true → AreGood (rows ++ row word_id text ∷ []) ps
    → AreGood rows ((None, text) ∷ ps)
good_word rows text ps fresh v g = record {
  fit = rw fresh g.fit;
  values = rw v g.values;
  known = g.known;
  sound = rw v g.sound;
}

name_is : (name : Text) → names_option name ≡ true → is_name name ≡ true
name_is name h = of_each is_name name option_names refl h

good_option : (rows : List Row) (name value : Text) (ps : List Part) → names_option name ≡ true → has_row name rows ≡ false → is_value value ≡ true
    → AreGood (rows ++ row name value ∷ []) ps → AreGood rows ((Some name, value) ∷ ps)
good_option rows name value ps k fresh v g = record {
  fit = rw (k, fresh) g.fit;
  values = rw v g.values;
  known = rw k g.known;
  sound = rw (name_is name k) g.sound;
}

-- the parts after a command word
word_after : (of : List Text) (rows : List Row) (text : Text) (ps : List Part) → Stand of rows ((None, text) ∷ ps) → Stand of (rows ++ row word_id text ∷ []) ps
word_after of rows text ps s = record {
  of_known = s.of_known;
  once = s.once;
  valid = s.valid;
  new = λ name k h. s.new name k (elim (or_cases (has_row name rows) (bytes_eq word_id name) (sym (has_row-push name rows (row word_id text)) ∙ h)) [
    | inl before ↦ before
    | inr same ↦ absurd (true≢false (sym same ∙ (known name k).apart))
  ]);
  single = single_none (rows ++ row word_id text ∷ []) (words_in ps) s.single.2;
}

-- the parts after an option
option_after : (of : List Text) (rows : List Row) (m value : Text) (ps : List Part) → names_option m ≡ true → Stand of rows ((Some m, value) ∷ ps)
    → Stand of (rows ++ row m value ∷ []) ps
option_after of rows m value ps k s = record {
  of_known = s.of_known;
  once = s.once.1;
  valid = (and_parts (is_of of (record { name = m; value = value })) (list_all (is_of of) (given_in ps)) s.valid).1;
  new = λ name kn h. elim (or_cases (has_row name rows) (bytes_eq m name) (sym (has_row-push name rows (row m value)) ∙ h)) [
    | inl before ↦ none_later name (s.new name kn before)
    | inr same ↦ subst (λ t. value_of t (given_in ps) ≡ None) (same_text m name same) s.once.0
  ];
  single = single_later rows (row m value) (words_in ps) (known m k).other s.single;
}
  where
    none_later : (name : Text) → value_of name (record { name = m; value = value } ∷ given_in ps) ≡ None → value_of name (given_in ps) ≡ None
    none_later name e = elim (cases_Bool (bytes_eq m name)) [
      | inl same ↦ (let some : value_of name (record { name = m; value = value } ∷ given_in ps) ≡ Some value = rw same refl in absurd (true≢false (sym (ap is_some some) ∙ ap is_some e)))
      | inr other ↦ (let skip : value_of name (record { name = m; value = value } ∷ given_in ps) ≡ value_of name (given_in ps) = rw other refl in sym skip ∙ e)
    ]

pub good : (of : List Text) (rows : List Row) (ps : List Part) → Stand of rows ps → AreGood rows ps
good of rows [] s = record { fit = refl; values = refl; known = refl; sound = refl }
good of rows ((None, text) ∷ ps) s =
    good_word rows text ps s.single.0 s.single.1 (good of (rows ++ row word_id text ∷ []) ps (word_after of rows text ps s))
good of rows ((Some m, value) ∷ ps) s =
    let here = (and_parts (is_of of (record { name = m; value = value })) (list_all (is_of of) (given_in ps)) s.valid).0 in
    let both = and_parts (list_any (bytes_eq m) of) (is_value value) here in
    let k : names_option m ≡ true = of_row names_option m of s.of_known both.0 in
    let fresh : has_row m rows ≡ false = elim (cases_Bool (has_row m rows)) [
      | inr none ↦ none
      | inl has ↦
          let some : value_of m (record { name = m; value = value } ∷ given_in ps) ≡ Some value = rw (itself m) refl in
          absurd (true≢false (sym (ap is_some some) ∙ ap is_some (s.new m k has)))
    ] in
    good_option rows m value ps k fresh both.1 (good of (rows ++ row m value ∷ []) ps (option_after of rows m value ps k s))
