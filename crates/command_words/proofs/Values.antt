-- The rows of parts that fit, and the options and the command word that parts have.
use Rattle.std.proofs.Common.{◌≡◌, ◌∙◌, Bool, true, false, not, ◌&&◌, List, [], ◌∷◌, ◌++◌, map, Option, Some, None, refl, sym, ap, subst, inl, inr, bytes_eq, is_some}
use Rattle.std.proofs.lemmas.Bool.{cases_Bool, or_parts, or_right, or_left, and_parts, true≢false}
use Rattle.std.proofs.lemmas.Option.{same_Some}
use Rattle.std.specs.List.{list_all, list_any}
use Rattle.clap.specs.Walk.{Row, has_row}
use Rattle.clap.specs.Words.{first_of}
use Rattle.command_words.specs.CommandLine.{Given, IsOnce, Text, is_value, value_of}
use Rattle.command_words.specs.Commands.{is_of}
use Rattle.command_words.specs.Matches.{has_only, may_have, option_names}
use Rattle.command_words.proofs.Meets.{has_row-push}
use Rattle.command_words.proofs.Names.{itself, known, not_true, of_each, same_text}
use Rattle.command_words.proofs.Parts.{Part, fits, given_in, id_of, is_known, names_option, part_row, row, word_id, words_in}

-- the value that parts give an option is the one that clap keeps
pub value_same : (name : Text) → bytes_eq word_id name ≡ false → (ps : List Part) → first_of name (map part_row ps) ≡ value_of name (given_in ps)
value_same name other [] = refl
value_same name other ((None, value) ∷ ps) = rw other (value_same name other ps)
value_same name other ((Some m, value) ∷ ps) = elim (cases_Bool (bytes_eq m name)) [
  | inl e ↦ rw e refl
  | inr e ↦ rw e (value_same name other ps)
]

-- what fitting parts are
pub record Fitting (rows : List Row) (p : Part) (ps : List Part) : Type 0 where
  pub known : is_known p.0 ≡ true
  pub fresh : has_row (id_of p.0) rows ≡ false
  pub more : fits (rows ++ part_row p ∷ []) ps ≡ true

pub fitting : (rows : List Row) (p : Part) (ps : List Part) → fits rows (p ∷ ps) ≡ true → Fitting rows p ps
fitting rows p ps f =
    let one = and_parts (is_known p.0) _ f in
    let two = and_parts (not (has_row (id_of p.0) rows)) (fits (rows ++ part_row p ∷ []) ps) one.1 in
    record { known = one.0; fresh = not_true (has_row (id_of p.0) rows) two.0; more = two.1 }

-- a part that has a row stands no more
pub absent : (id : Text) (rows : List Row) (ps : List Part) → fits rows ps ≡ true → has_row id rows ≡ true → first_of id (map part_row ps) ≡ None
absent id rows [] f h = refl
absent id rows (p ∷ ps) f h =
    let fit = fitting rows p ps f in
    elim (cases_Bool (bytes_eq (id_of p.0) id)) [
      | inl e ↦
          let has : has_row (id_of p.0) rows ≡ true = subst (λ t. has_row t rows ≡ true) (sym (same_text (id_of p.0) id e)) h in
          absurd (true≢false (sym has ∙ fit.fresh))
      | inr e ↦
          let later : has_row id (rows ++ part_row p ∷ []) ≡ true = has_row-push id rows (part_row p) ∙ or_left (has_row id rows) _ h in
          rw e (absent id (rows ++ part_row p ∷ []) ps fit.more later)
    ]

has_itself : (rows : List Row) (p : Part) → has_row (id_of p.0) (rows ++ part_row p ∷ []) ≡ true
has_itself rows p = has_row-push (id_of p.0) rows (part_row p) ∙ or_right (has_row (id_of p.0) rows) _ (itself (id_of p.0))

pub once : (rows : List Row) (ps : List Part) → fits rows ps ≡ true → IsOnce (given_in ps)
once rows [] f = tt
once rows ((None, value) ∷ ps) f = once (rows ++ row word_id value ∷ []) ps (fitting rows (None, value) ps f).more
once rows ((Some m, value) ∷ ps) f =
    let fit = fitting rows (Some m, value) ps f in
    (sym (value_same m (known m fit.known).apart ps) ∙ absent m (rows ++ row m value ∷ []) ps fit.more (has_itself rows (Some m, value)), once (rows ++ row m value ∷ []) ps fit.more)

-- ---- the command word

no_words : (rows : List Row) (ps : List Part) → fits rows ps ≡ true → first_of word_id (map part_row ps) ≡ None → words_in ps ≡ []
no_words rows [] f e = refl
no_words rows ((None, value) ∷ ps) f e = absurd (true≢false (ap is_some e))
no_words rows ((Some m, value) ∷ ps) f e =
    let fit = fitting rows (Some m, value) ps f in
    let skip : first_of word_id (map part_row ((Some m, value) ∷ ps)) ≡ first_of word_id (map part_row ps) = rw (known m fit.known).other refl in
    no_words (rows ++ row m value ∷ []) ps fit.more (sym skip ∙ e)

pub one_word : (rows : List Row) (ps : List Part) (name : Text) → fits rows ps ≡ true → first_of word_id (map part_row ps) ≡ Some name → words_in ps ≡ name ∷ []
one_word rows [] name f e = absurd (true≢false (sym (ap is_some e)))
one_word rows ((None, value) ∷ ps) name f e =
    let fit = fitting rows (None, value) ps f in
    let none = no_words (rows ++ row word_id value ∷ []) ps fit.more (absent word_id (rows ++ row word_id value ∷ []) ps fit.more (has_itself rows (None, value))) in
    let same : Some value ≡ Some name = e in
    ap (λ ws. value ∷ ws) none ∙ ap (λ w. w ∷ []) (same_Some _ _ same)
one_word rows ((Some m, value) ∷ ps) name f e =
    let fit = fitting rows (Some m, value) ps f in
    let skip : first_of word_id (map part_row ((Some m, value) ∷ ps)) ≡ first_of word_id (map part_row ps) = rw (known m fit.known).other refl in
    one_word (rows ++ row m value ∷ []) ps name fit.more (sym skip ∙ e)

abbrev pub are_known : List Part → Bool
are_known ps = list_all (λ p. is_known p.0) ps

pub word_first : (ps : List Part) (name : Text) → are_known ps ≡ true → words_in ps ≡ name ∷ [] → first_of word_id (map part_row ps) ≡ Some name
word_first [] name k e = absurd (true≢false (sym (ap has_any e)))
  where
    has_any : List Text → Bool
    has_any [] = false
    has_any (x ∷ xs) = true
word_first ((None, value) ∷ ps) name k e = ap (λ ws. Some (first ws)) e
  where
    first : List Text → Text
    first [] = []
    first (x ∷ xs) = x
word_first ((Some m, value) ∷ ps) name k e =
    let here = and_parts (names_option m) (are_known ps) k in
    rw (known m here.0).other (word_first ps name here.1 e)

-- ---- options of a row

valid_from : (of : List Text) (value : Text → Option Text) → ((name : Text) → names_option name ≡ true → may_have of name (value name) ≡ true)
    → (rows : List Row) (ps : List Part) → fits rows ps ≡ true → ((name : Text) → bytes_eq word_id name ≡ false → has_row name rows ≡ false → value name ≡ first_of name (map part_row ps))
    → list_all (is_of of) (given_in ps) ≡ true
valid_from of value may rows [] f same = refl
valid_from of value may rows ((None, v) ∷ ps) f same =
    let fit = fitting rows (None, v) ps f in
    valid_from of value may (rows ++ row word_id v ∷ []) ps fit.more (λ name other h.
    let before = or_parts (has_row name rows) (bytes_eq word_id name) (sym (has_row-push name rows (row word_id v)) ∙ h) in
    let skip : first_of name (map part_row ((None, v) ∷ ps)) ≡ first_of name (map part_row ps) = rw other refl in
    same name other before.0 ∙ skip)
valid_from of value may rows ((Some m, v) ∷ ps) f same =
    let fit = fitting rows (Some m, v) ps f in
    let first : first_of m (map part_row ((Some m, v) ∷ ps)) ≡ Some v = rw (itself m) refl in
    let here : may_have of m (Some v) ≡ true = subst (λ o. may_have of m o ≡ true) (same m (known m fit.known).apart fit.fresh ∙ first) (may m fit.known) in
    let rest = valid_from of value may (rows ++ row m v ∷ []) ps fit.more (λ name other h.
    let before = or_parts (has_row name rows) (bytes_eq m name) (sym (has_row-push name rows (row m v)) ∙ h) in
    let skip : first_of name (map part_row ((Some m, v) ∷ ps)) ≡ first_of name (map part_row ps) = rw before.1 refl in
    same name other before.0 ∙ skip) in
    rw here rest

pub valid : (of : List Text) (ps : List Part) → fits [] ps ≡ true → has_only of (map part_row ps) ≡ true → list_all (is_of of) (given_in ps) ≡ true
valid of ps f only = valid_from of (λ name. first_of name (map part_row ps))
    (λ name h. of_each (λ n. may_have of n (first_of n (map part_row ps))) name option_names only h) [] ps f (λ name other h. refl)

pub may_from : (of : List Text) (name : Text) (given : List Given) → list_all (is_of of) given ≡ true → may_have of name (value_of name given) ≡ true
may_from of name [] h = refl
may_from of name (g ∷ more) h =
    let parts = and_parts (is_of of g) (list_all (is_of of) more) h in
    elim (cases_Bool (bytes_eq g.name name)) [
      | inl e ↦ rw e (subst (λ t. (list_any (bytes_eq t) of && is_value g.value) ≡ true) (same_text g.name name e) parts.0)
      | inr e ↦ rw e (may_from of name more parts.1)
    ]
