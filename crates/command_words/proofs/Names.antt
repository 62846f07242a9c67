-- The names of the options, and the rules that they lead to.
use Rattle.std.proofs.Common.{◌≡◌, ◌∙◌, Bool, true, false, not, List, [], ◌∷◌, map, Some, None, refl, sym, ap, subst, inl, inr, bytes_eq}
use Rattle.std.proofs.lemmas.Bool.{cases_Bool, and_parts, or_cases, or_left, or_parts, or_right, true≢false}
use Rattle.std.proofs.lemmas.Slice.Eq.{bytes_eq-Decides}
use Rattle.std.specs.List.{list_all, list_any}
use Rattle.clap.specs.Walk.{Rule, arg_by_id, arg_by_long}
use Rattle.command_words.specs.CommandLine.{Text}
use Rattle.command_words.specs.Matches.{option_names}
use Rattle.command_words.proofs.Parts.{names_option, word_id}
use Rattle.command_words.proofs.Walks.{opt, rules, word_rule}

pub same_text : (a b : Text) → bytes_eq a b ≡ true → a ≡ b
same_text a b = (bytes_eq-Decides a b).0

pub itself : (a : Text) → bytes_eq a a ≡ true
itself a = (bytes_eq-Decides a a).1 refl

pub not_true : (b : Bool) → not b ≡ true → b ≡ false
not_true true e = sym e
not_true false e = refl

-- ---- what holds of each name of a list

pub of_each : (p : Text → Bool) (name : Text) (names : List Text) → list_all p names ≡ true → list_any (λ other. bytes_eq other name) names ≡ true → p name ≡ true
of_each p name [] all h = absurd (true≢false (sym h))
of_each p name (other ∷ more) all h =
    let parts = and_parts (p other) (list_all p more) all in
    elim (or_cases (bytes_eq other name) (list_any (λ o. bytes_eq o name) more) h) [
      | inl e ↦ subst (λ t. p t ≡ true) (same_text other name e) parts.0
      | inr e ↦ of_each p name more parts.1 e
    ]

pub of_row : (p : Text → Bool) (name : Text) (names : List Text) → list_all p names ≡ true → list_any (bytes_eq name) names ≡ true → p name ≡ true
of_row p name [] all h = absurd (true≢false (sym h))
of_row p name (other ∷ more) all h =
    let parts = and_parts (p other) (list_all p more) all in
    elim (or_cases (bytes_eq name other) (list_any (bytes_eq name) more) h) [
      | inl e ↦ subst (λ t. p t ≡ true) (sym (same_text name other e)) parts.0
      | inr e ↦ of_row p name more parts.1 e
    ]

-- a name that is one of these, whichever of both is looked at first
pub either_way : (name : Text) (names : List Text) → list_any (bytes_eq name) names ≡ list_any (λ other. bytes_eq other name) names
either_way name [] = refl
either_way name (other ∷ more) = elim (cases_Bool (bytes_eq name other)) [
  | inl e ↦
      let same : bytes_eq other name ≡ true = subst (λ t. bytes_eq t name ≡ true) (same_text name other e) (itself name) in
      rw (e, same) refl
  | inr e ↦ elim (cases_Bool (bytes_eq other name)) [
    | inl h ↦ absurd (true≢false (sym (subst (λ t. bytes_eq name t ≡ true) (sym (same_text other name h)) (itself name)) ∙ e))
    | inr h ↦ rw (e, h) (either_way name more)
  ]
]

pub all_from : (p : Text → Bool) (names : List Text) → ((name : Text) → list_any (λ other. bytes_eq other name) names ≡ true → p name ≡ true) → list_all p names ≡ true
all_from p [] each = refl
all_from p (name ∷ more) each =
    let first : p name ≡ true = each name (or_left (bytes_eq name name) (list_any (λ o. bytes_eq o name) more) (itself name)) in
    rw first (all_from p more (λ n h. each n (or_right (bytes_eq name n) (list_any (λ o. bytes_eq o n) more) h)))

-- ---- the rules of a list of names

operands : (name other : Text) (more : List Text) → list_any (λ o. bytes_eq o name) (other ∷ more) ≡ true → bytes_eq other name ≡ false → list_any (λ o. bytes_eq o name) more ≡ true
operands name other more h e = elim (or_cases (bytes_eq other name) (list_any (λ o. bytes_eq o name) more) h) [
  | inl so ↦ absurd (true≢false (sym so ∙ e))
  | inr so ↦ so
]

long_in : (name : Text) (names : List Text) → list_any (λ o. bytes_eq o name) names ≡ true → arg_by_long (map opt names) name ≡ Some (opt name)
long_in name [] h = absurd (true≢false (sym h))
long_in name (other ∷ more) h = elim (cases_Bool (bytes_eq other name)) [
  | inl e ↦ rw e (ap (λ t. Some (opt t)) (same_text other name e))
  | inr e ↦ rw e (long_in name more (operands name other more h e))
]

id_in : (name : Text) (names : List Text) → list_any (λ o. bytes_eq o name) names ≡ true → arg_by_id (map opt names) name ≡ Some (opt name)
id_in name [] h = absurd (true≢false (sym h))
id_in name (other ∷ more) h = elim (cases_Bool (bytes_eq other name)) [
  | inl e ↦ rw e (ap (λ t. Some (opt t)) (same_text other name e))
  | inr e ↦ rw e (id_in name more (operands name other more h e))
]

none_in : (name : Text) (names : List Text) → list_any (λ o. bytes_eq o name) names ≡ false → arg_by_long (map opt names) name ≡ None
none_in name [] h = refl
none_in name (other ∷ more) h =
    let parts = or_parts (bytes_eq other name) (list_any (λ o. bytes_eq o name) more) h in
    rw parts.0 (none_in name more parts.1)

-- ---- an option's name leads to its rule, and is not the command word's id

pub record IsOption (name : Text) : Type 0 where
  pub long : arg_by_long rules name ≡ Some (opt name)
  pub id : arg_by_id rules name ≡ Some (opt name)
  pub other : bytes_eq name word_id ≡ false
  pub apart : bytes_eq word_id name ≡ false

id_after : (name : Text) (rs : List Rule) → bytes_eq word_id name ≡ false → arg_by_id rs name ≡ Some (opt name) → arg_by_id (word_rule ∷ rs) name ≡ Some (opt name)
id_after name rs apart e = rw apart e

pub known : (name : Text) → names_option name ≡ true → IsOption name
known name h =
    let apart : bytes_eq word_id name ≡ false = not_true (bytes_eq word_id name) (of_each (λ n. not (bytes_eq word_id n)) name option_names refl h) in
    record {
      long = long_in name option_names h;
      id = id_after name (map opt option_names) apart (id_in name option_names h);
      other = not_true (bytes_eq name word_id) (of_each (λ n. not (bytes_eq n word_id)) name option_names refl h);
      apart = apart;
    }

pub unknown : (name : Text) → names_option name ≡ false → arg_by_long rules name ≡ None
unknown name h = none_in name option_names h
