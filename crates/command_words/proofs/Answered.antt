-- What clap answers, beside what the words ask for.
use Rattle.std.proofs.Common.{◌≡◌, ◌∙◌, List, [], ◌∷◌, map, Option, Some, None, true, refl, sym, ap, subst, codes}
use Rattle.std.proofs.lemmas.Option.{same_Some}
use Rattle.std.proofs.lemmas.Bool.{true≢false}
use Rattle.std.specs.List.{list_all}
use Rattle.clap.specs.Words.{fault_of, matches_of, first_of}
use Rattle.command_words.specs.CommandLine.{IsOnce, Text, command_words, is_value, options, value_of}
use Rattle.command_words.specs.Commands.{AskFor, Asked, IsLimit, IsHearings, IsSeed, Says, decode, drill, is_of, migrate, name_of, replay, row_of, serve}
use Rattle.command_words.specs.Matches.{AreFor, app, may_have, option_names}
use Rattle.command_words.proofs.FitLaws.{AreGood, Single, Stand, good}
use Rattle.command_words.proofs.LineLaws.{HasLine, command_of, given_of, lined, parts_of, parts_spelt}
use Rattle.command_words.proofs.Names.{all_from, known}
use Rattle.command_words.proofs.Parts.{Part, fits, given_in, names_option, part_row, parts_after, words_in}
use Rattle.command_words.proofs.Readings.{meets}
use Rattle.command_words.proofs.Values.{valid, may_from, once, one_word, value_same, word_first}
use Rattle.command_words.proofs.Walks.{fault_is, matches_are}

-- ---- what holds of each command

says_along : (f g : Text → Option Text) → ((name : Text) → names_option name ≡ true → f name ≡ g name) → (a : Asked) → Says f a → Says g a
says_along f g same (decode plan log) s = (sym (same (codes "plan") refl) ∙ s.0, sym (same (codes "log") refl) ∙ s.1)
says_along f g same (replay station script limit) s =
    (sym (same (codes "station") refl) ∙ s.0, sym (same (codes "script") refl) ∙ s.1, subst (λ o. IsLimit o limit) (same (codes "limit") refl) s.2)
says_along f g same (serve station during after limit) s = (
  sym (same (codes "station") refl) ∙ s.0,
  subst (λ o. IsHearings 16 o during) (same (codes "during") refl) s.1,
  subst (λ o. IsHearings 0 o after) (same (codes "after") refl) s.2,
  subst (λ o. IsLimit o limit) (same (codes "limit") refl) s.3,
)
says_along f g same (drill seed limit) s =
    (subst (λ o. IsSeed o seed) (same (codes "seed") refl) s.0, subst (λ o. IsLimit o limit) (same (codes "limit") refl) s.1)
says_along f g same (migrate station journal) s = (sym (same (codes "station") refl) ∙ s.0, sym (same (codes "journal") refl) ∙ s.1)

row_known : (a : Asked) → list_all names_option (row_of a) ≡ true
row_known (decode plan log) = refl
row_known (replay station script limit) = refl
row_known (serve station during after limit) = refl
row_known (drill seed limit) = refl
row_known (migrate station journal) = refl

name_value : (a : Asked) → is_value (name_of a) ≡ true
name_value (decode plan log) = refl
name_value (replay station script limit) = refl
name_value (serve station during after limit) = refl
name_value (drill seed limit) = refl
name_value (migrate station journal) = refl

-- ---- where clap takes the words

-- a line whose parts fit asks for what its rows are for
asks : (words : List Text) (ps : List Part) (a : Asked) → fits [] ps ≡ true → HasLine words ps → AreFor (map part_row ps) a → AskFor words a
asks words ps a f h are =
    let given_is : given_in ps ≡ options h.line = ap given_in (sym h.parts) ∙ given_of h.line in
    let words_are : words_in ps ≡ command_words h.line = ap words_in (sym h.parts) ∙ command_of h.line in
    record {
      line = h.line;
      spelt = h.spelt;
      command = sym words_are ∙ one_word [] ps (name_of a) f are.command;
      once = subst IsOnce given_is (once [] ps f);
      valid = subst (λ g. list_all (is_of (row_of a)) g ≡ true) given_is (valid (row_of a) ps f are.fit.only);
      says = subst (λ g. Says (λ name. value_of name g) a) given_is
          (says_along (λ name. first_of name (map part_row ps)) (λ name. value_of name (given_in ps)) (λ name k. value_same name (known name k).apart ps) a are.fit.says);
    }

pub taken : (words : List Text) (a : Asked) → fault_of app words ≡ [] → AreFor (matches_of app words) a → AskFor words a
taken words a none are =
    let r = (meets words).reads (sym (fault_is words) ∙ none) in
    asks words r.list a r.fit (lined words r.list r.are) (subst (λ rows. AreFor rows a) (matches_are words ∙ r.rows_are) are)

-- ---- where the words ask for a command

pub record Taken (words : List Text) (a : Asked) : Type 0 where
  pub none : fault_of app words ≡ []
  pub are : AreFor (matches_of app words) a

stands : (ps : List Part) (a : Asked) → IsOnce (given_in ps) → list_all (is_of (row_of a)) (given_in ps) ≡ true → words_in ps ≡ name_of a ∷ [] → Stand (row_of a) [] ps
stands ps a one all word = record {
  of_known = row_known a;
  once = one;
  valid = all;
  new = λ name k h. absurd (true≢false (sym h));
  single = subst (Single []) (sym word) (refl, name_value a, refl);
}

rows_for : (ps : List Part) (a : Asked) → AreGood [] ps → list_all (is_of (row_of a)) (given_in ps) ≡ true → words_in ps ≡ name_of a ∷ [] → Says (λ name. value_of name (given_in ps)) a
    → AreFor (map part_row ps) a
rows_for ps a g all word s = record {
  command = word_first ps (name_of a) g.known word;
  fit = record {
    only = all_from (λ name. may_have (row_of a) name (first_of name (map part_row ps))) option_names (λ name k.
        subst (λ o. may_have (row_of a) name o ≡ true) (sym (value_same name (known name k).apart ps)) (may_from (row_of a) name (given_in ps) all));
    says = says_along (λ name. value_of name (given_in ps)) (λ name. first_of name (map part_row ps)) (λ name k. sym (value_same name (known name k).apart ps)) a s;
  };
}

takes : (words : List Text) (ps : List Part) (a : Asked) → AreGood [] ps → parts_after None words ≡ Some ps → AreFor (map part_row ps) a → Taken words a
takes words ps a g are for =
    let total_is = (meets words).takes ps are g.fit g.values in
    let r = (meets words).reads total_is in
    let same : r.list ≡ ps = same_Some _ _ (sym r.are ∙ are) in
    record {
      none = fault_is words ∙ total_is;
      are = subst (λ rows. AreFor rows a) (sym (matches_are words ∙ r.rows_are ∙ ap (map part_row) same)) for;
    }

pub every : (words : List Text) (a : Asked) → AskFor words a → Taken words a
every words a asked =
    let ps : List Part = parts_of asked.line in
    let given_is : options asked.line ≡ given_in ps = sym (given_of asked.line) in
    let all : list_all (is_of (row_of a)) (given_in ps) ≡ true = subst (λ g. list_all (is_of (row_of a)) g ≡ true) given_is asked.valid in
    let word : words_in ps ≡ name_of a ∷ [] = command_of asked.line ∙ asked.command in
    let g = good (row_of a) [] ps (stands ps a (subst IsOnce given_is asked.once) all word) in
    let are : parts_after None words ≡ Some ps = ap (parts_after None) asked.spelt ∙ parts_spelt asked.line g.sound in
    takes words ps a g are (rows_for ps a g all word (subst (λ h. Says (λ name. value_of name h) a) given_is asked.says))
