-- Arguments of which each by itself is right have the same parts here and for `clap`.
use Rattle.std.proofs.Common.{◌≡◌, ◌∙◌, Bool, true, false, List, [], ◌∷◌, map, Option, Some, None, Result, Ok, Err, refl, sym, ap, subst, inl, inr, bytes_eq, is_ok, is_some}
use Rattle.std.proofs.lemmas.Bool.{cases_Bool, true≢false}
use Rattle.std.specs.List.{list_all}
use Rattle.clap.specs.Lexer.{long_of, strip_byte}
use Rattle.command_words.specs.CommandLine.{Given, Text, is_value}
use Rattle.command_words.specs.Faults.{Part, Reading, Wrong, before, names_option, read_after, read_named, single, trailing_part, valued}
use Rattle.command_words.proofs.PartLaws.{parts_by, parts_end, parts_mark, parts_value}
use Rattle.command_words.proofs.Parts.{given_in, parts_after, with_part}
use Rattle.command_words.proofs.ReadLaws.{read_by, read_end, read_last, read_mark, read_value}
use Rattle.command_words.proofs.Steps.{mark}
use Rattle.command_words.proofs.Values.{are_known}

abbrev pub has_value : Given → Bool
has_value given = is_value given.value

-- the arguments after an option's name, or after none, have these parts
pub record Are (name : Option Text) (texts : List Text) (ps : List Part) : Type 0 where
  pub parts : parts_after name texts ≡ Some ps
  pub known : are_known ps ≡ true
  pub valued : list_all has_value (given_in ps) ≡ true

-- ---- one part before others

pub record Split (x : Result Part Wrong) (rest : Reading) (ps : List Part) : Type 0 where
  pub first : Part
  pub more : List Part
  pub first_is : x ≡ Ok first
  pub rest_is : rest ≡ Ok more
  pub all : ps ≡ first ∷ more

no_fault : {T : Type 0} (fault : Wrong) (t : T) → Err fault ≡ Ok t → ⊥
no_fault fault t e = true≢false (sym (ap is_ok e))

split : (x : Result Part Wrong) (rest : Reading) (ps : List Part) → before x rest ≡ Ok ps → Split x rest ps
split (Err fault) rest ps e = absurd (no_fault fault ps e)
split (Ok first) (Err fault) ps e = absurd (no_fault fault ps e)
split (Ok first) (Ok more) ps e = record { first = first; more = more; first_is = refl; rest_is = refl; all = (let same : ps ≡ first ∷ more = cc in same) }

same_part : (x : Result Part Wrong) (p q : Part) → x ≡ Ok p → x ≡ Ok q → p ≡ q
same_part x p q a b = (let e : Ok p ≡ Ok q = sym a ∙ b in cc)

word_is : (text : Text) (p : Part) → single text ≡ Ok p → p ≡ (None, text)
word_is text p e = elim (cases_Bool (is_some (strip_byte 45 text))) [
  | inl odd ↦ (let x = no_fault _ p (rw odd at e) in absurd x)
  | inr plain ↦ same_part (single text) p (None, text) e (rw plain refl)
]

pub record IsOf (name text : Text) (p : Part) : Type 0 where
  pub value : is_value text ≡ true
  pub is : p ≡ (Some name, text)

value_of_part : (name text : Text) (p : Part) → valued name text ≡ Ok p → IsOf name text p
value_of_part name text p e = elim (cases_Bool (is_value text)) [
  | inl so ↦ record { value = so; is = same_part (valued name text) p (Some name, text) e (rw so refl) }
  | inr other ↦ (let x = no_fault _ p (rw other at e) in absurd x)
]

add_word : (texts : List Text) (text : Text) (rest : List Text) (ps : List Part) → parts_after None texts ≡ with_part None text (parts_after None rest)
    → Split (single text) (read_after None rest) ps → ((qs : List Part) → read_after None rest ≡ Ok qs → Are None rest qs) → Are None texts ps
add_word texts text rest ps are s next =
    let p = word_is text s.first s.first_is in
    let n = next s.more s.rest_is in
    subst (Are None texts) (sym (s.all ∙ ap (λ q. q ∷ s.more) p)) (record {
      parts = are ∙ ap (with_part None text) n.parts;
      known = n.known;
      valued = n.valued;
    })

add_option : (before : Option Text) (texts : List Text) (name text : Text) (rest : List Text) (ps : List Part) → names_option name ≡ true
    → parts_after before texts ≡ with_part (Some name) text (parts_after None rest)
    → Split (valued name text) (read_after None rest) ps → ((qs : List Part) → read_after None rest ≡ Ok qs → Are None rest qs) → Are before texts ps
add_option before texts name text rest ps k are s next =
    let p = value_of_part name text s.first s.first_is in
    let n = next s.more s.rest_is in
    subst (Are before texts) (sym (s.all ∙ ap (λ q. q ∷ s.more) p.is)) (record {
      parts = are ∙ ap (with_part (Some name) text) n.parts;
      known = rw k n.known;
      valued = rw p.value n.valued;
    })

-- ---- after `--`

trail_known : (texts : List Text) → are_known (map trailing_part texts) ≡ true
trail_known [] = refl
trail_known (text ∷ more) = trail_known more

trail_valued : (texts : List Text) → list_all has_value (given_in (map trailing_part texts)) ≡ true
trail_valued [] = refl
trail_valued (text ∷ more) = trail_valued more

after_mark : (text : Text) (rest : List Text) (ps : List Part) → bytes_eq text mark ≡ true → read_after None (text ∷ rest) ≡ Ok ps → Are None (text ∷ rest) ps
after_mark text rest ps e read =
    let same : map trailing_part rest ≡ ps = (let h : Ok (map trailing_part rest) ≡ Ok ps = sym (read_mark text rest e) ∙ read in cc) in
    subst (Are None (text ∷ rest)) same (record { parts = parts_mark text rest e; known = trail_known rest; valued = trail_valued rest })

-- ---- all arguments

abbrev IsKnown : Option Text → Type 0
IsKnown None = Unit {0}
IsKnown (Some name) = names_option name ≡ true

abbrev Follow : List Text → Type 0
Follow texts = (name : Option Text) → IsKnown name → (ps : List Part) → read_after name texts ≡ Ok ps → Are name texts ps

by_long : (text : Text) (rest : List Text) (ps : List Part) (long : Option (Text × Option Text)) → bytes_eq text mark ≡ false → long_of text ≡ long → Follow rest
    → read_named long text (λ name. read_after name rest) ≡ Ok ps → Are None (text ∷ rest) ps
by_long text rest ps None e l follow read =
    add_word (text ∷ rest) text rest ps (parts_by text rest None e l) (split (single text) (read_after None rest) ps read) (follow None tt)
by_long text rest ps (Some (name, None)) e l follow read = elim (cases_Bool (names_option name)) [
  | inl so ↦
      let waits : read_after (Some name) rest ≡ Ok ps = rw so at read in
      let n = follow (Some name) so ps waits in
      record { parts = parts_by text rest (Some (name, None)) e l ∙ n.parts; known = n.known; valued = n.valued }
  | inr other ↦ (let x = no_fault _ ps (rw other at read) in absurd x)
]
by_long text rest ps (Some (name, Some value)) e l follow read = elim (cases_Bool (names_option name)) [
  | inl so ↦
      let has : before (valued name value) (read_after None rest) ≡ Ok ps = rw so at read in
      add_option None (text ∷ rest) name value rest ps so (parts_by text rest (Some (name, Some value)) e l)
      (split (valued name value) (read_after None rest) ps has) (follow None tt)
  | inr other ↦ (let x = no_fault _ ps (rw other at read) in absurd x)
]

one_more : (text : Text) (rest : List Text) → Follow rest → Follow (text ∷ rest)
one_more text rest follow None k ps read = elim (cases_Bool (bytes_eq text mark)) [
  | inl e ↦ after_mark text rest ps e read
  | inr e ↦ by_long text rest ps (long_of text) e refl follow (sym (read_by text rest (long_of text) e refl) ∙ read)
]
one_more text rest follow (Some name) k ps read =
    add_option (Some name) (text ∷ rest) name text rest ps k (parts_value name text rest)
    (split (valued name text) (read_after None rest) ps (sym (read_value name text rest) ∙ read)) (follow None tt)

at_end : Follow []
at_end None k ps read =
    let same : [] ≡ ps = (let h : Ok [] ≡ Ok ps = sym read_end ∙ read in cc) in
    subst (Are None []) same (record { parts = parts_end; known = refl; valued = refl })
at_end (Some name) k ps read = absurd (no_fault _ ps (sym (read_last name) ∙ read))

follows : (texts : List Text) → Follow texts
follows [] = at_end
follows (text ∷ rest) = one_more text rest (follows rest)

pub are_parts : (texts : List Text) (ps : List Part) → read_after None texts ≡ Ok ps → Are None texts ps
are_parts texts ps read = follows texts None tt ps read
