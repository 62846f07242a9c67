-- The words that clap takes are those whose parts may stand together: what a word does to a parse, and the words after `--`.
use Rattle.std.proofs.Common.{◌≡◌, ◌∙◌, Bool, true, false, not, ◌&&◌, ◌||◌, List, [], ◌∷◌, ◌++◌, map, Option, Some, None, refl, sym, ap, ap₂, subst, inl, inr, bytes_eq, is_some, ◌==◌}
use Rattle.std.proofs.lemmas.Bool.{cases_Bool, and_parts, true≢false, not_from_true}
use Rattle.std.proofs.lemmas.Option.{same_Some}
use Rattle.std.specs.Prelude.{◌⊎◌}
use Rattle.clap.specs.Walk.{Row, Waiting, Walk, idle, has_row, walked, settled_rows}
use Rattle.clap.specs.Kinds.{Kinds, or_else}
use Rattle.clap.specs.Faults.{settle_fault, turn_fault}
use Rattle.clap.specs.Lexer.{long_of, short_of}
use Rattle.clap.specs.declared.error.kind.ErrorKind.{ErrorKind}
use Rattle.clap.specs.declared.error.kind.ErrorKind.TheVariants as kind
use Rattle.command_words.specs.CommandLine.{Text, is_value}
use Rattle.command_words.proofs.Names.{known, same_text}
use Rattle.command_words.proofs.Parts.{Part, are_values, fits, id_of, is_known, names_option, part_row, row, trailing_part, with_part, word_id}
use Rattle.command_words.proofs.Walks.{final, rules, top, total}
use Rattle.command_words.proofs.Steps.{IsPlainWord, Turns, bare_word, held, long_word, mark, short_word, sort, state, trailing_second, trailing_word, turn_mark, turn_second, turn_short, turn_unknown, turn_unsettled, turn_word, use_once, used_once}

pub record Reads (parts : Option (List Part)) (rows : List Row) (end : List Row) : Type 0 where
  pub list : List Part
  pub are : parts ≡ Some list
  pub fit : fits rows list ≡ true
  pub rows_are : end ≡ rows ++ map part_row list

-- a parse that goes on from w, where `rows` stand and the parts are still to come
pub record Meets (w : Walk) (words : List Text) (rows : List Row) (parts : Option (List Part)) : Type 0 where
  pub reads : total w words ≡ [] → Reads parts rows (final w words)
  pub takes : (ps : List Part) → parts ≡ Some ps → fits rows ps ≡ true → are_values ps ≡ true → total w words ≡ []

abbrev pub Fails : Kinds → Type 0
Fails ks = ks ≡ [] → ⊥

pub some_fails : (k : ErrorKind) (ks rest : Kinds) → ks ≡ k ∷ [] → Fails (or_else ks rest)
some_fails k ks rest e h = absurd (true≢false (ap is_cons (subst (λ t. or_else t rest ≡ []) e h)))
  where
    is_cons : Kinds → Bool
    is_cons [] = false
    is_cons (x ∷ xs) = true

-- a step with no fault
pub step : (w after : Walk) (word : Text) (words : List Text) (rows : List Row) (parts : Option (List Part)) → Turns w word [] after
    → Meets after words rows parts → Meets w (word ∷ words) rows parts
unfolding walked
step w after word words rows parts t m =
    let faults : total w (word ∷ words) ≡ total after words = ap₂ (λ f v. or_else f (total v words)) t.fault t.goes in
    let ends : final w (word ∷ words) ≡ final after words = ap (λ v. final v words) t.goes in
    record {
      reads = λ h. subst (Reads parts rows) (sym ends) (m.reads (sym faults ∙ h));
      takes = λ ps e f v. faults ∙ m.takes ps e f v;
    }

-- a step that fails, on parts that may not stand
pub bad : (w : Walk) (words : List Text) (rows : List Row) (parts : Option (List Part)) → Fails (total w words)
    → ((ps : List Part) → parts ≡ Some ps → fits rows ps ≡ true → are_values ps ≡ true → ⊥) → Meets w words rows parts
bad w words rows parts fails never = record { reads = λ h. absurd (fails h); takes = λ ps e f v. absurd (never ps e f v) }

-- one part more
pub split_part : (name : Option Text) (value : Text) (rest : Option (List Part)) (ps : List Part) → with_part name value rest ≡ Some ps
    → (qs : List Part) × (rest ≡ Some qs) × (ps ≡ (name, value) ∷ qs)
split_part name value None ps e = absurd (true≢false (sym (ap is_some e)))
split_part name value (Some qs) ps e = (qs, refl, sym (same_Some _ _ e))

++-assoc : (a b c : List Row) → (a ++ b) ++ c ≡ a ++ (b ++ c)
++-assoc [] b c = refl
++-assoc (x ∷ a) b c = ap (λ t. x ∷ t) (++-assoc a b c)

part_fits : (name : Option Text) (value : Text) (rows : List Row) (ps : List Part) → is_known name ≡ true → has_row (id_of name) rows ≡ false
    → fits (rows ++ row (id_of name) value ∷ []) ps ≡ true → fits rows ((name, value) ∷ ps) ≡ true
part_fits name value rows ps k fresh f = rw (k, fresh) f

pub add : (w : Walk) (words : List Text) (rows : List Row) (name : Option Text) (value : Text) (rest : Option (List Part)) → is_known name ≡ true
    → has_row (id_of name) rows ≡ false → Meets w words (rows ++ row (id_of name) value ∷ []) rest → Meets w words rows (with_part name value rest)
add w words rows name value rest k fresh m = record {
  reads = λ h. let r = m.reads h in record {
    list = (name, value) ∷ r.list;
    are = ap (with_part name value) r.are;
    fit = part_fits name value rows r.list k fresh r.fit;
    rows_are = r.rows_are ∙ ++-assoc rows _ _;
  };
  takes = λ ps e f v.
      let s = split_part name value rest ps e in
      let fit : fits rows ((name, value) ∷ s.0) ≡ true = subst (λ t. fits rows t ≡ true) s.2 f in
      let values : are_values ((name, value) ∷ s.0) ≡ true = subst (λ t. are_values t ≡ true) s.2 v in
      let more : fits (rows ++ row (id_of name) value ∷ []) s.0 ≡ true = (and_parts _ _ (and_parts _ _ fit).1).1 in
      m.takes s.0 s.1 more (and_parts (is_value value) (are_values s.0) values).1;
}

-- parts whose first is unknown, stands already, or has no value that may be one
pub never : (rows : List Row) (name : Option Text) (value : Text) (rest : Option (List Part))
    → (is_known name ≡ false) ⊎ ((has_row (id_of name) rows ≡ true) ⊎ (is_value value ≡ false))
    → (ps : List Part) → with_part name value rest ≡ Some ps → fits rows ps ≡ true → are_values ps ≡ true → ⊥
never rows name value rest why ps e f v =
    let s = split_part name value rest ps e in
    let fit : fits rows ((name, value) ∷ s.0) ≡ true = subst (λ t. fits rows t ≡ true) s.2 f in
    let values : are_values ((name, value) ∷ s.0) ≡ true = subst (λ t. are_values t ≡ true) s.2 v in
    let one = and_parts (is_known name) (not (has_row (id_of name) rows) && fits (rows ++ row (id_of name) value ∷ []) s.0) fit in
    let two = and_parts (not (has_row (id_of name) rows)) (fits (rows ++ row (id_of name) value ∷ []) s.0) one.1 in
    elim why [
      | inl a ↦ true≢false (sym one.0 ∙ a)
      | inr b ↦ elim b [
        | inl c ↦ true≢false (sym two.0 ∙ not_from_true (has_row (id_of name) rows) c)
        | inr d ↦ true≢false (sym (and_parts (is_value value) (are_values s.0) values).0 ∙ d)
      ]
    ]

-- ---- the first byte of a word

pub long_dashed : (word : Text) (p : Text × Option Text) → long_of word ≡ Some p → is_value word ≡ false
long_dashed [] p e = refl
long_dashed (b ∷ rest) p e = elim (cases_Bool (b == 45)) [
  | inl so ↦ rw so refl
  | inr other ↦
      let none : long_of (b ∷ rest) ≡ None = rw other refl in
      absurd (true≢false (sym (ap is_some (sym none ∙ e))))
]

pub short_dashed : (word flags : Text) → short_of word ≡ Some flags → is_value word ≡ false
short_dashed [] p e = refl
short_dashed (b ∷ rest) p e = elim (cases_Bool (b == 45)) [
  | inl so ↦ rw so refl
  | inr other ↦
      let none : short_of (b ∷ rest) ≡ None = rw other refl in
      absurd (true≢false (sym (ap is_some (sym none ∙ e))))
]

pub mark_dashed : (word : Text) → bytes_eq word mark ≡ true → is_value word ≡ false
mark_dashed word e = subst (λ t. is_value t ≡ false) (sym (same_text word mark e)) refl

-- ---- what cannot settle

pub nonempty : (k : ErrorKind) → k ∷ [] ≡ [] → ⊥
nonempty k e = some_fails k (k ∷ []) [] refl e

pub turn_fails : (w : Walk) (word : Text) (words : List Text) (k : ErrorKind) → turn_fault top [] w word ≡ k ∷ [] → Fails (total w (word ∷ words))
turn_fails w word words k e = some_fails k _ (total (walked rules [] w word) words) e

pub trail_fails : (words : List Text) (rows : List Row) (pend : Option (Text × List Text)) (waiting : Waiting) (full : Bool) (k : ErrorKind)
    → settle_fault rules false (held rows pend) ≡ k ∷ [] → Fails (total (state rows pend waiting full true) words)
trail_fails [] rows pend waiting full k e h = nonempty k (sym e ∙ h)
trail_fails (word ∷ words) rows pend waiting true k e h = turn_fails (state rows pend waiting true true) word words kind.UnknownArgument (trailing_second rows pend waiting word) h
trail_fails (word ∷ words) rows pend waiting false k e h = turn_fails (state rows pend waiting false true) word words k ((trailing_word rows pend waiting word).fault ∙ e) h

pub through : (w after : Walk) (word : Text) (words : List Text) → Turns w word [] after → Fails (total after words) → Fails (total w (word ∷ words))
through w after word words t f h = f (sym (ap₂ (λ g v. or_else g (total v words)) t.fault t.goes) ∙ h)

pub long_fails : (rows : List Row) (pend : Option (Text × List Text)) (waiting : Waiting) (full : Bool) (word : Text) (words : List Text) (name : Text) (v : Option Text) (k : ErrorKind)
    → bytes_eq word mark ≡ false → long_of word ≡ Some (name, v) → settle_fault rules false (held rows pend) ≡ k ∷ []
    → Fails (total (state rows pend waiting full false) (word ∷ words))
long_fails rows pend waiting full word words name v k e l bad h =
    elim (cases_Bool (names_option name)) [
      | inl so ↦ turn_fails (state rows pend waiting full false) word words k (turn_unsettled rows pend waiting full word name v k e l (known name so) bad) h
      | inr other ↦ turn_fails (state rows pend waiting full false) word words kind.UnknownArgument (turn_unknown rows pend waiting full word name v e l other) h
    ]

bare_fails : (rows : List Row) (pend : Option (Text × List Text)) (full : Bool) (word : Text) (words : List Text) (k : ErrorKind)
    → bytes_eq word mark ≡ false → IsPlainWord word → settle_fault rules false (held rows pend) ≡ k ∷ []
    → Fails (total (state rows pend idle full false) (word ∷ words))
bare_fails rows pend true word words k e p bad h = turn_fails (state rows pend idle true false) word words kind.UnknownArgument (turn_second rows pend word e p) h
bare_fails rows pend false word words k e p bad h = turn_fails (state rows pend idle false false) word words k ((turn_word rows pend word e p).fault ∙ bad) h

pub idle_fails : (words : List Text) (rows : List Row) (pend : Option (Text × List Text)) (full : Bool) (k : ErrorKind)
    → settle_fault rules false (held rows pend) ≡ k ∷ [] → Fails (total (state rows pend idle full false) words)
idle_fails [] rows pend full k e h = nonempty k (sym e ∙ h)
idle_fails (word ∷ words) rows pend full k e h =
    elim (cases_Bool (bytes_eq word mark)) [
      | inl so ↦ through _ _ word words (turn_mark rows pend idle full word so) (trail_fails words rows pend idle full k e) h
      | inr other ↦ elim (sort word) [
        | long_word name v l ↦ long_fails rows pend idle full word words name v k other l e h
        | short_word s ↦ turn_fails (state rows pend idle full false) word words kind.UnknownArgument (turn_short rows pend idle full word other s) h
        | bare_word p ↦ bare_fails rows pend full word words k other p e h
      ]
    ]

-- ---- the end, and the words after `--`

abbrev pub stands : List Row → Option (Text × List Text) → List Row
stands rows pend = settled_rows rules pend rows

++-nil : (xs : List Row) → xs ++ [] ≡ xs
++-nil [] = refl
++-nil (x ∷ xs) = ap (λ t. x ∷ t) (++-nil xs)

pub ended : (rows : List Row) (pend : Option (Text × List Text)) (waiting : Waiting) (full trailing : Bool) → settle_fault rules false (held rows pend) ≡ []
    → Meets (state rows pend waiting full trailing) [] (stands rows pend) (Some [])
ended rows pend waiting full trailing ok = record {
  reads = λ h. record { list = []; are = refl; fit = refl; rows_are = sym (++-nil (stands rows pend)) };
  takes = λ ps e f v. ok;
}

pub has_row-push : (id : Text) (rows : List Row) (r : Row) → has_row id (rows ++ r ∷ []) ≡ (has_row id rows || bytes_eq r.id id)
has_row-push id [] r = elim (cases_Bool (bytes_eq r.id id)) [ inl e ↦ rw e refl | inr e ↦ rw e refl ]
has_row-push id (x ∷ rows) r = elim (cases_Bool (bytes_eq x.id id)) [ inl e ↦ rw e refl | inr e ↦ rw e (has_row-push id rows r) ]

-- the walk after the command word, where none stood
abbrev pub AfterWord : List Row → Text → Bool → List Text → Option (List Part) → Type 0
AfterWord rows word trailing words rest = has_row word_id rows ≡ false
    → Meets (state rows (Some (word_id, word ∷ [])) idle true trailing) words (stands rows (Some (word_id, word ∷ []))) rest

pub word_added : (rows : List Row) (word : Text) (trailing : Bool) (words : List Text) (rest : Option (List Part)) → has_row word_id rows ≡ false
    → AfterWord rows word trailing words rest → Meets (state rows (Some (word_id, word ∷ [])) idle true trailing) words rows (with_part None word rest)
word_added rows word trailing words rest fresh next =
    add _ words rows None word rest refl fresh
    (subst (λ t. Meets (state rows (Some (word_id, word ∷ [])) idle true trailing) words t rest) (used_once word_id None (Some 1) word rows fresh) (next fresh))

trail_word : (full : Bool) (rows : List Row) (pend : Option (Text × List Text)) (waiting : Waiting) (word : Text) (words : List Text) (rest : Option (List Part))
    → settle_fault rules false (held rows pend) ≡ [] → full ≡ has_row word_id (stands rows pend) → AfterWord (stands rows pend) word true words rest
    → Meets (state rows pend waiting full true) (word ∷ words) (stands rows pend) (with_part None word rest)
trail_word true rows pend waiting word words rest ok at next =
    bad _ (word ∷ words) (stands rows pend) _ (turn_fails (state rows pend waiting true true) word words kind.UnknownArgument (trailing_second rows pend waiting word))
    (never (stands rows pend) None word rest (inr (inl (sym at))))
trail_word false rows pend waiting word words rest ok at next =
    let t = trailing_word rows pend waiting word in
    step _ _ word words (stands rows pend) _ (record { fault = t.fault ∙ ok; goes = t.goes })
    (word_added (stands rows pend) word true words rest (sym at) next)

pub word_settles : (rows : List Row) (word : Text) → has_row word_id rows ≡ false → settle_fault rules false (held rows (Some (word_id, word ∷ []))) ≡ []
word_settles rows word fresh = use_once word_id None (Some 1) word rows fresh

pub word_stands : (rows : List Row) (word : Text) → has_row word_id rows ≡ false → true ≡ has_row word_id (stands rows (Some (word_id, word ∷ [])))
word_stands rows word fresh =
    rw (used_once word_id None (Some 1) word rows fresh, has_row-push word_id rows (row word_id word), fresh) refl

pub trail : (words : List Text) (rows : List Row) (pend : Option (Text × List Text)) (waiting : Waiting) (full : Bool)
    → settle_fault rules false (held rows pend) ≡ [] → full ≡ has_row word_id (stands rows pend)
    → Meets (state rows pend waiting full true) words (stands rows pend) (Some (map trailing_part words))
trail [] rows pend waiting full ok at = ended rows pend waiting full true ok
trail (word ∷ words) rows pend waiting full ok at =
    trail_word full rows pend waiting word words (Some (map trailing_part words)) ok at
    (λ fresh. trail words (stands rows pend) (Some (word_id, word ∷ [])) idle true (word_settles (stands rows pend) word fresh) (word_stands (stands rows pend) word fresh))
