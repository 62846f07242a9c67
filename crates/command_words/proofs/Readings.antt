-- The words that clap takes are those whose parts may stand together: each word, where the rest is known.
use Rattle.std.proofs.Common.{◌≡◌, ◌∙◌, Bool, true, false, ◌||◌, List, [], ◌∷◌, ◌++◌, Option, Some, None, refl, sym, ap, subst, inl, inr, bytes_eq, is_some, drop}
use Rattle.std.proofs.lemmas.Bool.{cases_Bool, true≢false}
use Rattle.clap.specs.Walk.{Row, Waiting, idle, option, has_row, used, walk_from, nothing_held}
use Rattle.clap.specs.Faults.{settle_fault, use_fault}
use Rattle.clap.specs.Lexer.{long_of}
use Rattle.clap.specs.declared.error.kind.ErrorKind.TheVariants as kind
use Rattle.command_words.specs.CommandLine.{Text}
use Rattle.command_words.proofs.Names.{IsOption, known}
use Rattle.command_words.proofs.Parts.{Part, are_values, fits, names_option, part_of, parts_after, row, with_part, word_id}
use Rattle.command_words.proofs.Walks.{opt, rules}
use Rattle.command_words.proofs.Steps.{IsPlainWord, IsShortWord, bare_word, held, long_word, mark, short_word, sort, state, turn_joined, turn_mark, turn_option, turn_second, turn_short, turn_unknown, turn_value, turn_word, use_once, use_twice, used_once}
use Rattle.command_words.proofs.Meets.{Meets, add, bad, ended, has_row-push, idle_fails, long_dashed, long_fails, mark_dashed, never, nonempty, short_dashed, stands, step, through, trail, trail_fails, turn_fails, word_added, word_settles, word_stands}
use Rattle.command_words.proofs.PartLaws.{parts_by, parts_end, parts_mark, parts_missing, parts_value}

abbrev pub Rest : List Text → Type 0
Rest words = (rows : List Row) (pend : Option (Text × List Text)) (full : Bool) → settle_fault rules false (held rows pend) ≡ []
    → full ≡ has_row word_id (stands rows pend) → Meets (state rows pend idle full false) words (stands rows pend) (parts_after None words)

still : (rows : List Row) (name value : Text) (full : Bool) → IsOption name → full ≡ has_row word_id rows → full ≡ has_row word_id (rows ++ row name value ∷ [])
still rows name value full k at = at ∙ sym (has_row-push word_id rows (row name value) ∙ rw k.other (or_none (has_row word_id rows)))
  where
    or_none : (b : Bool) → (b || false) ≡ b
    or_none true = refl
    or_none false = refl

bare : (full : Bool) (rows : List Row) (pend : Option (Text × List Text)) (word : Text) (words : List Text) → bytes_eq word mark ≡ false → IsPlainWord word
    → settle_fault rules false (held rows pend) ≡ [] → full ≡ has_row word_id (stands rows pend) → Rest words
    → Meets (state rows pend idle full false) (word ∷ words) (stands rows pend) (with_part None word (parts_after None words))
bare true rows pend word words e p ok at rest =
    bad _ (word ∷ words) (stands rows pend) _ (turn_fails (state rows pend idle true false) word words kind.UnknownArgument (turn_second rows pend word e p))
    (never (stands rows pend) None word (parts_after None words) (inr (inl (sym at))))
bare false rows pend word words e p ok at rest =
    let t = turn_word rows pend word e p in
    step _ _ word words (stands rows pend) _ (record { fault = t.fault ∙ ok; goes = t.goes })
    (word_added (stands rows pend) word false words (parts_after None words) (sym at)
    (λ fresh. rest (stands rows pend) (Some (word_id, word ∷ [])) true (word_settles (stands rows pend) word fresh) (word_stands (stands rows pend) word fresh)))

short : (rows : List Row) (pend : Option (Text × List Text)) (waiting : Waiting) (full : Bool) (word : Text) (words : List Text) (name : Option Text) (parts : Option (List Part))
    (here : List Row) → bytes_eq word mark ≡ false → IsShortWord word
    → Meets (state rows pend waiting full false) (word ∷ words) here (with_part name word parts)
short rows pend waiting full word words name parts here e s =
    bad _ (word ∷ words) here _ (turn_fails (state rows pend waiting full false) word words kind.UnknownArgument (turn_short rows pend waiting full word e s))
    (never here name word parts (inr (inr (short_dashed word s.flags s.short))))

joined_known : (rows : List Row) (pend : Option (Text × List Text)) (full : Bool) (word : Text) (words : List Text) (name value : Text) → bytes_eq word mark ≡ false
    → long_of word ≡ Some (name, Some value) → names_option name ≡ true → settle_fault rules false (held rows pend) ≡ [] → full ≡ has_row word_id (stands rows pend)
    → Rest words → Meets (state rows pend idle full false) (word ∷ words) (stands rows pend) (with_part (Some name) value (parts_after None words))
joined_known rows pend full word words name value e l so ok at rest =
    let k = known name so in
    let t = turn_joined rows pend full word name value e l k ok in
    let here = stands rows pend in
    elim (cases_Bool (has_row name here)) [
      | inl again ↦ bad _ (word ∷ words) here _
          (turn_fails (state rows pend idle full false) word words kind.ArgumentConflict (t.fault ∙ use_twice name (Some name) None value here again))
          (never here (Some name) value (parts_after None words) (inr (inl again)))
      | inr fresh ↦
          let same : used (opt name) (value ∷ []) here ≡ here ++ row name value ∷ [] = used_once name (Some name) None value here fresh in
          step _ _ word words here _ (record { fault = t.fault ∙ use_once name (Some name) None value here fresh; goes = t.goes })
          (add _ words here (Some name) value (parts_after None words) so fresh
          (subst (λ r. Meets (state (used (opt name) (value ∷ []) here) None idle full false) words r (parts_after None words)) same
          (rest (used (opt name) (value ∷ []) here) None full refl (still here name value full k at ∙ ap (has_row word_id) (sym same)))))
    ]

joined : (rows : List Row) (pend : Option (Text × List Text)) (full : Bool) (word : Text) (words : List Text) (name value : Text) → bytes_eq word mark ≡ false
    → long_of word ≡ Some (name, Some value) → settle_fault rules false (held rows pend) ≡ [] → full ≡ has_row word_id (stands rows pend)
    → Rest words → Meets (state rows pend idle full false) (word ∷ words) (stands rows pend) (with_part (Some name) value (parts_after None words))
joined rows pend full word words name value e l ok at rest =
    elim (cases_Bool (names_option name)) [
      | inl so ↦ joined_known rows pend full word words name value e l so ok at rest
      | inr other ↦ bad _ (word ∷ words) (stands rows pend) _
          (turn_fails (state rows pend idle full false) word words kind.UnknownArgument (turn_unknown rows pend idle full word name (Some value) e l other))
          (never (stands rows pend) (Some name) value (parts_after None words) (inl other))
    ]

-- ---- the value of an option

value_bare : (rows : List Row) (full : Bool) (name word : Text) (words : List Text) → bytes_eq word mark ≡ false → IsPlainWord word → names_option name ≡ true
    → full ≡ has_row word_id rows → Rest words
    → Meets (state rows (Some (name, [])) (option name) full false) (word ∷ words) rows (with_part (Some name) word (parts_after None words))
value_bare rows full name word words e p so at rest =
    let k = known name so in
    let t = turn_value rows full name word e p k in
    let settles : settle_fault rules false (held rows (Some (name, word ∷ []))) ≡ use_fault false (opt name) (word ∷ []) rows = rw k.id refl in
    let stands_so : stands rows (Some (name, word ∷ [])) ≡ used (opt name) (word ∷ []) rows = rw k.id refl in
    elim (cases_Bool (has_row name rows)) [
      | inl again ↦ bad _ (word ∷ words) rows _
          (through _ _ word words t (idle_fails words rows (Some (name, word ∷ [])) full kind.ArgumentConflict (settles ∙ use_twice name (Some name) None word rows again)))
          (never rows (Some name) word (parts_after None words) (inr (inl again)))
      | inr fresh ↦
          let same : stands rows (Some (name, word ∷ [])) ≡ rows ++ row name word ∷ [] = stands_so ∙ used_once name (Some name) None word rows fresh in
          step _ _ word words rows _ t
          (add _ words rows (Some name) word (parts_after None words) so fresh
          (subst (λ r. Meets (state rows (Some (name, word ∷ [])) idle full false) words r (parts_after None words)) same
          (rest rows (Some (name, word ∷ [])) full (settles ∙ use_once name (Some name) None word rows fresh)
          (still rows name word full k at ∙ ap (has_row word_id) (sym same)))))
    ]

waits_unsettled : (rows : List Row) (name : Text) → IsOption name → settle_fault rules false (held rows (Some (name, []))) ≡ kind.InvalidValue ∷ []
waits_unsettled rows name k = rw k.id refl

value_met : (word : Text) (words : List Text) (rows : List Row) (full : Bool) (name : Text) → names_option name ≡ true → full ≡ has_row word_id rows → Rest words
    → Meets (state rows (Some (name, [])) (option name) full false) (word ∷ words) rows (with_part (Some name) word (parts_after None words))
value_met word words rows full name so at rest =
    let k = known name so in
    let unsettled = waits_unsettled rows name k in
    elim (cases_Bool (bytes_eq word mark)) [
      | inl e ↦ bad _ (word ∷ words) rows _
          (through _ _ word words (turn_mark rows (Some (name, [])) (option name) full word e)
          (trail_fails words rows (Some (name, [])) (option name) full kind.InvalidValue unsettled))
          (never rows (Some name) word (parts_after None words) (inr (inr (mark_dashed word e))))
      | inr e ↦ elim (sort word) [
        | long_word other v l ↦ bad _ (word ∷ words) rows _ (long_fails rows (Some (name, [])) (option name) full word words other v kind.InvalidValue e l unsettled)
            (never rows (Some name) word (parts_after None words) (inr (inr (long_dashed word (other, v) l))))
        | short_word s ↦ short rows (Some (name, [])) (option name) full word words (Some name) (parts_after None words) rows e s
        | bare_word p ↦ value_bare rows full name word words e p so at rest
      ]
    ]

waits : (words : List Text) (rows : List Row) (full : Bool) (name : Text) → names_option name ≡ true → full ≡ has_row word_id rows
    → ((word : Text) (more : List Text) → words ≡ word ∷ more → Rest more)
    → Meets (state rows (Some (name, [])) (option name) full false) words rows (parts_after (Some name) words)
waits [] rows full name so at rest =
    bad _ [] rows _ (λ h. nonempty kind.InvalidValue (sym (waits_unsettled rows name (known name so)) ∙ h))
    (λ ps e f v. absurd (true≢false (sym (ap is_some (sym (parts_missing name) ∙ e)))))
waits (word ∷ words) rows full name so at rest =
    subst (λ o. Meets (state rows (Some (name, [])) (option name) full false) (word ∷ words) rows o) (sym (parts_value name word words))
    (value_met word words rows full name so at (rest word words refl))

-- `--name`, before its value
named_never : (rows : List Row) (name : Text) (words : List Text) → names_option name ≡ false
    → (ps : List Part) → parts_after (Some name) words ≡ Some ps → fits rows ps ≡ true → are_values ps ≡ true → ⊥
named_never rows name [] other ps e f v = true≢false (sym (ap is_some (sym (parts_missing name) ∙ e)))
named_never rows name (value ∷ words) other ps e f v =
    never rows (Some name) value (parts_after None words) (inl other) ps (sym (parts_value name value words) ∙ e) f v

opened : (rows : List Row) (pend : Option (Text × List Text)) (full : Bool) (word : Text) (words : List Text) (name : Text) → bytes_eq word mark ≡ false
    → long_of word ≡ Some (name, None) → settle_fault rules false (held rows pend) ≡ [] → full ≡ has_row word_id (stands rows pend)
    → ((next : Text) (more : List Text) → words ≡ next ∷ more → Rest more)
    → Meets (state rows pend idle full false) (word ∷ words) (stands rows pend) (parts_after (Some name) words)
opened rows pend full word words name e l ok at rest =
    elim (cases_Bool (names_option name)) [
      | inl so ↦ step _ _ word words (stands rows pend) _ (turn_option rows pend full word name e l (known name so) ok)
          (waits words (stands rows pend) full name so at rest)
      | inr other ↦ bad _ (word ∷ words) (stands rows pend) _
          (turn_fails (state rows pend idle full false) word words kind.UnknownArgument (turn_unknown rows pend idle full word name None e l other))
          (named_never (stands rows pend) name words other)
    ]

long_met : (rows : List Row) (pend : Option (Text × List Text)) (full : Bool) (word : Text) (words : List Text) (name : Text) (v : Option Text) → bytes_eq word mark ≡ false
    → long_of word ≡ Some (name, v) → settle_fault rules false (held rows pend) ≡ [] → full ≡ has_row word_id (stands rows pend)
    → Rest words → ((next : Text) (more : List Text) → words ≡ next ∷ more → Rest more)
    → Meets (state rows pend idle full false) (word ∷ words) (stands rows pend) (part_of (Some (name, v)) word (λ n. parts_after n words))
long_met rows pend full word words name None e l ok at rest later = opened rows pend full word words name e l ok at later
long_met rows pend full word words name (Some value) e l ok at rest later = joined rows pend full word words name value e l ok at rest

word_met : (word : Text) (words : List Text) → Rest words → ((next : Text) (more : List Text) → words ≡ next ∷ more → Rest more) → Rest (word ∷ words)
word_met word words rest later rows pend full ok at =
    let Goal : Option (List Part) → Type 0 = λ o. Meets (state rows pend idle full false) (word ∷ words) (stands rows pend) o in
    elim (cases_Bool (bytes_eq word mark)) [
      | inl e ↦ subst Goal (sym (parts_mark word words e))
          (step _ _ word words (stands rows pend) _ (turn_mark rows pend idle full word e) (trail words rows pend idle full ok at))
      | inr e ↦ elim (sort word) [
        | long_word name v l ↦ subst Goal (sym (parts_by word words (Some (name, v)) e l)) (long_met rows pend full word words name v e l ok at rest later)
        | short_word s ↦ subst Goal (sym (parts_by word words None e s.long)) (short rows pend idle full word words None (parts_after None words) (stands rows pend) e s)
        | bare_word p ↦ subst Goal (sym (parts_by word words None e p.long)) (bare full rows pend word words e p ok at rest)
      ]
    ]

nothing_met : Rest []
nothing_met rows pend full ok at = subst (Meets (state rows pend idle full false) [] (stands rows pend)) (sym parts_end) (ended rows pend idle full false ok)

no_next : (next : Text) (more : List Text) → [] ≡ next ∷ more → Rest more
no_next next more e = absurd (true≢false (sym (ap has_any e)))
  where
    has_any : List Text → Bool
    has_any [] = false
    has_any (x ∷ xs) = true

words_met : (words : List Text) → Rest words
words_met [] = nothing_met
words_met (word ∷ []) = word_met word [] nothing_met no_next
words_met (word ∷ next ∷ more) = word_met word (next ∷ more) (words_met (next ∷ more)) (λ n m e. subst Rest (ap (drop 1) e) (words_met more))

-- what clap's faults and rows are, for all words
pub meets : (words : List Text) → Meets (walk_from nothing_held) words [] (parts_after None words)
meets words = words_met words [] None false refl refl
