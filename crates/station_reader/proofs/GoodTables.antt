-- Tables without a fault, by their lists of faults.
use Rattle.std.proofs.Common.{◌≡◌, ◌∙◌, ◌||◌, ℕ, Bool, true, false, List, [], ◌∷◌, ◌++◌, Some, refl, sym, ap, inl, inr, is_some, map, slice_get, if◌then◌else◌}
use Rattle.std.specs.Bool.{⊤}
use Rattle.std.proofs.lemmas.Bool.{cases_Bool, true≢false}
use Rattle.toml.specs.Data.{Members}
use Rattle.station_reader.specs.Faults.{bad_id, bad_in, bad_in_key, bad_in_keys, is_bad, is_missing, is_taken, key_in, keys_at, missing_in, rows_of, sheets}
use Rattle.station_reader.specs.Finding.{AllGood, AreGood}
use Rattle.station_reader.specs.Forms.{Row, Text, number_at}
use Rattle.station_reader.specs.Rows.{id_row, key_rows, secret_row}
use Rattle.station_reader.specs.declared.keys.Part.{Part}
use Rattle.station_reader.specs.declared.keys.Part.TheVariants as part
use Rattle.station_reader.proofs.Firsts.{empty_back, empty_prefix, empty_map}

not-empty : {X : Type 0} (x : X) (xs : List X) → x ∷ xs ≡ [] → false ≡ true
not-empty x xs e = sym (ap (λ ys. is_some (slice_get ys 0)) e)

missing-head : (m : Members) (row : Row) (rows : List Row) → is_missing m row ≡ true → missing_in (row ∷ rows) m ≡ row.key ∷ missing_in rows m
missing-head m row rows h = rw h refl

missing-past : (m : Members) (row : Row) (rows : List Row) → is_missing m row ≡ false → missing_in (row ∷ rows) m ≡ missing_in rows m
missing-past m row rows h = rw h refl

bad-head : (m : Members) (row : Row) (rows : List Row) → is_bad m row ≡ true → bad_in (row ∷ rows) m ≡ row.key ∷ bad_in rows m
bad-head m row rows h = rw h refl

bad-past : (m : Members) (row : Row) (rows : List Row) → is_bad m row ≡ false → bad_in (row ∷ rows) m ≡ bad_in rows m
bad-past m row rows h = rw h refl

-- where no key of the rows is missing, the first is there, and the others are
no-missing : (m : Members) (row : Row) (rows : List Row) → missing_in (row ∷ rows) m ≡ [] → (is_missing m row ≡ false) × (missing_in rows m ≡ [])
no-missing m row rows h = elim (cases_Bool (is_missing m row)) [
  | inl here ↦ absurd (true≢false (sym (not-empty row.key (missing_in rows m) (sym (missing-head m row rows here) ∙ h))))
  | inr past ↦ (past, sym (missing-past m row rows past) ∙ h)
]

no-bad : (m : Members) (row : Row) (rows : List Row) → bad_in (row ∷ rows) m ≡ [] → (is_bad m row ≡ false) × (bad_in rows m ≡ [])
no-bad m row rows h = elim (cases_Bool (is_bad m row)) [
  | inl here ↦ absurd (true≢false (sym (not-empty row.key (bad_in rows m) (sym (bad-head m row rows here) ∙ h))))
  | inr past ↦ (past, sym (bad-past m row rows past) ∙ h)
]

good_rows : (m : Members) (rows : List Row) → missing_in rows m ≡ [] → bad_in rows m ≡ [] → AreGood m rows
good_rows m [] missing bad = tt
good_rows m (row ∷ rows) missing bad =
    let (there, others) = no-missing m row rows missing in
    let (right, rest) = no-bad m row rows bad in
    (there, right, good_rows m rows others rest)

pub all_good : (part : Part) (tables : List (ℕ × Members)) → keys_at missing_in (sheets part tables) ≡ [] → keys_at bad_in (sheets part tables) ≡ [] → AllGood (rows_of part) tables
all_good part [] missing bad = tt
all_good part (t ∷ ts) missing bad =
    let here = empty_map (key_in part t.0) (missing_in (rows_of part) t.1) (keys_at missing_in (sheets part ts)) missing in
    let right = empty_map (key_in part t.0) (bad_in (rows_of part) t.1) (keys_at bad_in (sheets part ts)) bad in
    let later = empty_back (map (key_in part t.0) (missing_in (rows_of part) t.1)) (keys_at missing_in (sheets part ts)) missing in
    let rest = empty_back (map (key_in part t.0) (bad_in (rows_of part) t.1)) (keys_at bad_in (sheets part ts)) bad in
    (good_rows t.1 (rows_of part) here right, all_good part ts later rest)

-- ---- tables of keys

-- an identifier that is no fault is of its form, and is not taken
pub good_id : (taken : List ℕ) (m : Members) → bad_id taken m ≡ [] → (is_bad m id_row ≡ false) × (is_taken taken m ≡ false)
good_id taken m h = parts (is_bad m id_row) (is_taken taken m) h
  where
    parts : (a b : Bool) → (if a || b then id_row.key ∷ [] else []) ≡ [] → (a ≡ false) × (b ≡ false)
    parts true b e = absurd (true≢false (sym (not-empty id_row.key [] e)))
    parts false true e = absurd (true≢false (sym (not-empty id_row.key [] e)))
    parts false false e = (refl, refl)

-- one table of a key: its first rows, and its identifier, which is not taken
good_key : (taken : List ℕ) (m : Members) → missing_in key_rows m ≡ [] → bad_in_key taken m ≡ [] → AreGood m key_rows × (is_taken taken m ≡ false)
good_key taken m missing bad =
    let (id_there, others) = no-missing m id_row (secret_row ∷ []) missing in
    let (secret_there, _none) = no-missing m secret_row [] others in
    let (id_right, free) = good_id taken m (empty_prefix (bad_id taken m) (bad_in (secret_row ∷ []) m) bad) in
    let (secret_right, _rest) = no-bad m secret_row [] (empty_back (bad_id taken m) (bad_in (secret_row ∷ []) m) bad) in
    ((id_there, id_right, (secret_there, secret_right, tt)), free)

-- the first of several tables of keys, and the others, which stand after it
abbrev next : List ℕ → Members → List ℕ
next taken m = taken ++ number_at id_row m ∷ []

pub all_good_keys : (taken : List ℕ) (tables : List (ℕ × Members)) → keys_at missing_in (sheets part.Key tables) ≡ [] → bad_in_keys taken tables ≡ [] → AllGood key_rows tables
all_good_keys taken [] missing bad = tt
all_good_keys taken (t ∷ ts) missing bad =
    let here = empty_map (key_in part.Key t.0) (missing_in key_rows t.1) (keys_at missing_in (sheets part.Key ts)) missing in
    let right = empty_map (key_in part.Key t.0) (bad_in_key taken t.1) (bad_in_keys (next taken t.1) ts) bad in
    let later = empty_back (map (key_in part.Key t.0) (missing_in key_rows t.1)) (keys_at missing_in (sheets part.Key ts)) missing in
    let rest = empty_back (map (key_in part.Key t.0) (bad_in_key taken t.1)) (bad_in_keys (next taken t.1) ts) bad in
    ((good_key taken t.1 here right).0, all_good_keys (next taken t.1) ts later rest)
