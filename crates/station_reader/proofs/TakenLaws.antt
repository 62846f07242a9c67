-- The identifiers of keys: those that stand before a table, and the values at fault of the tables of keys.
use Rattle.std.proofs.Common.{◌≡◌, ◌∙◌, ◌+◌, ◌<◌, ◌≤◌, ◌==◌, ◌||◌, ℕ, zero, suc, Bool, true, false, List, [], ◌∷◌, ◌++◌, Some, None, refl, sym, ap, arith, drop, get_or, length, map, slice_get, subst, take, append_assoc, append-nil}
use Rattle.std.specs.List.{list_any}
use Rattle.std.proofs.Math.Bool.{or-false}
use Rattle.std.proofs.lemmas.List.{drop_all}
use Rattle.std.proofs.lemmas.List.Folds.{list_any-append}
use Rattle.toml.specs.Data.{Data, Members, array, as_table, boolean, datetime, float, integer, string, table}
use Rattle.toml.specs.View.{items_view, view}
use Rattle.toml.specs.declared.value.Value.{Value}
use Rattle.toml.proofs.Views.{items_view-drop}
use Rattle.station_reader.specs.Faults.{bad_in, bad_in_key, bad_in_keys, is_bad, is_taken, key_in}
use Rattle.station_reader.specs.Finding.{ids_at, ids_in}
use Rattle.station_reader.specs.Forms.{number_at, table_at, tables_from}
use Rattle.station_reader.specs.Rows.{id_row, secret_row}
use Rattle.station_reader.specs.declared.keys.Part.TheVariants as part
use Rattle.station_reader.proofs.Firsts.{no_table, some_table}
use Rattle.station_reader.proofs.Walks.{rest_from}

-- ---- whether one stands among values

abbrev is : ℕ → ℕ → Bool
is id other = other == id

pub of-no-table : (d : Data) (id : ℕ) → None ≡ as_table d → list_any (λ other. other == id) (ids_at d) ≡ false
of-no-table d id e = ap (λ ts. list_any (is id) (map (λ t. number_at id_row t.1) ts)) (no_table 0 d e)

pub of-table : (d : Data) (m : Members) (id : ℕ) → Some m ≡ as_table d → list_any (λ other. other == id) (ids_at d) ≡ (number_at id_row m == id)
of-table d m id e = ap (λ ts. list_any (is id) (map (λ t. number_at id_row t.1) ts)) (some_table 0 d m e) ∙ or-false (number_at id_row m == id)

pub taken-step : (items : List Value) (i : ℕ) (here : Value) (id : ℕ) → i < length items → here ≡ get_or items i here
    → list_any (λ other. other == id) (ids_in (items_view (drop i items))) ≡ (list_any (λ other. other == id) (ids_at (view here)) || list_any (λ other. other == id) (ids_in (items_view (drop (i + 1) items))))
taken-step items i here id h e =
    ap (λ ds. list_any (is id) (ids_in ds)) (items_view-drop items i here h)
    ∙ list_any-append (is id) (ids_at (view (get_or items i here))) (ids_in (items_view (drop (i + 1) items)))
    ∙ ap (λ v. list_any (is id) (ids_at (view v)) || list_any (is id) (ids_in (items_view (drop (i + 1) items)))) (sym e)

pub taken-end : (items : List Value) (i id : ℕ) → length items ≤ i → list_any (λ other. other == id) (ids_in (items_view (drop i items))) ≡ false
taken-end items i id h = ap (λ vs. list_any (is id) (ids_in (items_view vs))) (drop_all i items h)

-- ---- one table of a key

pub id-first : (taken : List ℕ) (m : Members) → (is_bad m id_row || is_taken taken m) ≡ true → slice_get (bad_in_key taken m) 0 ≡ Some id_row.key
id-first taken m h = rw h refl

pub id-past : (taken : List ℕ) (m : Members) → (is_bad m id_row || is_taken taken m) ≡ false → bad_in_key taken m ≡ bad_in (secret_row ∷ []) m
id-past taken m h = rw h refl

pub secret-first : (m : Members) → is_bad m secret_row ≡ true → slice_get (bad_in (secret_row ∷ []) m) 0 ≡ Some secret_row.key
secret-first m h = rw h refl

pub secret-past : (m : Members) → is_bad m secret_row ≡ false → bad_in (secret_row ∷ []) m ≡ []
secret-past m h = rw h refl

-- ---- the tables of keys

-- the identifiers of tables
abbrev ids : List (ℕ × Members) → List ℕ
ids tables = map (λ t. number_at id_row t.1) tables

bad-append : (taken : List ℕ) (xs ys : List (ℕ × Members)) → bad_in_keys taken (xs ++ ys) ≡ bad_in_keys taken xs ++ bad_in_keys (taken ++ ids xs) ys
bad-append taken [] ys = ap (λ ns. bad_in_keys ns ys) (sym (append-nil taken))
bad-append taken (x ∷ xs) ys =
    let here = map (key_in part.Key x.0) (bad_in_key taken x.1) in
    let next = taken ++ number_at id_row x.1 ∷ [] in
    ap (λ ks. here ++ ks) (bad-append next xs ys ∙ ap (λ ns. bad_in_keys next xs ++ bad_in_keys ns ys) (append_assoc taken (number_at id_row x.1 ∷ []) (ids xs)))
    ∙ sym (append_assoc here (bad_in_keys next xs) (bad_in_keys (taken ++ ids (x ∷ xs)) ys))

ids-at : (i : ℕ) (d : Data) → ids (table_at i d) ≡ ids_at d
ids-at i (string s) = refl
ids-at i (integer z) = refl
ids-at i (float x) = refl
ids-at i (boolean b) = refl
ids-at i (datetime t) = refl
ids-at i (array ds) = refl
ids-at i (table ms) = refl

-- those of one value more
ids-take : (items : List Value) (i : ℕ) (d : Value) → i < length items → ids_in (items_view (take (i + 1) items)) ≡ ids_in (items_view (take i items)) ++ ids_at (view (get_or items i d))
ids-take [] i d h = absurd (omega arith)
ids-take (v ∷ vs) zero d h = append-nil (ids_at (view v))
ids-take (v ∷ vs) (suc i) d h =
    let next : suc i + 1 ≡ suc (i + 1) = omega arith in
    ap (λ n. ids_in (items_view (take n (v ∷ vs)))) next
    ∙ ap (λ xs. ids_at (view v) ++ xs) (ids-take vs i d (omega arith))
    ∙ sym (append_assoc (ids_at (view v)) (ids_in (items_view (take i vs))) (ids_at (view (get_or vs i d))))

-- what is left to say of the values at fault from a place on
abbrev pub left : List Value → ℕ → List (List ℕ)
left items i = bad_in_keys (ids_in (items_view (take i items))) (tables_from i (items_view (drop i items)))

pub left-step : (items : List Value) (i : ℕ) (here : Value) → i < length items → here ≡ get_or items i here
    → left items i ≡ bad_in_keys (ids_in (items_view (take i items))) (table_at i (view here)) ++ left items (i + 1)
left-step items i here h e =
    let taken = ids_in (items_view (take i items)) in
    let first = table_at i (view (get_or items i here)) in
    let rest = tables_from (i + 1) (items_view (drop (i + 1) items)) in
    let more : taken ++ ids first ≡ ids_in (items_view (take (i + 1) items)) = ap (λ ns. taken ++ ns) (ids-at i (view (get_or items i here))) ∙ sym (ids-take items i here h) in
    ap (bad_in_keys taken) (rest_from items i here h)
    ∙ bad-append taken first rest
    ∙ ap (λ ns. bad_in_keys taken first ++ bad_in_keys ns rest) more
    ∙ ap (λ v. bad_in_keys taken (table_at i (view v)) ++ left items (i + 1)) (sym e)

pub left-end : (items : List Value) (i : ℕ) → length items ≤ i → left items i ≡ []
left-end items i h = ap (λ vs. bad_in_keys (ids_in (items_view (take i items))) (tables_from i (items_view vs))) (drop_all i items h)
