-- Keys of which no identifier stands twice.
use Rattle.std.proofs.Common.{◌≡◌, ◌∙◌, ◌⊎◌, ◌==◌, ◌||◌, ℕ, zero, suc, false, List, [], ◌∷◌, ◌++◌, Some, refl, sym, ap, map, subst, take, slice_get, append_assoc, append-nil, inl, inr, is_some}
use Rattle.std.proofs.lemmas.Bool.{true≢false}
use Rattle.std.proofs.lemmas.List.{map-append}
use Rattle.std.proofs.lemmas.Option.{same_Some}
use Rattle.toml.specs.Data.{Members}
use Rattle.packet_auth.specs.Keys.{AreApart, KeyFields, has_id}
use Rattle.station_reader.specs.Faults.{bad_id, bad_in, bad_in_key, bad_in_keys, is_taken, key_in}
use Rattle.station_reader.specs.Forms.{number_at}
use Rattle.station_reader.specs.Rows.{id_row, key_of, secret_row}
use Rattle.station_reader.specs.declared.keys.Part.TheVariants as part
use Rattle.station_reader.proofs.Firsts.{empty_back, empty_prefix, empty_map}
use Rattle.station_reader.proofs.GoodTables.{good_id}

apart_none : AreApart []
apart_none i key h = absurd (true≢false (sym (ap is_some h)))

-- the item at a place of a list with one more at its end: one of the list, or the last
one_of : (keys : List KeyFields) (last : KeyFields) (i : ℕ) (key : KeyFields) → slice_get (keys ++ last ∷ []) i ≡ Some key
    → ((slice_get keys i ≡ Some key) × (take i (keys ++ last ∷ []) ≡ take i keys)) ⊎ ((key ≡ last) × (take i (keys ++ last ∷ []) ≡ keys))
one_of [] last zero key h = inr (same_Some key last (sym h), refl)
one_of [] last (suc i) key h = absurd (true≢false (sym (ap is_some h)))
one_of (k ∷ keys) last zero key h = inl (h, refl)
one_of (k ∷ keys) last (suc i) key h = elim (one_of keys last i key h) [
  | inl p ↦ inl (p.0, ap (λ ks. k ∷ ks) p.1)
  | inr p ↦ inr (p.0, ap (λ ks. k ∷ ks) p.1)
]

apart_more : (keys : List KeyFields) (last : KeyFields) → AreApart keys → has_id last.id keys ≡ false → AreApart (keys ++ last ∷ [])
apart_more keys last apart other i key h = elim (one_of keys last i key h) [
  | inl p ↦ ap (has_id key.id) p.1 ∙ apart i key p.0
  | inr p ↦ ap (has_id key.id) p.1 ∙ ap (λ k. has_id k.id keys) p.0 ∙ other
]

-- ---- the keys of tables whose values are no faults

abbrev ids_of : List KeyFields → List ℕ
ids_of keys = map (λ key. key.id) keys

taken-is : (keys : List KeyFields) (m : Members) → has_id (number_at id_row m) keys ≡ is_taken (ids_of keys) m
taken-is [] m = refl
taken-is (k ∷ keys) m = ap (λ b. (k.id == number_at id_row m) || b) (taken-is keys m)

apart_after : (before : List KeyFields) (tables : List (ℕ × Members)) → AreApart before → bad_in_keys (ids_of before) tables ≡ [] → AreApart (before ++ map (λ t. key_of t.1) tables)
apart_after before [] apart h = subst AreApart (sym (append-nil before)) apart
apart_after before (t ∷ ts) apart h =
    let taken = ids_of before in
    let more = before ++ key_of t.1 ∷ [] in
    let here = empty_map (key_in part.Key t.0) (bad_in_key taken t.1) (bad_in_keys (taken ++ number_at id_row t.1 ∷ []) ts) h in
    let later = empty_back (map (key_in part.Key t.0) (bad_in_key taken t.1)) (bad_in_keys (taken ++ number_at id_row t.1 ∷ []) ts) h in
    let free = (good_id taken t.1 (empty_prefix (bad_id taken t.1) (bad_in (secret_row ∷ []) t.1) here)).1 in
    let ids : ids_of more ≡ taken ++ number_at id_row t.1 ∷ [] = map-append (λ key. key.id) before (key_of t.1 ∷ []) in
    let rest = apart_after more ts (apart_more before (key_of t.1) apart (taken-is before t.1 ∙ free)) (ap (λ xs. bad_in_keys xs ts) ids ∙ later) in
    subst AreApart (append_assoc before (key_of t.1 ∷ []) (map (λ x. key_of x.1) ts)) rest

pub apart_all : (tables : List (ℕ × Members)) → bad_in_keys [] tables ≡ [] → AreApart (map (λ t. key_of t.1) tables)
apart_all tables h = apart_after [] tables apart_none h
