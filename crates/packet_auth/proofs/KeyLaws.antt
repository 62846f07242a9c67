-- Keys as they are kept and as definitions see them: which of them has an identifier, and which vouches for a datagram.
use Rattle.std.proofs.Common.{◌≡◌, ℕ, zero, suc, ◌+◌, ◌==◌, ◌&&◌, ◌||◌, Bool, true, false, List, [], ◌∷◌, length, take, drop, map, slice_index, Some, None, bytes_eq, if◌then◌else◌, refl, sym, ap, ◌∙◌, inl, inr, option_map, is_some, arith, add-suc, get_or-drop, drop-drop}
use Rattle.std.specs.Bool.{then_some}
use Rattle.std.specs.Prelude.{IfSome}
use Rattle.std.specs.List.{find, list_any}
use Rattle.std.proofs.lemmas.Bool.{and_parts, cases_Bool}
use Rattle.byteorder.specs.Endian.{big_from}
use Rattle.byteorder.specs.Numbers.{big_from-take}
use Rattle.packet_auth.specs.Digests.{authentic, digest, vouches}
use Rattle.packet_auth.specs.Keys.{KeyFields, has_id, key_fields, secret_in, secret_of}
use Rattle.packet_auth.specs.declared.key.Key.{Key}

list_any-map : {X Y : Type 0} (p : Y → Bool) (h : X → Y) (xs : List X) → list_any p (map h xs) ≡ list_any (λ x. p (h x)) xs
list_any-map p h [] = refl
list_any-map p h (x ∷ xs) = ap (λ b. p (h x) || b) (list_any-map p h xs)

find-map : {X Y : Type 0} (p : Y → Bool) (h : X → Y) (xs : List X) → find p (map h xs) ≡ option_map h (find (λ x. p (h x)) xs)
find-map p h [] = refl
find-map p h (x ∷ xs) = elim (cases_Bool (p (h x))) [
  | inl passes ↦ rw passes refl
  | inr fails ↦ rw fails (find-map p h xs)
]

list_any-find : {X : Type 0} (p : X → Bool) (xs : List X) → list_any p xs ≡ is_some (find p xs)
list_any-find p [] = refl
list_any-find p (x ∷ xs) = elim (cases_Bool (p x)) [
  | inl passes ↦ rw passes refl
  | inr fails ↦ rw fails (list_any-find p xs)
]

-- the number of n bytes that stands further on
pub big_from-drop : (i n place : ℕ) (xs : List ℕ) → big_from i n (drop place xs) ≡ big_from (place + i) n xs
big_from-drop i zero place xs = refl
big_from-drop i (suc n) place xs =
    let byte : slice_index (drop place xs) i ≡ slice_index xs (place + i) = get_or-drop place xs i 0 in
    let rest : big_from (suc i) n (drop place xs) ≡ big_from (suc (place + i)) n xs = rw (← add-suc place i) (big_from-drop (suc i) n place xs) in
    rw (byte, rest) refl

-- the identifier after a header
id-named : (d : List ℕ) → big_from 0 4 (take 4 (drop 48 d)) ≡ big_from 48 4 d
id-named d = big_from-take 0 4 4 (drop 48 d) (omega arith) ∙ big_from-drop 0 4 48 d

-- a datagram in its three parts: the header, the identifier and the digest
pub record IsParted (d prefix named made : List ℕ) : Type 0 where
  pub long : length d ≡ 68
  pub header : prefix ≡ take 48 d
  pub name : named ≡ take 4 (drop 48 d)
  pub claimed : made ≡ drop 4 (drop 48 d)

some-id : (found : Bool) (id : ℕ) → (if found then Some id else None) ≡ then_some found id
some-id true id = refl
some-id false id = refl

-- the answer, by whether one of the keys vouches
pub authentic-by : (keys : List Key) (d header name claimed : List ℕ) (id : ℕ) (found : Bool) → IsParted d header name claimed → id ≡ big_from 0 4 name → found ≡ list_any (λ key. (key_fields key).id == id && bytes_eq (digest (key_fields key).secret header) claimed) keys → authentic (map key_fields keys) d ≡ then_some found id
authentic-by keys d header name claimed id found parted named any =
    let names : id ≡ big_from 48 4 d = named ∙ ap (big_from 0 4) parted.name ∙ id-named d in
    let later : claimed ≡ drop 52 d = parted.claimed ∙ drop-drop 4 48 d in
    let all : found ≡ list_any (λ key. (key_fields key).id == big_from 48 4 d && bytes_eq (digest (key_fields key).secret (take 48 d)) (drop 52 d)) keys = rw (parted.header, later, names) at any in
    rw (parted.long, list_any-map (vouches d) key_fields keys, ← all, ← names) (some-id found id)

-- one of the keys has the identifier
pub has_id-kept : (keys : List Key) (id : ℕ) → list_any (λ key. key.id == id) (map key_fields keys) ≡ list_any (λ key. key.id == id) keys
has_id-kept keys id = list_any-map (λ key. key.id == id) key_fields keys

-- the secret of the key that was found
pub secret-found : (keys : List Key) (id : ℕ) (key : Key) → find (λ k. k.id == id) keys ≡ Some key → secret_of id (map key_fields keys) ≡ (key_fields key).secret
secret-found keys id key found = ap secret_in (find-map (λ k. k.id == id) key_fields keys ∙ ap (option_map key_fields) found)

-- where one of the keys has the identifier, one is found
pub one-found : (keys : List Key) (id : ℕ) → list_any (λ key. key.id == id) keys ≡ true → is_some (find (λ k. k.id == id) keys) ≡ true
one-found keys id has = sym (list_any-find (λ key. key.id == id) keys) ∙ has

has-vouched : (d : List ℕ) (keys : List KeyFields) → list_any (vouches d) keys ≡ true → has_id (big_from 48 4 d) keys ≡ true
has-vouched d [] any = any
has-vouched d (key ∷ keys) any = elim (cases_Bool (key.id == big_from 48 4 d)) [
  | inl same ↦ rw same refl
  | inr other ↦ rw other (has-vouched d keys (rw other at any))
]

-- the identifier by which a datagram is authentic is that of a key
pub authentic-known : (keys : List KeyFields) (d : List ℕ) → IfSome (authentic keys d) (λ id. has_id id keys ≡ true)
authentic-known keys d = elim (cases_Bool (length d == 68 && list_any (vouches d) keys)) [
  | inl all ↦ rw all (has-vouched d keys ((and_parts (length d == 68) (list_any (vouches d) keys) all).1))
  | inr none ↦ rw none tt
]
