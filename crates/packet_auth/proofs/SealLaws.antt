-- What is sealed is authentic by the identifier that it was sealed with.
use Rattle.std.proofs.Common.{◌≡◌, ℕ, ◌==◌, ◌^◌, ◌<◌, true, List, [], ◌∷◌, ◌++◌, length, take, drop, Some, bytes_eq, refl, sym, ap, ◌∙◌, inl, inr, arith, append_assoc, length-append}
use Rattle.std.specs.List.{list_any}
use Rattle.std.proofs.Math.Bool.{or-true}
use Rattle.std.proofs.Math.Seq.{take-append_seam, drop-append_seam}
use Rattle.std.proofs.lemmas.Bool.{cases_Bool}
use Rattle.std.proofs.lemmas.Slice.Eq.{bytes_eq-Decides}
use Rattle.byteorder.specs.Endian.{big_bytes, big_from}
use Rattle.byteorder.specs.Numbers.{big_number-reads_back, length-bytes_high_first}
use Rattle.md5.proofs.StandardFacts.{length-md5}
use Rattle.packet_auth.specs.Digests.{authentic, digest, sealed, vouches}
use Rattle.packet_auth.specs.Keys.{KeyFields, secret_of}
use Rattle.packet_auth.proofs.KeyLaws.{big_from-drop}

-- the key with an identifier vouches for what it sealed
vouched : (keys : List KeyFields) (id : ℕ) (d header : List ℕ) → list_any (λ key. key.id == id) keys ≡ true → take 48 d ≡ header → big_from 48 4 d ≡ id → drop 52 d ≡ digest (secret_of id keys) header → list_any (vouches d) keys ≡ true
vouched [] id d header has prefix named later = has
vouched (key ∷ keys) id d header has prefix named later = elim (cases_Bool (key.id == id)) [
  | inl same ↦
      let this : digest key.secret (take 48 d) ≡ drop 52 d = ap (digest key.secret) prefix ∙ sym (rw same at later) in
      let equal : bytes_eq (digest key.secret (take 48 d)) (drop 52 d) ≡ true = (bytes_eq-Decides (digest key.secret (take 48 d)) (drop 52 d)).1 this in
      rw (named, same, equal) refl
  | inr other ↦
      let rest = vouched keys id d header (rw other at has) prefix named (rw other at later) in
      rw rest (or-true _)
]

-- the parts of what is sealed
record HasParts (d header name made : List ℕ) : Type 0 where
  prefix : take 48 d ≡ header
  middle : drop 48 d ≡ name ++ made
  later : drop 52 d ≡ made

parts : (header name made : List ℕ) → length header ≡ 48 → length name ≡ 4 → HasParts ((header ++ name) ++ made) header name made
parts header name made long four =
    let one = append_assoc header name made in
    let both : length (header ++ name) ≡ 52 = omega (arith, length-append header name) in
    record {
      prefix = rw one (rw long at (take-append_seam header (name ++ made)));
      middle = rw one (rw long at (drop-append_seam header (name ++ made)));
      later = rw both at (drop-append_seam (header ++ name) made);
    }

pub sealed-length : (keys : List KeyFields) (id : ℕ) (header : List ℕ) → length header ≡ 48 → length (sealed keys id header) ≡ 68
sealed-length keys id header long =
    omega (arith, length-bytes_high_first 4 id, length-append (header ++ big_bytes 4 id) (digest (secret_of id keys) header), length-append header (big_bytes 4 id), length-md5 (secret_of id keys ++ header))

pub sealed-reads_back : (keys : List KeyFields) (id : ℕ) (header : List ℕ) → length header ≡ 48 → id < 2 ^ 32 → list_any (λ key. key.id == id) keys ≡ true → authentic keys (sealed keys id header) ≡ Some id
sealed-reads_back keys id header long fits has =
    let made = digest (secret_of id keys) header in
    let p = parts header (big_bytes 4 id) made long (length-bytes_high_first 4 id) in
    let named : big_from 48 4 (sealed keys id header) ≡ id = sym (big_from-drop 0 4 48 (sealed keys id header)) ∙ ap (big_from 0 4) p.middle ∙ big_number-reads_back 4 id made fits in
    let any = vouched keys id (sealed keys id header) header has p.prefix named p.later in
    rw (sealed-length keys id header long, any, named) refl
