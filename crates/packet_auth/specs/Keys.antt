-- The keys that a server shares with its clients (RFC 5905, section 7.3): each is an identifier of 32 bits and a secret.
use Rattle.std.specs.Prelude.{◌≡◌, ℕ, ◌==◌, Bool, false, List, [], map, take, Option, Some, None, slice_get}
use Rattle.std.specs.List.{find, list_any}
use Rattle.packet_auth.specs.declared.key.Key.{Key}
use Rattle.packet_auth.specs.declared.ring.KeyRing.{KeyRing}

pub record KeyFields : Type 0 where
  pub id : ℕ
  pub secret : List ℕ

-- the key that is kept in an array of 32 bytes
abbrev pub key_fields : Key → KeyFields
key_fields key = record { id = key.id; secret = take key.size key.bytes }

-- the keys of a ring, in the order in which they were added
abbrev pub keys_of : KeyRing → List KeyFields
keys_of ring = map key_fields (take ring.count ring.keys)

-- one of the keys has this identifier
abbrev pub has_id : ℕ → List KeyFields → Bool
has_id id keys = list_any (λ key. key.id == id) keys

-- the secret of the key with this identifier
abbrev pub secret_in : Option KeyFields → List ℕ
secret_in None = []
secret_in (Some key) = key.secret

abbrev pub secret_of : ℕ → List KeyFields → List ℕ
secret_of id keys = secret_in (find (λ key. key.id == id) keys)

-- no key has the identifier of a key before it
abbrev pub AreApart : List KeyFields → Type 0
AreApart keys = (i : ℕ) (key : KeyFields) → slice_get keys i ≡ Some key → has_id key.id (take i keys) ≡ false
