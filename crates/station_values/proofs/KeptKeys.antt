-- The keys that a station keeps, at their places.
use Rattle.std.proofs.Common.{◌≡◌, ◌∙◌, ℕ, zero, suc, option_map, is_some, List, [], ◌∷◌, Some, sym, ap, map, slice_get}
use Rattle.std.proofs.lemmas.Bool.{true≢false}
use Rattle.station_values.specs.KeptStation.{key_kept}
use Rattle.station_values.specs.declared.shared_key.SharedKey.{SharedKey}

pub key-at : (keys : List SharedKey) (i : ℕ) (key : SharedKey) → slice_get keys i ≡ Some key → slice_get (map key_kept keys) i ≡ Some (key_kept key)
key-at [] i key h = absurd (true≢false (sym (ap is_some h)))
key-at (k ∷ keys) zero key h = ap (option_map key_kept) h
key-at (k ∷ keys) (suc i) key h = key-at keys i key h
