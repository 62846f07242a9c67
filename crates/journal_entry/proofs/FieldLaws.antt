-- Where the first field of a text ends.
use Rattle.std.proofs.Common.{◌≡◌, ℕ, ◌+◌, ◌-◌, ◌≤◌, Bool, true, false, cond, eqb, Some, None, List, [], ◌∷◌, ◌++◌, length, take, drop, refl, ap, sym, ◌∙◌, arith}
use Rattle.std.specs.List.{position_or_len, position}
use Rattle.std.proofs.lemmas.Bool.{ltb-false, or_parts}
use Rattle.std.proofs.lemmas.Option.{cond_some}
use Rattle.std.proofs.lemmas.List.{length-append, append-nil, take_at, take_rest}
use Rattle.std.proofs.Math.Seq.{drop-append-add}
use Rattle.journal_entry.specs.Texts.{spaced}
use Rattle.journal_entry.specs.Reading.{HasFields, has_space}

place_in : (field : List ℕ) (fields : List (List ℕ)) → has_space field ≡ false → position_or_len (λ byte. eqb byte 32) (field ++ spaced fields) ≡ length field
place_in [] [] none = refl
place_in [] (field ∷ fields) none = refl
place_in (byte ∷ bytes) fields none =
    let parts = or_parts (eqb byte 32) (has_space bytes) none in
    let later = place_in bytes fields parts.1 in
    rw parts.0 (omega arith)

not_found : (found : Bool) (n : ℕ) → cond found (Some n) None ≡ None → found ≡ false
not_found true n e = cc
not_found false n e = refl

-- at a space
pub ends_at : (rest field : List ℕ) (fields : List (List ℕ)) (place : ℕ) → has_space field ≡ false → HasFields rest (field ∷ fields) → position (λ byte. eqb byte 32) rest ≡ Some place →
    (take place rest ≡ field) × HasFields (take (length rest - (place + 1)) (drop (place + 1) rest)) fields
ends_at rest field fields place none h e =
    let first = ap (position_or_len (λ byte. eqb byte 32)) h.joined ∙ place_in field fields none in
    let here = sym (cond_some _ _ _ e).1 ∙ first in (
      ap (λ k. take k rest) here ∙ ap (take (length field)) h.joined ∙ take_at field (spaced fields) (length field) refl,
      record { joined = take_rest rest (place + 1) ∙ ap (λ k. drop (k + 1) rest) here ∙ ap (drop (length field + 1)) h.joined ∙ drop-append-add field (spaced fields) 1 },
    )

nothing_later : (field : List ℕ) (fields : List (List ℕ)) → length (field ++ spaced fields) ≤ length field → (field ++ spaced fields ≡ field) × HasFields [] fields
nothing_later field [] short = (append-nil field, record { joined = refl })
nothing_later field (next ∷ fields) short = absurd (omega (arith, length-append field (spaced (next ∷ fields))))

-- at the end
pub ends_last : (rest field : List ℕ) (fields : List (List ℕ)) → has_space field ≡ false → HasFields rest (field ∷ fields) → position (λ byte. eqb byte 32) rest ≡ None → (rest ≡ field) × HasFields [] fields
ends_last rest field fields none h e =
    let first = ap (position_or_len (λ byte. eqb byte 32)) h.joined ∙ place_in field fields none in
    let past = ltb-false (position_or_len (λ byte. eqb byte 32) rest) (length rest) (not_found _ (position_or_len (λ byte. eqb byte 32) rest) e) in
    let same = ap length h.joined in
    let nothing = nothing_later field fields (omega arith) in
    (h.joined ∙ nothing.0, nothing.1)
